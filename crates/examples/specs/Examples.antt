-- Believed: the examples of document 01, "Proved examples, P1 to P10", "rewritten with the new field" (document 02, CR 2); "in document
-- 01's examples fault c has part c" (CR 3).
--
--   Example    a call and what it is to answer
--   passes      the definitions answer so
--   job_a, text_a   "job A" of the report program, and what it prints
--   examples   the list
use Rattle.std.specs.Prelude.{ℕ, ◌^◌, Bool, true, false, ◌&&◌, List, [], ◌∷◌, eqb, take}
use Rattle.bits.specs.Answer.{Answer, Fills}
use Rattle.bits.specs.Answer.Answer.{gives, refused}
use Rattle.bits.specs.Bounds.{all_below}
use Rattle.job.specs.declared.Job.{Job}
use Rattle.reading.specs.Reading.{reading}
use Rattle.spectra.specs.Operations.{spectrum_of, undone_of, same_numbers}
use Rattle.spectra.specs.declared.Kind.{Kind}
use Rattle.spectra.specs.declared.Kind.TheVariants.{Rm, Mrm}
use Rattle.method.specs.Method.{Pair}
use Rattle.method.specs.Method.Pair.{nobody, pair}
use Rattle.choosing.specs.Choosing.{AtExit, chosen_of, counts_in, at_exit}
use Rattle.choosing.specs.declared.Purpose.{Purpose}
use Rattle.choosing.specs.declared.Purpose.TheVariants.{Isolating, Detecting}
use Rattle.chooser.specs.Matrix.{zeros}
use Rattle.report_text.specs.Text.{report_text}

pub data Example : Type 0 where
  -- the bytes are refused with a number
  refuses : List ℕ → ℕ → Example
  -- the bytes are a job with so many inputs, gates, outputs and faults
  counts : List ℕ → ℕ → ℕ → ℕ → ℕ → Example
  -- the table of so many inputs has this spectrum, of a kind and in a polarity
  transforms : ℕ → List ℕ → Kind → ℕ → List ℕ → Example
  -- undoing these numbers, of so many inputs, a kind and a polarity, gives the table
  undoes : ℕ → List ℕ → Kind → ℕ → List ℕ → Example
  -- or is refused with a number
  undoes_not : ℕ → List ℕ → Kind → ℕ → ℕ → Example
  -- the signature chosen for the job that the bytes give, for a purpose and of a kind, in polarity 0: entries of output 0
  chooses : Purpose → List ℕ → Kind → List ℕ → Example
  -- or the refusal's number, with the pair of circuits that are alike
  chooses_not : Purpose → List ℕ → Kind → ℕ → ℕ → ℕ → Example
  -- the report program prints this text for the bytes
  prints : List ℕ → List ℕ → Example

abbrev pub is_refused : {A : Type 0} → Answer A → ℕ → Bool
is_refused (gives a) k = false
is_refused (refused e) k = eqb e k

abbrev pub has_counts : Answer Job → ℕ → ℕ → ℕ → ℕ → Bool
has_counts (gives j) n g o f = eqb j.inputs n && eqb j.gate_count g && eqb j.output_count o && eqb j.fault_count f
has_counts (refused e) n g o f = false

abbrev pub fills_with : Answer (Fills (Unit {0})) → List ℕ → Bool
fills_with (gives w) numbers = same_numbers w.filled numbers
fills_with (refused e) numbers = false

-- what choosing answers and leaves, in polarity 0, with 16 places of work
abbrev pub chosen_at : Purpose → List ℕ → Kind → AtExit
chosen_at purpose s kind = at_exit (counts_in (reading s)) (chosen_of purpose s kind 0 16) (zeros 16)

abbrev pub is_signature : AtExit → List ℕ → Bool
is_signature x numbers =
    eqb x.number 0 && same_numbers (take x.signature.count x.signature.indices) numbers
    && all_below 1 (take x.signature.count x.signature.outputs)

abbrev pub is_pair : Pair → ℕ → ℕ → Bool
is_pair nobody a b = false
is_pair (pair c d) a b = eqb c a && eqb d b

abbrev pub is_alike : AtExit → ℕ → ℕ → ℕ → Bool
is_alike x e a b = eqb x.number e && is_pair x.pair a b

-- the lent memory has just the room that is needed, 2 ^ n places or bytes being enough
unfoldable pub passes : Example → Bool
passes (refuses s k) = is_refused (reading s) k
passes (counts s n g o f) = has_counts (reading s) n g o f
passes (transforms n s kind k numbers) = fills_with (spectrum_of n s kind k (2 ^ n)) numbers
passes (undoes n numbers kind k s) = fills_with (undone_of n numbers kind k (2 ^ n)) s
passes (undoes_not n numbers kind k e) = is_refused (undone_of n numbers kind k (2 ^ n)) e
passes (chooses purpose s kind numbers) = is_signature (chosen_at purpose s kind) numbers
passes (chooses_not purpose s kind e a b) = is_alike (chosen_at purpose s kind) e a b
passes (prints s text) = same_numbers (report_text s 16) text

unfoldable pub all_pass : List Example → Bool
all_pass [] = true
all_pass (e ∷ es) = passes e && all_pass es

unfoldable pub job_a : List ℕ
job_a = 0x20 ∷ 0x20 ∷ 0x00 ∷ 0x10 ∷ 0x10 ∷ 0x60 ∷ 0x00 ∷ 0x00 ∷ 0xa0 ∷ 0x00 ∷ 0x04 ∷ 0x81 ∷ 0x02 ∷ 0x18 ∷ []

-- what the report program prints for job A, line by line
unfoldable pub text_a : List ℕ
text_a =
    -- inputs 2 gates 1 faults 3
    105 ∷ 110 ∷ 112 ∷ 117 ∷ 116 ∷ 115 ∷ 32 ∷ 50 ∷ 32 ∷ 103 ∷ 97 ∷ 116 ∷ 101 ∷ 115 ∷ 32 ∷ 49 ∷ 32 ∷ 102 ∷ 97 ∷ 117 ∷ 108 ∷ 116 ∷ 115 ∷ 32 ∷ 51 ∷ 10
    -- signature 1:0 3:0
    ∷ 115 ∷ 105 ∷ 103 ∷ 110 ∷ 97 ∷ 116 ∷ 117 ∷ 114 ∷ 101 ∷ 32 ∷ 49 ∷ 58 ∷ 48 ∷ 32 ∷ 51 ∷ 58 ∷ 48 ∷ 10
    -- 0 0 1
    ∷ 48 ∷ 32 ∷ 48 ∷ 32 ∷ 49 ∷ 10
    -- 1 0 0
    ∷ 49 ∷ 32 ∷ 48 ∷ 32 ∷ 48 ∷ 10
    -- 2 0 2
    ∷ 50 ∷ 32 ∷ 48 ∷ 32 ∷ 50 ∷ 10
    -- 3 1 2
    ∷ 51 ∷ 32 ∷ 49 ∷ 32 ∷ 50 ∷ 10
    ∷ []

unfoldable pub examples : List Example
examples =
    -- P1
    refuses [] 1
    -- P2
    ∷ counts (0x10 ∷ 0x00 ∷ 0x00 ∷ 0x00 ∷ []) 1 0 1 0
    ∷ chooses Isolating (0x10 ∷ 0x00 ∷ 0x00 ∷ 0x00 ∷ []) Mrm []
    -- P3
    ∷ refuses (0x10 ∷ 0x00 ∷ 0x00 ∷ 0x00 ∷ 0x00 ∷ []) 9
    -- P4
    ∷ transforms 3 (0x5d ∷ []) Rm 0 (0 ∷ 1 ∷ 0 ∷ 0 ∷ 1 ∷ 1 ∷ 1 ∷ 1 ∷ [])
    -- P5
    ∷ transforms 3 (0x5d ∷ []) Mrm 5 (1 ∷ 2 ∷ 2 ∷ 3 ∷ 2 ∷ 3 ∷ 4 ∷ 5 ∷ [])
    -- P6
    ∷ transforms 4 (0x1d ∷ 0xe2 ∷ []) Mrm 0 (0 ∷ 0 ∷ 0 ∷ 1 ∷ 1 ∷ 2 ∷ 1 ∷ 4 ∷ 1 ∷ 2 ∷ 2 ∷ 4 ∷ 2 ∷ 4 ∷ 4 ∷ 8 ∷ [])
    -- P7
    ∷ undoes_not 1 (1 ∷ 0 ∷ []) Mrm 0 14
    ∷ undoes 1 (1 ∷ 2 ∷ []) Mrm 0 (0xc0 ∷ [])
    -- P8
    ∷ chooses Isolating job_a Rm (1 ∷ 2 ∷ 3 ∷ [])
    ∷ chooses Isolating job_a Mrm (1 ∷ 3 ∷ [])
    -- P9
    ∷ chooses Detecting job_a Rm (3 ∷ [])
    -- P10
    ∷ chooses_not Isolating (0x20 ∷ 0x20 ∷ 0x00 ∷ 0x10 ∷ 0x10 ∷ 0x30 ∷ 0x00 ∷ 0x20 ∷ 0x80 ∷ []) Mrm 15 0 1
    -- the report program on job A
    ∷ prints job_a text_a
    ∷ []
