-- Believed: the text of the report program (document 01, "The report program"; document 02, CR 2).
--
--   decimal         a number's digits
--   numbers_text    numbers, each behind a space: "One space parts the words of a line"
--   entries_text    so for entries
--   counts_line, signature_line, circuit_line, refused_line, alike_line   the lines, "every line ends with a newline"
--   circuit_lines   the lines of circuits 0 to c − 1
--   job_text        the text of a job that has a signature
--   report_text     the text for the bytes of a job
--   max_text        no text is longer
--   reported        what is written where
use Rattle.std.specs.Prelude.{ℕ, zero, suc, Option, Some, None, ◌+◌, ◌*◌, ◌/◌, ◌%◌, cond, List, [], ◌∷◌, ◌++◌, leb, ltb, length}
use Rattle.bits.specs.Answer.{Answer, Fills, leaves}
use Rattle.bits.specs.Answer.Answer.{gives, refused}
use Rattle.bits.specs.Slices.{splice}
use Rattle.job.specs.Layout.{max_faults}
use Rattle.job.specs.declared.Job.{Job}
use Rattle.reading.specs.Reading.{reading}
use Rattle.tables.specs.Family.{Family, family_of}
use Rattle.tables.specs.Operations.{counts_of}
use Rattle.tables.specs.declared.Counts.{Counts}
use Rattle.spectra.specs.Listed.{Entry, readings_of}
use Rattle.spectra.specs.declared.Kind.TheVariants.{Mrm}
use Rattle.choosing.specs.Choosing.{Finding, chosen_from, chosen_of}
use Rattle.choosing.specs.Choosing.Finding.{chosen, alike}
use Rattle.choosing.specs.declared.Purpose.TheVariants.{Isolating}

abbrev pub space : ℕ
space = 32

abbrev pub colon : ℕ
colon = 58

abbrev pub newline : List ℕ
newline = 10 ∷ []

-- "inputs "
unfoldable pub inputs_word : List ℕ
inputs_word = 105 ∷ 110 ∷ 112 ∷ 117 ∷ 116 ∷ 115 ∷ 32 ∷ []

-- " gates "
unfoldable pub gates_word : List ℕ
gates_word = 32 ∷ 103 ∷ 97 ∷ 116 ∷ 101 ∷ 115 ∷ 32 ∷ []

-- " faults "
unfoldable pub faults_word : List ℕ
faults_word = 32 ∷ 102 ∷ 97 ∷ 117 ∷ 108 ∷ 116 ∷ 115 ∷ 32 ∷ []

-- "signature"
unfoldable pub signature_word : List ℕ
signature_word = 115 ∷ 105 ∷ 103 ∷ 110 ∷ 97 ∷ 116 ∷ 117 ∷ 114 ∷ 101 ∷ []

-- "refused "
unfoldable pub refused_word : List ℕ
refused_word = 114 ∷ 101 ∷ 102 ∷ 117 ∷ 115 ∷ 101 ∷ 100 ∷ 32 ∷ []

-- "refused 15 "
unfoldable pub alike_word : List ℕ
alike_word = 114 ∷ 101 ∷ 102 ∷ 117 ∷ 115 ∷ 101 ∷ 100 ∷ 32 ∷ 49 ∷ 53 ∷ 32 ∷ []

-- so many digits at most, the last ones
unfoldable pub digits : ℕ → ℕ → List ℕ
digits zero n = []
digits (suc left) n = cond (ltb n 10) ((48 + n) ∷ []) (digits left (n / 10) ++ ((48 + n % 10) ∷ []))

unfoldable pub decimal : ℕ → List ℕ
decimal n = digits (suc n) n

unfoldable pub numbers_text : List ℕ → List ℕ
numbers_text [] = []
numbers_text (v ∷ l) = (space ∷ decimal v) ++ numbers_text l

-- "The report prints an entry as index, colon, output"
abbrev pub entry_text : Entry → List ℕ
entry_text e = (space ∷ decimal e.index) ++ (colon ∷ decimal e.output)

unfoldable pub entries_text : List Entry → List ℕ
entries_text [] = []
entries_text (e ∷ l) = entry_text e ++ entries_text l

-- "The first line gives the three counts"
abbrev pub counts_line : Counts → List ℕ
counts_line c = inputs_word ++ decimal c.inputs ++ gates_word ++ decimal c.gates ++ faults_word ++ decimal c.faults ++ newline

-- "the second the signature"; "An empty signature prints `signature` alone"
abbrev pub signature_line : List Entry → List ℕ
signature_line l = signature_word ++ entries_text l ++ newline

-- "the rest a circuit and its coefficients in signature order"
abbrev pub circuit_line : ℕ → List ℕ → List ℕ
circuit_line c numbers = decimal c ++ numbers_text numbers ++ newline

unfoldable pub circuit_lines : (ℕ → List ℕ) → ℕ → List ℕ
circuit_lines numbers zero = []
circuit_lines numbers (suc c) = circuit_lines numbers c ++ circuit_line c (numbers c)

-- "A refusal prints one line only, as `refused 9` or, with the pair, `refused 15 0 1`."
abbrev pub refused_line : ℕ → List ℕ
refused_line i = refused_word ++ decimal i ++ newline

abbrev pub alike_line : ℕ → ℕ → List ℕ
alike_line a b = alike_word ++ decimal a ++ (space ∷ decimal b) ++ newline

-- by MRM at polarity 0
abbrev pub job_text : Counts → Family → List Entry → List ℕ
job_text counts F list =
    counts_line counts ++ signature_line list ++ circuit_lines (readings_of Mrm 0 F list) F.circuits

abbrev pub finding_text : Counts → Family → Finding → List ℕ
finding_text counts F (chosen list) = job_text counts F list
finding_text counts F (alike a b) = alike_line a b

abbrev pub chosen_text : Counts → Family → Answer (Fills Finding) → List ℕ
chosen_text counts F (gives w) = finding_text counts F w.value
chosen_text counts F (refused i) = refused_line i

-- "isolates by MRM at polarity 0": the text for the bytes, with so many places of work
abbrev pub report_by : Answer Job → ℕ → List ℕ
report_by (gives j) room = chosen_text (counts_of j) (family_of j) (chosen_from Isolating (family_of j) Mrm 0 room)
report_by (refused i) room = refused_line i

abbrev pub report_text : List ℕ → ℕ → List ℕ
report_text s room = report_by (reading s) room

-- the work at exit
abbrev pub work_left : List ℕ → List ℕ → List ℕ
work_left s work = (leaves (chosen_of Isolating s Mrm 0 (length work)) work).memory

-- 28 characters of counts; 10 of a signature's line and 6 for each entry, which are no more than faults; a line for each circuit, of 3 and 4 for each entry
unfoldable pub max_text : ℕ
max_text = 28 + (10 + 6 * max_faults) + (max_faults + 1) * (3 + 4 * max_faults)

pub record Report : Type 0 where
  pub answer : Option ℕ
  pub work : List ℕ
  pub text : List ℕ

-- with less room than the longest text nothing is written, to the work neither
unfoldable pub reported : List ℕ → List ℕ → List ℕ → Report
reported s work out =
    cond (leb max_text (length out))
    (record {
      answer = Some (length (report_text s (length work)));
      work = work_left s work;
      text = splice out 0 (report_text s (length work));
    })
    (record { answer = None; work = work; text = out })
