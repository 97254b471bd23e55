-- Believed: choosing a signature for listed circuits, and for a job (document 01, "Choosing" and "Refusal by operation"; document 02, CR 2 and
-- 3).
--
--   needed         which pairs of circuits a purpose needs told apart
--   scan_order     "The order of an index is its number of ones. Indices are looked at by order, then by value."
--   scan_entries   the entries, "looked at by order, index, then output"
--   signature_in   the signature of the method
--   alike_pair     the first needed pair with equal tables
--   finding        the signature, or the pair
--   chosen_from    what choosing finds and fills for listed circuits, given the length of the lent work
--   chosen_of      the same for a job
--   signature_of   entries as the signature that is answered
--   at_exit        what a call answers and leaves
--   told           what the operation's result stands for
use Rattle.std.specs.Prelude.{ℕ, zero, suc, ◌+◌, ◌-◌, ◌^◌, Bool, not, ◌&&◌, List, [], ◌∷◌, ◌++◌, Result, Ok, Err, leb, eqb, length}
use Rattle.std.specs.Int.Count.{ones}
use Rattle.bits.specs.Answer.{Answer, Fills, leaves, number, unless, onward}
use Rattle.bits.specs.Answer.Answer.{gives, refused}
use Rattle.bits.specs.Passing.{passing}
use Rattle.job.specs.declared.Job.{Job}
use Rattle.reading.specs.Reading.{reading}
use Rattle.tables.specs.Family.{Family, family_of, same_tables}
use Rattle.tables.specs.Operations.{counts_of, no_counts}
use Rattle.tables.specs.declared.Counts.{Counts}
use Rattle.spectra.specs.Listed.{Entry, coef_of, family_spectra, places, indices_of, outputs_of}
use Rattle.spectra.specs.Operations.{polarity_ok}
use Rattle.spectra.specs.declared.Kind.{Kind}
use Rattle.method.specs.Method.{signature, first_pair, Pair}
use Rattle.method.specs.Method.Pair.{nobody, pair}
use Rattle.chooser.specs.Matrix.{max_signature, zeros}
use Rattle.choosing.specs.declared.Chosen.{Chosen}
use Rattle.choosing.specs.declared.Purpose.{Purpose}
use Rattle.choosing.specs.declared.Purpose.TheVariants.{Isolating, Detecting}
use Rattle.choosing.specs.declared.Signature.{Signature}
use Rattle.choosing.specs.declared.Unchosen.{Unchosen}
use Rattle.choosing.specs.declared.Unchosen.TheVariants.{Alike, Refused}

-- of circuits a below b, each with its part: "Isolating now needs only pairs whose parts differ"; "detecting, of circuit 0 and each fault."
abbrev pub needed : Purpose → (ℕ → ℕ) → ℕ → ℕ → Bool
needed Isolating part a b = not (eqb (part a) (part b))
needed Detecting part a b = eqb a 0

-- the indices below `size` whose order is below `order`, by order, then by value
unfoldable pub scan_to : ℕ → ℕ → List ℕ
scan_to size zero = []
scan_to size (suc order) = scan_to size order ++ passing (λ e. eqb (ones e) order) size

abbrev pub scan_order : ℕ → List ℕ
scan_order n = scan_to (2 ^ n) (n + 1)

-- the first outputs at an index
unfoldable pub outputs_at : ℕ → ℕ → List Entry
outputs_at i zero = []
outputs_at i (suc o) = outputs_at i o ++ (record { index = i; output = o } ∷ [])

-- so many outputs at each of the indices
unfoldable pub entries_of : ℕ → List ℕ → List Entry
entries_of outputs [] = []
entries_of outputs (i ∷ indices) = outputs_at i outputs ++ entries_of outputs indices

abbrev pub scan_entries : Family → List Entry
scan_entries F = entries_of F.outputs (scan_order F.inputs)

abbrev pub signature_in : Purpose → Kind → ℕ → Family → List Entry
signature_in purpose kind k F = signature (coef_of kind k F) F.circuits (needed purpose F.part) (scan_entries F)

-- "the first such pair, by lower number, then by higher"
abbrev pub alike_pair : Purpose → Family → Pair
alike_pair purpose F = first_pair F.circuits (λ a b. needed purpose F.part a b && same_tables F a b)

pub data Finding : Type 0 where
  chosen : List Entry → Finding
  alike : ℕ → ℕ → Finding

abbrev pub finding_by : Pair → List Entry → Finding
finding_by nobody list = chosen list
finding_by (pair a b) list = alike a b

abbrev pub finding : Purpose → Kind → ℕ → Family → Finding
finding purpose kind k F = finding_by (alike_pair purpose F) (signature_in purpose kind k F)

-- "13; 10 ..", which "follows that size", (f+1) × outputs × N; 15 is found, for under it too "the work holds all spectra"
unfoldable pub chosen_from : Purpose → Family → Kind → ℕ → ℕ → Answer (Fills Finding)
chosen_from purpose F kind k room =
    unless (polarity_ok F.inputs k) 13
    (unless (leb (places F) room) 10
    (gives (record { value = finding purpose kind k F; filled = family_spectra kind k F })))

-- "Choosing: reading's; 13; 10 ..; 15"
abbrev pub chosen_of : Purpose → List ℕ → Kind → ℕ → ℕ → Answer (Fills Finding)
chosen_of purpose s kind k room = onward (reading s) (λ j. chosen_from purpose (family_of j) kind k room)

-- an index and an output for each entry, and 0 at the places past them
abbrev pub signature_of : List Entry → Signature
signature_of l =
    record {
      count = length l;
      indices = indices_of l ++ zeros (max_signature - length l);
      outputs = outputs_of l ++ zeros (max_signature - length l);
    }

-- what a call answers and leaves: a refusal's number, 0 for success; the pair that comes with 15; the counts; the signature; the work
pub record AtExit : Type 0 where
  pub number : ℕ
  pub pair : Pair
  pub counts : Counts
  pub signature : Signature
  pub memory : List ℕ

-- "15, a needed pair has equal tables. With 15 comes the first such pair"; counts are 0, and the signature is empty, beside every refusal
abbrev pub found : Counts → Finding → List ℕ → AtExit
found counts (chosen list) memory = record { number = 0; pair = nobody; counts = counts; signature = signature_of list; memory = memory }
found counts (alike a b) memory = record { number = 15; pair = pair a b; counts = no_counts; signature = signature_of []; memory = memory }

abbrev pub at_exit : Counts → Answer (Fills Finding) → List ℕ → AtExit
at_exit counts (gives w) memory = found counts w.value (leaves (gives w) memory).memory
at_exit counts (refused i) memory = record { number = i; pair = nobody; counts = no_counts; signature = signature_of []; memory = memory }

-- the counts of the job that the bytes give
abbrev pub counts_in : Answer Job → Counts
counts_in (gives j) = counts_of j
counts_in (refused i) = no_counts

-- what the operation's result stands for, with the work that it leaves
abbrev pub told : Result Chosen Unchosen → List ℕ → AtExit
told (Ok c) memory = record { number = 0; pair = nobody; counts = c.counts; signature = c.signature; memory = memory }
told (Err (Alike a b)) memory = record { number = 15; pair = pair a b; counts = no_counts; signature = signature_of []; memory = memory }
told (Err (Refused e)) memory = record { number = number e; pair = nobody; counts = no_counts; signature = signature_of []; memory = memory }
