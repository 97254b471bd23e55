-- Kept by the code: how it lists the indices in the order of looking, and hands the spectra to the method.
--
--   max_places   the most coefficients of a circuit at one output
--   max_entries  and at all outputs
--   max_orders   the most orders of an index
--   Few          no number of an array is above the most coefficients
--   summed       each number of an array and the one before it
--   of_order     the indices of one order below a bound
--   place_of     the place of an index in the order of looking
--   Placed       the indices stand at their places
--   Listed       a list stands at the start of an array, and so many places are taken
--   Filled       the counts are a job's, and its spectra lie within the work
--   marks_of     the circuits' marks: their parts, or whether each is a faulty one
--   wanted       the pairs of counted circuits that a purpose needs told apart
--   decoded_of   the entries of a signature whose numbers are taken apart
--   unchosen_by  why nothing is chosen, by the method's answer
--   chosen_by    what the method's answer gives
--   scan_codes   the entries in the order of looking, each as one number
--   chosen_in    the answer over any coefficients of the counted circuits, by an entry's number
use Rattle.std.specs.Prelude.{ℕ, zero, suc, ◌+◌, ◌*◌, ◌/◌, ◌%◌, ◌^◌, ◌≤◌, ◌<◌, ◌≡◌, Bool, ◌&&◌, List, ◌∷◌, map, eqb, length, take, get_or, replicate, Result, Ok, Err}
use Rattle.std.specs.Int.Count.{ones}
use Rattle.bits.specs.Passing.{passing}
use Rattle.job.specs.Layout.{max_inputs, max_outputs, max_faults}
use Rattle.tables.specs.Operations.{part_in}
use Rattle.tables.specs.declared.Counts.{Counts}
use Rattle.bits.specs.declared.Refusal.TheVariants.{Memory}
use Rattle.method.specs.Method.{agree, signature, first_pair}
use Rattle.spectra.specs.Codes.{codes_of}
use Rattle.chooser.specs.Matrix.{choice_by}
use Rattle.chooser.specs.declared.Signature as coded
use Rattle.chooser.specs.declared.Untold.{Untold}
use Rattle.chooser.specs.declared.Untold.TheVariants.{Pair, NoMatrix}
use Rattle.choosing.specs.Choosing.{needed, scan_to, scan_order, entries_of}
use Rattle.choosing.specs.declared.Chosen.{Chosen}
use Rattle.choosing.specs.declared.Purpose.{Purpose}
use Rattle.choosing.specs.declared.Purpose.TheVariants.{Isolating, Detecting}
use Rattle.choosing.specs.declared.Signature.{Signature}
use Rattle.choosing.specs.declared.Unchosen.{Unchosen}
use Rattle.choosing.specs.declared.Unchosen.TheVariants.{Alike, Refused}

-- 2 to the power 8
unfoldable pub max_places : ℕ
max_places = 2 ^ max_inputs

-- 4 × 256
unfoldable pub max_entries : ℕ
max_entries = max_outputs * max_places

-- 0 to 8
unfoldable pub max_orders : ℕ
max_orders = suc max_inputs

-- a number for each order
abbrev pub Few : List ℕ → Type 0
Few l = (order : ℕ) → order < max_orders → get_or l order 0 ≤ max_places

abbrev pub summed : List ℕ → ℕ → ℕ
summed l zero = get_or l 0 0
summed l (suc order) = get_or l (suc order) 0 + get_or l order 0

abbrev pub of_order : ℕ → ℕ → List ℕ
of_order order e = passing (λ i. eqb (ones i) order) e

-- after those of lower order, and after the lower ones of its own
abbrev pub place_of : ℕ → ℕ → ℕ
place_of size e = length (scan_to size (ones e)) + length (of_order (ones e) e)

abbrev pub Placed : ℕ → List ℕ → Type 0
Placed size places = (e : ℕ) → e < size → get_or places (place_of size e) 0 ≡ e

pub record Listed (list : List ℕ) (count : ℕ) (places : List ℕ) : Type 0 where
  pub counted : count ≡ length list
  pub done : take count places ≡ list

pub record Filled (counts : Counts) (room : ℕ) : Type 0 where
  pub inputs_few : counts.inputs ≤ max_inputs
  pub one : 1 ≤ counts.outputs
  pub outputs_few : counts.outputs ≤ max_outputs
  pub faults_few : counts.faults ≤ max_faults
  pub enough : (counts.faults + 1) * counts.outputs * 2 ^ counts.inputs ≤ room

-- circuits are to be told apart where their marks differ
abbrev pub marks_of : Purpose → List ℕ → List ℕ
marks_of Isolating parts = parts
marks_of Detecting parts = 0 ∷ replicate max_faults 1

abbrev pub wanted : Purpose → Counts → ℕ → ℕ → Bool
wanted purpose counts = needed purpose (part_in counts.parts)

-- of so many coefficients an output
abbrev pub decoded_of : ℕ → ℕ → List ℕ → Signature
decoded_of size count codes = record { count = count; indices = map (λ e. e % size) codes; outputs = map (λ e. e / size) codes }

abbrev pub decoded_from : ℕ → coded.Signature → Signature
decoded_from size s = decoded_of size s.count s.entries

-- the matrix always fits
abbrev pub unchosen_by : Untold → Unchosen
unchosen_by (Pair a b) = Alike a b
unchosen_by NoMatrix = Refused Memory

abbrev pub chosen_by : Counts → Result coded.Signature Untold → Result Chosen Unchosen
chosen_by counts (Ok s) = Ok (record { counts = counts; signature = decoded_from (2 ^ counts.inputs) s })
chosen_by counts (Err untold) = Err (unchosen_by untold)

abbrev pub scan_codes : Counts → List ℕ
scan_codes counts = codes_of (2 ^ counts.inputs) (entries_of counts.outputs (scan_order counts.inputs))

abbrev pub chosen_in : Purpose → Counts → (ℕ → ℕ → ℕ) → Result Chosen Unchosen
chosen_in purpose counts coef =
    chosen_by counts
    (choice_by (first_pair (counts.faults + 1) (λ a b. wanted purpose counts a b && agree coef (scan_codes counts) a b))
    (signature coef (counts.faults + 1) (wanted purpose counts) (scan_codes counts)))
