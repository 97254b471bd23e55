-- Kept by the code: what locating does once the work is filled.
--
--   seen_of         the lowest of agreeing circuits, their number, and their part, if they have one
--   shared_with     the part that circuits have, if one more has it too
--   joined_to       what is kept of agreeing circuits with one more behind them
--   location_at     the result for a part or none, the lowest circuit and the number
--   location_by     the result that these give
--   numbers_at      the numbers of the work at a list of entries, from a place on
--   work_numbers    a circuit's numbers at these entries, its row of the work
--   work_agrees     they agree with readings
--   Within          a number of the work for each entry, from a place on
--   RowsIn          the rows of the counted circuits lie within the work, and the entries within a row
use Rattle.std.specs.Prelude.{ℕ, ◌+◌, ◌*◌, ◌^◌, ◌≤◌, ◌<◌, ◌≡◌, Bool, true, cond, List, [], ◌∷◌, map, eqb, length, get_or, Option, Some, None}
use Rattle.bits.specs.Bounds.{all_below}
use Rattle.job.specs.Layout.{max_inputs, max_faults}
use Rattle.tables.specs.declared.Counts.{Counts}
use Rattle.spectra.specs.Codes.{code_of}
use Rattle.spectra.specs.Listed.{Entry}
use Rattle.spectra.specs.Operations.{same_numbers}
use Rattle.locating.specs.Locating.{Location, each_of}
use Rattle.locating.specs.Locating.Location.{parted, several, nowhere}
use Rattle.locating.specs.declared.Agreeing.{Agreeing}

abbrev pub seen_of : (ℕ → ℕ) → List ℕ → Option Agreeing
seen_of part [] = None
seen_of part (c ∷ more) = Some (record { lowest = c; count = length (c ∷ more); part = cond (each_of part (part c) more) (Some (part c)) None })

abbrev pub shared_with : Option ℕ → ℕ → Option ℕ
shared_with None part = None
shared_with (Some shared) part = cond (eqb part shared) (Some shared) None

abbrev pub joined_to : Option Agreeing → ℕ → ℕ → Agreeing
joined_to None c part = record { lowest = c; count = 1; part = Some part }
joined_to (Some seen) c part = record { lowest = seen.lowest; count = seen.count + 1; part = shared_with seen.part part }

abbrev pub location_at : Option ℕ → ℕ → ℕ → Location
location_at (Some part) lowest count = parted part lowest
location_at None lowest count = several lowest count

abbrev pub location_by : Option Agreeing → Location
location_by None = nowhere
location_by (Some seen) = location_at seen.part seen.lowest seen.count

abbrev pub numbers_at : List ℕ → ℕ → ℕ → List Entry → List ℕ
numbers_at work start size list = map (λ e. get_or work (start + code_of size e) 0) list

abbrev pub work_numbers : List ℕ → Counts → List Entry → ℕ → List ℕ
work_numbers work counts list c = numbers_at work (c * (counts.outputs * 2 ^ counts.inputs)) (2 ^ counts.inputs) list

abbrev pub work_agrees : List ℕ → Counts → List Entry → List ℕ → ℕ → Bool
work_agrees work counts list readings c = same_numbers (work_numbers work counts list c) readings

pub record Within (start size : ℕ) (indices outputs : List ℕ) (room : ℕ) : Type 0 where
  pub paired : length indices ≡ length outputs
  pub inside : (i : ℕ) → i < length indices → start + (get_or outputs i 0 * size + get_or indices i 0) < room

pub record RowsIn (counts : Counts) (indices outputs : List ℕ) (room : ℕ) : Type 0 where
  pub inputs_few : counts.inputs ≤ max_inputs
  pub faults_few : counts.faults ≤ max_faults
  pub enough : (counts.faults + 1) * (counts.outputs * 2 ^ counts.inputs) ≤ room
  pub paired : length indices ≡ length outputs
  pub indices_below : all_below (2 ^ counts.inputs) indices ≡ true
  pub outputs_below : all_below counts.outputs outputs ≡ true
