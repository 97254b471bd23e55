-- Believed: locating a unit from its readings, among listed circuits and for a job (document 01, "Locating" and "Refusal by operation"; document 02, CR 2
-- and 3). The list of entries is lent as two lists, its indices and its outputs.
--
--   Location         a part with the lowest circuit, several with the lowest and their number, or none
--   agreeing         the circuits that agree with readings, in order
--   each_of          every one of circuits has a part
--   location         the result that agreeing circuits give
--   lengths_ok       the test of 17
--   prepared_by      the checks by a test of 17, and the work filled: operations that take what locating takes go on from there
--   located_from     what locating answers and fills for listed circuits, given the length of the lent work
--   located_of       the same for a job
--   location_of      the result that is answered
--   located_told     what the operation's result stands for
use Rattle.std.specs.Prelude.{ℕ, ◌^◌, Bool, true, cond, ◌&&◌, List, [], ◌∷◌, Result, Ok, Err, leb, eqb, length}
use Rattle.bits.specs.Answer.{Answer, Fills, number, unless, onward}
use Rattle.bits.specs.Answer.Answer.{gives, refused}
use Rattle.bits.specs.Bounds.{all_below}
use Rattle.bits.specs.Passing.{passing}
use Rattle.bits.specs.declared.Refusal.{Refusal}
use Rattle.reading.specs.Reading.{reading}
use Rattle.tables.specs.Family.{Family, family_of}
use Rattle.spectra.specs.Listed.{Entry, readings_of, family_spectra, places, entries_at}
use Rattle.spectra.specs.Operations.{polarity_ok, same_numbers}
use Rattle.spectra.specs.declared.Kind.{Kind}
use Rattle.locating.specs.declared.Located.{Located}
use Rattle.locating.specs.declared.Located.TheVariants.{Part, Several, Nowhere}

pub data Location : Type 0 where
  parted : ℕ → ℕ → Location
  several : ℕ → ℕ → Location
  nowhere : Location

-- "A circuit, 0 to f, agrees when its coefficients at those indices, in list order, are the readings."
abbrev pub agreeing : Kind → ℕ → Family → List Entry → List ℕ → List ℕ
agreeing kind k F list readings = passing (λ c. same_numbers (readings_of kind k F list c) readings) F.circuits

unfoldable pub each_of : (ℕ → ℕ) → ℕ → List ℕ → Bool
each_of part p [] = true
each_of part p (c ∷ circuits) = eqb (part c) p && each_of part p circuits

-- given the circuits' parts: "Locating gives the part when every agreeing circuit has the same one, with the lowest circuit; the result for several lists
-- the lowest circuit and the number agreeing"; "or none"
abbrev pub location : (ℕ → ℕ) → List ℕ → Location
location part [] = nowhere
location part (c ∷ more) = cond (each_of part (part c) more) (parted (part c) c) (several c (length (c ∷ more)))

-- "17, counts of indices and readings differ", or those of outputs and readings
abbrev pub lengths_ok : List ℕ → List ℕ → List ℕ → Bool
lengths_ok indices outputs readings = eqb (length indices) (length readings) && eqb (length outputs) (length readings)

-- "13; 16, an index not below N"; "20: output number too high, .. in locating after 16"; "17 ..; 10 as in choosing"
unfoldable pub prepared_by : Bool → Family → Kind → ℕ → List ℕ → List ℕ → ℕ → Answer (Fills (Unit {0}))
prepared_by paired F kind k indices outputs room =
    unless (polarity_ok F.inputs k) 13
    (unless (all_below (2 ^ F.inputs) indices) 16
    (unless (all_below F.outputs outputs) 20
    (unless paired 17
    (unless (leb (places F) room) 10
    (gives (record { value = tt; filled = family_spectra kind k F }))))))

abbrev pub located_from : Family → Kind → ℕ → List ℕ → List ℕ → List ℕ → ℕ → Answer (Fills Location)
located_from F kind k indices outputs readings room =
    onward (prepared_by (lengths_ok indices outputs readings) F kind k indices outputs room) (λ w.
    gives (record { value = location F.part (agreeing kind k F (entries_at indices outputs) readings); filled = w.filled }))

-- "Locating: reading's; 13; 16 ..; 17 ..; 10"
abbrev pub located_of : List ℕ → Kind → ℕ → List ℕ → List ℕ → List ℕ → ℕ → Answer (Fills Location)
located_of s kind k indices outputs readings room = onward (reading s) (λ j. located_from (family_of j) kind k indices outputs readings room)

abbrev pub location_of : Located → Location
location_of (Part p c) = parted p c
location_of (Several c count) = several c count
location_of Nowhere = nowhere

abbrev pub located_told : Result Located Refusal → Answer Location
located_told (Ok l) = gives (location_of l)
located_told (Err e) = refused (number e)
