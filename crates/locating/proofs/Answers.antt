-- Locating among circuits whose tables are given: its ways out (specs/Locating.antt, specs/Scanning.antt).
--
--   passing_same       the numbers that pass depend on the test below the bound alone
--   sought_indexed     past the preparation, there is a reading for each index
--   sought_rows        and the rows of the circuits lie within the work
--   numbers_readings   the numbers of a row of the filled work are the circuit's readings
--   sought_done        success
use Prim.Native.Nat.{ℕ, zero, suc, ◌+◌, ◌*◌, ◌^◌, ◌≤◌, ◌<◌}
use native.Mathlib.Nat.{mul_assoc}
use native.Mathlib.Omega.{arith}
use mathlib.Core.Path.{◌≡◌, refl, sym, ap, ap₂, subst, ◌∙◌}
use mathlib.Core.Bool.{Bool, true, ◌&&◌, cond}
use mathlib.Core.List.{List, [], ◌∷◌, ◌++◌, Memᴰ}
use borrow.Author.Tests.{eqb-true}
use lib.Dec.{eqb}
use lib.ListN.{length, get_or, drop, length-append}
use Rattle.bits.specs.Answer.{Answer, Fills, leaves, onward}
use Rattle.bits.specs.Answer.Answer.{gives}
use Rattle.bits.specs.Passing.{passing}
use Rattle.bits.proofs.Answers.{onward_onward}
use Rattle.bits.proofs.Tests.{and_l, and_r}
use Rattle.tables.specs.Family.{Family}
use Rattle.tables.specs.declared.Counts.{Counts}
use Rattle.spectra.specs.Codes.{code_of}
use Rattle.spectra.specs.Listed.{Entry, coef_of, readings_of, family_spectra, entries_at}
use Rattle.spectra.specs.Operations.{tables_checked, table_family, from_tables, same_numbers}
use Rattle.spectra.specs.declared.Kind.{Kind}
use Rattle.spectra.proofs.Families.{length_family_spectra, work_entry}
use Rattle.locating.specs.Locating.{Location, location, agreeing, lengths_ok, prepared_by, located_from}
use Rattle.locating.specs.Scanning.{numbers_at, work_agrees, RowsIn}
use Rattle.locating.proofs.Indices.{numbers_same, entries_below}
use Rattle.locating.proofs.Preparation.{Prepared}

pub passing_same : (p q : ℕ → Bool) (d : ℕ) → ((c : ℕ) → c < d → p c ≡ q c) → passing p d ≡ passing q d
unfolding passing
passing_same p q zero same = refl
passing_same p q (suc d) same =
    ap₂ (λ (l : List ℕ) (u : Bool). l ++ cond u (d ∷ []) []) (passing_same p q d (λ c h. same c (omega arith))) (same d (omega arith))

module _ (counts : Counts) (s : List ℕ) (kind : Kind) (k : ℕ) (indices outputs readings work : List ℕ) {paired : Bool}
    (lengths : paired ≡ lengths_ok indices outputs readings) where
  abbrev F : Family
  F = table_family counts s

  abbrev list : List Entry
  list = entries_at indices outputs

  abbrev spectra : List ℕ
  spectra = family_spectra kind k F

  abbrev prepared : Answer (Fills (Unit {0}))
  prepared = from_tables counts s (λ F. prepared_by paired F kind k indices outputs (length work))

  abbrev sought : Answer (Fills Location)
  sought = from_tables counts s (λ F. located_from F kind k indices outputs readings (length work))

  found : Fills (Unit {0}) → Answer (Fills Location)
  found w = gives (record { value = location F.part (agreeing kind k F list readings); filled = w.filled })

  after_prepared : onward prepared found ≡ sought
  unfolding found
  after_prepared =
      onward_onward (tables_checked counts s) (λ _. prepared_by paired F kind k indices outputs (length work)) found
      ∙ ap (λ (t : Bool). onward (tables_checked counts s) (λ _. onward (prepared_by t F kind k indices outputs (length work)) found)) lengths

  module _ {after : List ℕ} (w : Prepared counts s kind k indices outputs paired work after) where
    room : (counts.faults + 1) * (counts.outputs * 2 ^ counts.inputs) ≤ length after
    room =
        let long : length after ≡ length spectra + length (drop (length spectra) work) =
        ap length w.stands ∙ length-append spectra (drop (length spectra) work) in
        subst (λ (x : ℕ). x ≤ length after) (length_family_spectra kind k F ∙ mul_assoc (counts.faults + 1) counts.outputs (2 ^ counts.inputs))
        (omega (arith, long))

    abbrev first : Bool
    first = eqb (length indices) (length readings)

    abbrev second : Bool
    second = eqb (length outputs) (length readings)

    both : first && second ≡ true
    both = sym lengths ∙ w.pairs

    pub sought_indexed : length indices ≡ length readings
    sought_indexed = eqb-true (length indices) (length readings) (and_l first second both)

    pub sought_rows : RowsIn counts indices outputs (length after)
    sought_rows =
        record {
          inputs_few = w.fits.few;
          faults_few = w.fits.faults_few;
          enough = room;
          paired = sought_indexed ∙ sym (eqb-true (length outputs) (length readings) (and_r first second both));
          indices_below = w.indices_below;
          outputs_below = w.outputs_below;
        }

    -- a number of the work is a coefficient
    number_at : (c : ℕ) → c < counts.faults + 1 → (e : Entry) → Memᴰ e list
        → get_or after (c * (counts.outputs * 2 ^ counts.inputs) + code_of (2 ^ counts.inputs) e) 0 ≡ coef_of kind k F c e
    number_at c h e m =
        let low = entries_below (2 ^ counts.inputs) counts.outputs indices outputs w.indices_below w.outputs_below e m in
        ap (λ (y : List ℕ). get_or y (c * (counts.outputs * 2 ^ counts.inputs) + code_of (2 ^ counts.inputs) e) 0) w.stands
        ∙ work_entry kind k F (drop (length spectra) work) c e h low.0 low.1

    pub numbers_readings : (c : ℕ) → c < counts.faults + 1
        → numbers_at after (c * (counts.outputs * 2 ^ counts.inputs)) (2 ^ counts.inputs) list ≡ readings_of kind k F list c
    numbers_readings c h =
        numbers_same list (λ e. get_or after (c * (counts.outputs * 2 ^ counts.inputs) + code_of (2 ^ counts.inputs) e) 0) (coef_of kind k F c)
        (number_at c h)

    pub sought_done : (l : Location) → l ≡ location F.part (passing (work_agrees after counts list readings) (counts.faults + 1))
        → record { answer = gives l; memory = after } ≡ leaves sought work
    unfolding found
    sought_done l h =
        ap₂ (λ (x : Location) (m : List ℕ). record { answer = gives x; memory = m })
        (h
        ∙ ap (location F.part)
        (passing_same (work_agrees after counts list readings) (λ c. same_numbers (readings_of kind k F list c) readings) (counts.faults + 1)
        (λ c l. ap (λ (x : List ℕ). same_numbers x readings) (numbers_readings c l))))
        w.stands
        ∙ ap (λ (x : Answer (Fills Location)). leaves x work) (ap (λ (x : Answer (Fills (Unit {0}))). onward x found) (sym w.answer) ∙ after_prepared)
