-- Scanning rows for those that agree, as the code does it (specs/Locating.antt, specs/Scanning.antt).
--
--   seen_joined                               what is kept of agreeing circuits, with one more behind them
--   location_seen                             what is kept of agreeing circuits gives their location
--   Scanned                                   what a loop knows after c rows
--   scanned_none                              no row yet
--   scanned_count                             no more rows agree than were compared
--   scanned_joined, scanned_passed            one row more, that agrees or does not
--   scanned_all                               what is kept gives the location
--   row_end, row_wide                         a row of the work lies within it, and so is no wider
--   row_within                                a number of a row of the work for each entry
--   rows_agree                                what the code reads from rows tells which agree
use Prim.Native.Nat.{ℕ, zero, suc, ◌+◌, ◌*◌, ◌^◌, ◌≤◌, ◌<◌}
use native.Mathlib.Nat.{suc-mul, mul-le-mul_right, lt_of_lt_of_le}
use native.Mathlib.Numerals.{add-one}
use native.Mathlib.Omega.{arith}
use mathlib.Core.Path.{◌≡◌, refl, sym, ap, ap₂, subst, ◌∙◌}
use mathlib.Core.Bool.{Bool, true, false, ◌&&◌, cond, and-true, and_assoc}
use mathlib.Core.List.{List, [], ◌∷◌, ◌++◌, append-nil}
use lib.Arith.{digits_lt}
use lib.Dec.{eqb}
use lib.ListN.{length, length-append}
use Rattle.bits.specs.Passing.{passing}
use Rattle.bits.proofs.Bounds.{entry_below}
use Rattle.bits.proofs.Tests.{by_test}
use Rattle.tables.specs.declared.Counts.{Counts}
use Rattle.spectra.specs.Listed.{entries_at}
use Rattle.spectra.specs.Operations.{same_numbers}
use Rattle.locating.specs.Locating.{each_of, location}
use Rattle.locating.specs.Locating.Location.{parted, several}
use Rattle.std.specs.Prelude.{Option, Some, None, IfSome}
use Rattle.locating.specs.Scanning.{seen_of, shared_with, joined_to, location_at, location_by, numbers_at, work_agrees, Within, RowsIn}
use Rattle.locating.specs.declared.Agreeing.{Agreeing}

-- ---- agreeing circuits

module _ (part : ℕ → ℕ) where
  each_more : (p : ℕ) (l : List ℕ) (c : ℕ) → each_of part p (l ++ (c ∷ [])) ≡ each_of part p l && eqb (part c) p
  unfolding each_of
  each_more p [] c = and-true (eqb (part c) p)
  each_more p (x ∷ l) c =
      ap (λ (t : Bool). eqb (part x) p && t) (each_more p l c) ∙ sym (and_assoc (eqb (part x) p) (each_of part p l) (eqb (part c) p))

  shared_more : (t : Bool) (shared p : ℕ) → shared_with (cond t (Some shared) None) p ≡ cond (t && eqb p shared) (Some shared) None
  shared_more true shared p = refl
  shared_more false shared p = refl

  pub seen_joined : (l : List ℕ) (c : ℕ) → seen_of part (l ++ (c ∷ [])) ≡ Some (joined_to (seen_of part l) c (part c))
  unfolding each_of
  seen_joined [] c = refl
  seen_joined (x ∷ l) c =
      ap₂ (λ (n : ℕ) (p : Option ℕ). Some (record { lowest = x; count = n; part = p })) (length-append (x ∷ l) (c ∷ []))
      (ap (λ (t : Bool). cond t (Some (part x)) None) (each_more (part x) l c) ∙ sym (shared_more (each_of part (part x) l) (part x) (part c)))

  located_so : (t : Bool) (p c count : ℕ) → location_at (cond t (Some p) None) c count ≡ cond t (parted p c) (several c count)
  located_so true p c count = refl
  located_so false p c count = refl

  pub location_seen : (l : List ℕ) → location_by (seen_of part l) ≡ location part l
  location_seen [] = refl
  location_seen (c ∷ l) = located_so (each_of part (part c) l) (part c) c (length (c ∷ l))

-- ---- those below a bound

module _ (p : ℕ → Bool) where
  passing_yes : (c : ℕ) → p c ≡ true → passing p (c + 1) ≡ passing p c ++ (c ∷ [])
  unfolding passing
  passing_yes c e = ap (passing p) (add-one c) ∙ ap (λ (t : Bool). passing p c ++ cond t (c ∷ []) []) e

  passing_no : (c : ℕ) → p c ≡ false → passing p (c + 1) ≡ passing p c
  unfolding passing
  passing_no c e = ap (passing p) (add-one c) ∙ ap (λ (t : Bool). passing p c ++ cond t (c ∷ []) []) e ∙ append-nil (passing p c)

module _ (part : ℕ → ℕ) (p : ℕ → Bool) where
  seen_length : (l : List ℕ) → IfSome (seen_of part l) (λ seen. seen.count ≡ length l)
  seen_length [] = tt
  seen_length (x ∷ l) = refl

  length_passing : (c : ℕ) → length (passing p c) ≤ c
  unfolding passing
  length_passing zero = omega arith
  length_passing (suc c) =
      let long = length-append (passing p c) (cond (p c) (c ∷ []) []) in
      let one : length (cond (p c) (c ∷ []) []) ≤ 1 = by_test (p c) (λ t. rw t (omega arith)) (λ f. rw f (omega arith)) in
      let few = length_passing c in
      omega (arith, long)

-- ---- the loop

pub record Scanned (part : ℕ → ℕ) (p : ℕ → Bool) (c : ℕ) (seen : Option Agreeing) : Type 0 where
  pub agreeing : seen ≡ seen_of part (passing p c)

pub scanned_none : (part : ℕ → ℕ) (p : ℕ → Bool) → Scanned part p 0 None
unfolding passing
scanned_none part p = record { agreeing = refl }

module _ {part : ℕ → ℕ} {p : ℕ → Bool} {c : ℕ} {seen : Option Agreeing} (w : Scanned part p c seen) where
  pub scanned_count : {bound : ℕ} → c < bound → IfSome seen (λ x. x.count < bound)
  scanned_count {bound} h =
      subst (λ (o : Option Agreeing). IfSome o (λ x. x.count < bound)) (sym w.agreeing) (few (seen_of part (passing p c)) (seen_length part p (passing p c)))
    where
      few : (o : Option Agreeing) → IfSome o (λ x. x.count ≡ length (passing p c)) → IfSome o (λ x. x.count < bound)
      few None e = tt
      few (Some x) e = let l = length_passing part p c in omega arith

  pub scanned_joined : {next : Option Agreeing} → p c ≡ true → next ≡ Some (joined_to seen c (part c)) → Scanned part p (c + 1) next
  scanned_joined t e =
      record {
        agreeing =
            e ∙ ap (λ (x : Option Agreeing). Some (joined_to x c (part c))) w.agreeing
            ∙ sym (seen_joined part (passing p c) c) ∙ ap (seen_of part) (sym (passing_yes p c t));
      }

  pub scanned_passed : {next : Option Agreeing} → p c ≡ false → next ≡ seen → Scanned part p (c + 1) next
  scanned_passed f e = record { agreeing = e ∙ w.agreeing ∙ ap (seen_of part) (sym (passing_no p c f)) }

  pub scanned_all : {rows : ℕ} → c ≤ rows → rows ≤ c → location_by seen ≡ location part (passing p rows)
  scanned_all {rows} h k =
      let e : c ≡ rows = omega arith in
      ap location_by w.agreeing ∙ location_seen part (passing p c) ∙ ap (λ (x : ℕ). location part (passing p x)) e

-- ---- the rows of the work

module _ {counts : Counts} {indices outputs : List ℕ} {room : ℕ} (w : RowsIn counts indices outputs room) where
  abbrev full : ℕ
  full = 2 ^ counts.inputs

  within : {c : ℕ} → c < counts.faults + 1 → Within (c * (counts.outputs * full)) full indices outputs room
  within {c} h =
      record {
        paired = w.paired;
        inside = λ i l.
            lt_of_lt_of_le
            (digits_lt h
            (digits_lt (entry_below counts.outputs outputs i w.outputs_below (omega (arith, w.paired))) (entry_below full indices i w.indices_below l)))
            w.enough;
      }

  module _ {size : ℕ} (e : size ≡ full) where
    pub row_end : {c : ℕ} → c < counts.faults + 1 → c * (counts.outputs * size) + counts.outputs * size ≤ room
    row_end {c} h =
        let m : suc c * (counts.outputs * full) ≤ (counts.faults + 1) * (counts.outputs * full) = mul-le-mul_right (counts.outputs * full) h in
        let s : suc c * (counts.outputs * full) ≡ c * (counts.outputs * full) + counts.outputs * full = suc-mul c (counts.outputs * full) in
        subst (λ (x : ℕ). c * (counts.outputs * x) + counts.outputs * x ≤ room) (sym e) (omega (arith, w.enough))

    pub row_wide : counts.outputs * size ≤ room
    row_wide = let h = row_end {c = 0} (omega arith) in omega (arith, h)

    pub row_within : {c : ℕ} → c < counts.faults + 1 → Within (c * (counts.outputs * size)) size indices outputs room
    row_within {c} h = subst (λ (x : ℕ). Within (c * (counts.outputs * x)) x indices outputs room) (sym e) (within h)

    pub rows_agree : (part : ℕ → ℕ) (work readings : List ℕ) (rows : ℕ)
        → location part (passing (λ r. same_numbers (numbers_at work (r * (counts.outputs * size)) size (entries_at indices outputs)) readings) rows)
        ≡ location part (passing (work_agrees work counts (entries_at indices outputs) readings) rows)
    rows_agree part work readings rows =
        ap
        (λ (x : ℕ).
        location part (passing (λ r. same_numbers (numbers_at work (r * (counts.outputs * x)) x (entries_at indices outputs)) readings) rows))
        e
