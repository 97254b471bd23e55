-- The checks of locating and the filled work, from tables: its ways out, and what success tells (specs/Locating.antt).
--
--   prepared_polarity, prepared_index, prepared_output, prepared_readings   13, 16, 20, 17
--   prepared_filled                past these, what the spectra of the tables answer and leave
--   Prepared                       the checks are passed, and the spectra stand at the start of the work
--   prepared_done                  what success tells
use Prim.Native.Nat.{ℕ, ◌^◌, ◌≤◌, ◌<◌}
use mathlib.Core.Path.{◌≡◌, refl, sym, ap, subst, ◌∙◌}
use mathlib.Core.Bool.{Bool, true, false, ◌&&◌}
use mathlib.Core.List.{List, ◌++◌}
use borrow.Author.Tests.{lt-ltb, le-ltb, eq-eqb, ne_eqb}
use lib.Dec.{leb, eqb}
use lib.ListN.{length, drop}
use Rattle.bits.specs.Answer.{Answer, Fills, Leaves, leaves}
use Rattle.bits.specs.Answer.Answer.{gives, refused}
use Rattle.bits.specs.Bounds.{all_below}
use Rattle.bits.proofs.Answers.{gives_same, never_gives, unless_gives, onward_gives}
use Rattle.tables.specs.Family.{Family}
use Rattle.tables.specs.declared.Counts.{Counts}
use Rattle.tables.proofs.Answers.{kept}
use Rattle.spectra.specs.Listed.{family_spectra, places}
use Rattle.spectra.specs.Operations.{polarity_ok, tables_checked, table_family, from_tables, filled_from}
use Rattle.spectra.specs.declared.Kind.{Kind}
use Rattle.spectra.proofs.Families.{Fits, checked_fits, checked}
use Rattle.locating.specs.Locating.{lengths_ok, prepared_by}

-- ---- the test of 17

-- ---- the ways out

module _ (counts : Counts) (s : List ℕ) (kind : Kind) (k : ℕ) (indices outputs : List ℕ) (paired : Bool) (work : List ℕ) where
  abbrev n : ℕ
  n = counts.inputs

  abbrev family : Family
  family = table_family counts s

  abbrev go : Family → Answer (Fills (Unit {0}))
  go F = prepared_by paired F kind k indices outputs (length work)

  abbrev prepared : Answer (Fills (Unit {0}))
  prepared = from_tables counts s go

  module _ (ok : tables_checked counts s ≡ gives tt) {size : ℕ} (e : size ≡ 2 ^ n) where
    onto : prepared ≡ go family
    onto = checked counts s go ok

    pub prepared_polarity : size ≤ k → record { answer = refused 13; memory = work } ≡ leaves prepared work
    unfolding prepared_by
    prepared_polarity h = kept prepared 13 work (onto ∙ (let l : 2 ^ n ≤ k = rw e at h in simp (le-ltb k (2 ^ n) l)))

    module _ (h : k < size) where
      small : polarity_ok n k ≡ true
      small = lt-ltb k (2 ^ n) (subst (λ (x : ℕ). k < x) e h)

      at_size : all_below (2 ^ n) indices ≡ all_below size indices
      at_size = ap (λ (x : ℕ). all_below x indices) (sym e)

      pub prepared_index : all_below size indices ≡ false → record { answer = refused 16; memory = work } ≡ leaves prepared work
      unfolding prepared_by
      prepared_index u = kept prepared 16 work (onto ∙ simp (small, at_size ∙ u))

      module _ (u : all_below size indices ≡ true) where
        pub prepared_output : all_below counts.outputs outputs ≡ false → record { answer = refused 20; memory = work } ≡ leaves prepared work
        unfolding prepared_by
        prepared_output o = kept prepared 20 work (onto ∙ simp (small, at_size ∙ u, o))

        module _ (o : all_below counts.outputs outputs ≡ true) where
          pub prepared_readings : paired ≡ false → record { answer = refused 17; memory = work } ≡ leaves prepared work
          unfolding prepared_by
          prepared_readings d = kept prepared 17 work (onto ∙ simp (small, at_size ∙ u, o, d))

          filled_same : paired ≡ true → filled_from family kind k (length work) ≡ go family
          unfolding prepared_by filled_from
          filled_same d = simp (small, at_size ∙ u, o, d)

          pub prepared_filled : {answer : Answer (Unit {0})} {after : List ℕ} → paired ≡ true
              → record { answer = answer; memory = after } ≡ leaves (from_tables counts s (λ F. filled_from F kind k (length work))) work
              → record { answer = answer; memory = after } ≡ leaves prepared work
          prepared_filled d p =
              p
              ∙ ap (λ (x : Answer (Fills (Unit {0}))). leaves x work)
              (checked counts s (λ F. filled_from F kind k (length work)) ok ∙ filled_same d ∙ sym onto)

  -- ---- success

  abbrev spectra : List ℕ
  spectra = family_spectra kind k family

  pub record Prepared (after : List ℕ) : Type 0 where
    pub fits : Fits counts s
    pub indices_below : all_below (2 ^ counts.inputs) indices ≡ true
    pub outputs_below : all_below counts.outputs outputs ≡ true
    pub pairs : paired ≡ true
    pub answer : prepared ≡ gives (record { value = tt; filled = spectra })
    pub stands : after ≡ spectra ++ drop (length spectra) work

  done : (a : Answer (Fills (Unit {0}))) → prepared ≡ a → (after : List ℕ) → record { answer = gives tt; memory = after } ≡ leaves a work → Prepared after
  unfolding prepared_by
  done (refused i) e after p = absurd (never_gives (sym (ap (λ (x : Leaves (Unit {0})). x.answer) p)))
  done (gives w) e after p =
      let whole = onward_gives (tables_checked counts s) (λ _. go family) e in
      let first = unless_gives (polarity_ok n k) 13 _ whole.2 in
      let second = unless_gives (all_below (2 ^ n) indices) 16 _ first.1 in
      let third = unless_gives (all_below counts.outputs outputs) 20 _ second.1 in
      let fourth = unless_gives paired 17 _ third.1 in
      let fifth = unless_gives (leb (places family) (length work)) 10 _ fourth.1 in
      let same : record { value = tt; filled = spectra } ≡ w = gives_same fifth.1 in
      record {
        fits = checked_fits counts s whole.1;
        indices_below = second.0;
        outputs_below = third.0;
        pairs = fourth.0;
        answer = e ∙ ap gives (sym same);
        stands =
            ap (λ (x : Leaves (Unit {0})). x.memory) p
            ∙ ap (λ (x : Fills (Unit {0})). x.filled ++ drop (length x.filled) work) (sym same);
      }

  pub prepared_done : {after : List ℕ} → record { answer = gives tt; memory = after } ≡ leaves prepared work → Prepared after
  prepared_done {after} p = done prepared refl after p
