-- Readings at a list, and rows that agree on it (Rattle.method, specs/Method.antt; Rattle.spectra, specs/Operations.antt).
--
--   agree_same          rows agree on a list when their readings have the same numbers, as an equation of tests
--   agree_readings      rows that agree on a list have equal readings
--   readings_agree      rows with equal readings agree on it
--   same_numbers_eq     equal lists have the same numbers
--   same_numbers_ne     unequal ones do not
--   told_part           on a list that tells rows of different parts apart, rows with equal readings have one part
use Prim.Native.Nat.{ℕ, ◌<◌}
use native.Mathlib.Nat.{eq-or-lt_of_le}
use mathlib.Core.Path.{◌≡◌, refl, sym, ap, ◌∙◌}
use mathlib.Core.Bool.{Bool, true, false, ◌&&◌}
use mathlib.Core.Logic.{⊎_elim}
use mathlib.Core.List.{List, [], ◌∷◌, map}
use borrow.Author.Tests.{eqb-true, eqb-false}
use lib.Dec.{eqb}
use Rattle.bits.proofs.Below.{lt_or_ge}
use Rattle.bits.proofs.Tests.{clash, by_test}
use Rattle.spectra.specs.Operations.{same_numbers}
use Rattle.spectra.proofs.Acceptance.{same_numbers_refl, same_numbers_true}
use Rattle.method.specs.Method.{agree}

pub same_numbers_eq : (l m : List ℕ) → l ≡ m → same_numbers l m ≡ true
same_numbers_eq l m e = ap (same_numbers l) (sym e) ∙ same_numbers_refl l

pub same_numbers_ne : (l m : List ℕ) → (l ≡ m → ⊥) → same_numbers l m ≡ false
same_numbers_ne l m h = by_test (same_numbers l m) (λ t. absurd (h (same_numbers_true l m t))) (λ f. f)

module _ {E : Type 0} (coef : ℕ → E → ℕ) where
  pub agree_same : (l : List E) (a b : ℕ) → agree coef l a b ≡ same_numbers (map (coef a) l) (map (coef b) l)
  unfolding agree same_numbers
  agree_same [] a b = refl
  agree_same (e ∷ l) a b = ap (λ (t : Bool). eqb (coef a e) (coef b e) && t) (agree_same l a b)

  pub agree_readings : (l : List E) (a b : ℕ) → agree coef l a b ≡ true → map (coef a) l ≡ map (coef b) l
  agree_readings l a b h = same_numbers_true (map (coef a) l) (map (coef b) l) (sym (agree_same l a b) ∙ h)

  pub readings_agree : (l : List E) (a b : ℕ) → map (coef a) l ≡ map (coef b) l → agree coef l a b ≡ true
  readings_agree l a b e = agree_same l a b ∙ same_numbers_eq (map (coef a) l) (map (coef b) l) e

  pub told_part : (rows : ℕ) (part : ℕ → ℕ) (l : List E) → ((a b : ℕ) → a < b → b < rows → (part a ≡ part b → ⊥) → agree coef l a b ≡ false)
      → (a b : ℕ) → a < rows → b < rows → map (coef a) l ≡ map (coef b) l → part a ≡ part b
  told_part rows part l told a b h k e =
      by_test (eqb (part a) (part b)) (eqb-true (part a) (part b))
      (λ f.
      let differ = eqb-false (part a) (part b) f in
      ⊎_elim
      (λ (p : a < b). absurd (clash (readings_agree l a b e) (told a b p k differ)))
      (λ p.
      ⊎_elim (λ (q : b ≡ a). ap part (sym q)) (λ q. absurd (clash (readings_agree l b a (sym e)) (told b a q h (λ s. differ (sym s)))))
      (eq-or-lt_of_le p))
      (lt_or_ge a b))
