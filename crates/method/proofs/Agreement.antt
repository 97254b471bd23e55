-- When two rows agree on a list of entries.
--
--   agree_refl       a row agrees with itself
--   agree_sym        agreeing goes both ways
--   agree_trans      rows that agree with a third agree
--   agree_append     rows agree on two lists together when they agree on both, as an equation of tests
--   agree_both       rows that agree on two lists agree on the two together
--   agree_at         rows that agree on a list with an entry added have equal coefficients at the entry
--   agree_first, agree_last   rows that agree on two lists together agree on either
--   agree_without    rows that agree on a list agree on it without an entry
--   full_more        if every pair that agrees on a list agrees on a full one, the list is full
use Prim.Native.Nat.{ℕ, zero, suc, ◌<◌}
use mathlib.Core.Path.{◌≡◌, refl, sym, ap, ◌∙◌}
use mathlib.Core.Bool.{Bool, true, ◌&&◌, and_assoc}
use mathlib.Core.List.{List, [], ◌∷◌, ◌++◌}
use borrow.Author.Tests.{eqb-true, eq-eqb}
use lib.Dec.{eqb}
use Rattle.bits.proofs.Tests.{and_l, and_r, and_i, clash, by_test}
use Rattle.method.specs.Method.{without, agree, full}
use Rattle.method.proofs.Pairs.{full_all, all_full}

module _ {E : Type 0} (coef : ℕ → E → ℕ) where
  pub agree_refl : (l : List E) (a : ℕ) → agree coef l a a ≡ true
  unfolding agree
  agree_refl [] a = refl
  agree_refl (e ∷ l) a = and_i (eq-eqb (coef a e) (coef a e) refl) (agree_refl l a)

  pub agree_sym : (l : List E) (a b : ℕ) → agree coef l a b ≡ true → agree coef l b a ≡ true
  unfolding agree
  agree_sym [] a b h = refl
  agree_sym (e ∷ l) a b h =
      and_i (eq-eqb (coef b e) (coef a e) (sym (eqb-true (coef a e) (coef b e) (and_l (eqb (coef a e) (coef b e)) (agree coef l a b) h))))
      (agree_sym l a b (and_r (eqb (coef a e) (coef b e)) (agree coef l a b) h))

  pub agree_trans : (l : List E) (a b c : ℕ) → agree coef l a b ≡ true → agree coef l b c ≡ true → agree coef l a c ≡ true
  unfolding agree
  agree_trans [] a b c h k = refl
  agree_trans (e ∷ l) a b c h k =
      and_i
      (eq-eqb (coef a e) (coef c e)
      (eqb-true (coef a e) (coef b e) (and_l (eqb (coef a e) (coef b e)) (agree coef l a b) h)
      ∙ eqb-true (coef b e) (coef c e) (and_l (eqb (coef b e) (coef c e)) (agree coef l b c) k)))
      (agree_trans l a b c (and_r (eqb (coef a e) (coef b e)) (agree coef l a b) h) (and_r (eqb (coef b e) (coef c e)) (agree coef l b c) k))

  pub agree_append : (l m : List E) (a b : ℕ) → agree coef (l ++ m) a b ≡ agree coef l a b && agree coef m a b
  unfolding agree
  agree_append [] m a b = refl
  agree_append (e ∷ l) m a b =
      ap (λ (x : Bool). eqb (coef a e) (coef b e) && x) (agree_append l m a b)
      ∙ sym (and_assoc (eqb (coef a e) (coef b e)) (agree coef l a b) (agree coef m a b))

  pub agree_both : (l m : List E) (a b : ℕ) → agree coef l a b ≡ true → agree coef m a b ≡ true → agree coef (l ++ m) a b ≡ true
  agree_both l m a b h k = agree_append l m a b ∙ and_i h k

  pub agree_first : (l m : List E) (a b : ℕ) → agree coef (l ++ m) a b ≡ true → agree coef l a b ≡ true
  agree_first l m a b h = and_l (agree coef l a b) (agree coef m a b) (sym (agree_append l m a b) ∙ h)

  pub agree_last : (l m : List E) (a b : ℕ) → agree coef (l ++ m) a b ≡ true → agree coef m a b ≡ true
  agree_last l m a b h = and_r (agree coef l a b) (agree coef m a b) (sym (agree_append l m a b) ∙ h)

  pub agree_at : (l : List E) (e : E) (a b : ℕ) → agree coef (l ++ (e ∷ [])) a b ≡ true → eqb (coef a e) (coef b e) ≡ true
  unfolding agree
  agree_at l e a b h = and_l (eqb (coef a e) (coef b e)) true (agree_last l (e ∷ []) a b h)

  pub agree_without : (i : ℕ) (l : List E) (a b : ℕ) → agree coef l a b ≡ true → agree coef (without i l) a b ≡ true
  unfolding agree without
  agree_without zero [] a b h = refl
  agree_without (suc i) [] a b h = refl
  agree_without zero (e ∷ l) a b h = and_r (eqb (coef a e) (coef b e)) (agree coef l a b) h
  agree_without (suc i) (e ∷ l) a b h =
      and_i (and_l (eqb (coef a e) (coef b e)) (agree coef l a b) h) (agree_without i l a b (and_r (eqb (coef a e) (coef b e)) (agree coef l a b) h))

  module _ (rows : ℕ) (needed : ℕ → ℕ → Bool) where
    pub full_more : (l m : List E) → ((a b : ℕ) → a < b → b < rows → needed a b ≡ true → agree coef m a b ≡ true → agree coef l a b ≡ true)
        → full coef rows needed l ≡ true → full coef rows needed m ≡ true
    full_more l m finer e =
        all_full coef rows needed m
        (λ a b h k n. by_test (agree coef m a b) (λ t. absurd (clash (finer a b h k n t) (full_all coef rows needed l e a b h k n))) (λ f. f))
