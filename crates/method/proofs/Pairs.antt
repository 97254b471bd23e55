-- Tests over the numbers below a bound, over the needed pairs, and what it is to be full.
--
--   some_below_some     a test that holds below a bound holds of some number there
--   some_some_below     it holds below the bound if it holds of one number there
--   some_pair_some      a test that holds of some pair holds of a needed pair a < b < rows
--   some_pair_none      one that fails of all pairs fails of each needed pair
--   some_some_pair      it holds of some pair if it holds of one needed pair
--   none_some_pair      it fails of all pairs if it fails of each needed pair
--   full_all            a full list tells every needed pair apart
--   all_full            a list that tells every needed pair apart is full
--   full_some           of a list that isn't full, some needed pair agrees on it
use Prim.Native.Nat.{ℕ, zero, suc, ◌<◌}
use native.Mathlib.Nat.{not-suc-le-zero, eq-or-lt_of_le, le_of_suc-le-suc}
use native.Mathlib.Omega.{arith}
use mathlib.Core.Path.{◌≡◌, sym, ap, ◌∙◌}
use mathlib.Core.Bool.{Bool, true, false, not, ◌&&◌, ◌||◌, true≢false}
use mathlib.Core.Logic.{⊎_elim}
use mathlib.Core.List.{List}
use borrow.Author.Tests.{not-true, not-false}
use Rattle.bits.proofs.Tests.{and_l, and_r, and_i, or_cases, clash, by_test}
use Rattle.method.specs.Method.{some_below, agree, some_pair, full}

module _ (test : ℕ → Bool) where
  pub some_below_some : (n : ℕ) → some_below n test ≡ true → (k : ℕ) × (k < n) × (test k ≡ true)
  unfolding some_below
  some_below_some zero e = absurd (true≢false (sym e))
  some_below_some (suc n) e =
      ⊎_elim
      (λ h. let r : (k : ℕ) × (k < n) × (test k ≡ true) = some_below_some n h in (r.0, omega arith, r.2))
      (λ h. (n, omega arith, h))
      (or_cases (some_below n test) (test n) e)

  pub some_some_below : (n k : ℕ) → k < n → test k ≡ true → some_below n test ≡ true
  unfolding some_below
  some_some_below zero k h t = absurd (not-suc-le-zero h)
  some_some_below (suc n) k h t =
      by_test (some_below n test) (λ p. ap (λ (x : Bool). x || test n) p) (λ p. ap (λ (x : Bool). x || test n) p ∙
      ⊎_elim (λ e. rw e at t) (λ l. absurd (clash (some_some_below n k l t) p)) (eq-or-lt_of_le (le_of_suc-le-suc h)))

module _ {E : Type 0} (coef : ℕ → E → ℕ) (rows : ℕ) (needed : ℕ → ℕ → Bool) where
  module _ (test : ℕ → ℕ → Bool) where
    pub some_pair_some : some_pair coef rows needed test ≡ true
        → (a : ℕ) × (b : ℕ) × (a < b) × (b < rows) × (needed a b ≡ true) × (test a b ≡ true)
    unfolding some_pair
    some_pair_some e =
        let r : (b : ℕ) × (b < rows) × (some_below b (λ a. needed a b && test a b) ≡ true) =
        some_below_some (λ b. some_below b (λ a. needed a b && test a b)) rows e in
        let s : (a : ℕ) × (a < r.0) × (needed a r.0 && test a r.0 ≡ true) =
        some_below_some (λ a. needed a r.0 && test a r.0) r.0 r.2 in
        (s.0, r.0, s.1, r.1, and_l (needed s.0 r.0) (test s.0 r.0) s.2, and_r (needed s.0 r.0) (test s.0 r.0) s.2)

    pub some_some_pair : (a b : ℕ) → a < b → b < rows → needed a b ≡ true → test a b ≡ true → some_pair coef rows needed test ≡ true
    unfolding some_pair
    some_some_pair a b h k n t =
        some_some_below (λ b. some_below b (λ a. needed a b && test a b)) rows b k
        (some_some_below (λ a. needed a b && test a b) b a h (and_i n t))

    pub some_pair_none : some_pair coef rows needed test ≡ false → (a b : ℕ) → a < b → b < rows → needed a b ≡ true → test a b ≡ false
    some_pair_none e a b h k n = by_test (test a b) (λ t. absurd (clash (some_some_pair a b h k n t) e)) (λ f. f)

    pub none_some_pair : ((a b : ℕ) → a < b → b < rows → needed a b ≡ true → test a b ≡ false) → some_pair coef rows needed test ≡ false
    none_some_pair all =
        by_test (some_pair coef rows needed test)
        (λ t. let r : (a : ℕ) × (b : ℕ) × (a < b) × (b < rows) × (needed a b ≡ true) × (test a b ≡ true) = some_pair_some t in
        absurd (clash r.5 (all r.0 r.1 r.2 r.3 r.4)))
        (λ f. f)

  module _ (l : List E) where
    pub full_all : full coef rows needed l ≡ true → (a b : ℕ) → a < b → b < rows → needed a b ≡ true → agree coef l a b ≡ false
    unfolding full
    full_all e = some_pair_none (agree coef l) (not-true (some_pair coef rows needed (agree coef l)) e)

    pub all_full : ((a b : ℕ) → a < b → b < rows → needed a b ≡ true → agree coef l a b ≡ false) → full coef rows needed l ≡ true
    unfolding full
    all_full all = ap not (none_some_pair (agree coef l) all)

    pub full_some : full coef rows needed l ≡ false
        → (a : ℕ) × (b : ℕ) × (a < b) × (b < rows) × (needed a b ≡ true) × (agree coef l a b ≡ true)
    unfolding full
    full_some e = some_pair_some (agree coef l) (not-false (some_pair coef rows needed (agree coef l)) e)
