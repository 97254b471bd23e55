-- No more entries are taken than rows less one.
--
--   Alike              a relation that is reflexive, symmetric and transitive
--   seen               a row is related to one before it
--   classes            how many of the first rows are related to none before them: the classes of those rows
--   classes_le         there are no more classes than rows
--   classes_some       of some rows there is a class
--   classes_refine     a finer relation has more classes below a bound, or as many and relates the same rows there
--   agree_alike        agreeing on a list is such a relation
--   useful_splits      a useful entry makes a class more
--   takes_classes      there are more classes than entries taken, if there were
--   takes_bounded      so there are more rows than entries taken
use Prim.Native.Nat.{ℕ, zero, suc, ◌+◌, ◌≤◌, ◌<◌}
use native.Mathlib.Nat.{not-suc-le-zero, eq-or-lt_of_le, le_of_suc-le-suc}
use native.Mathlib.Omega.{arith}
use mathlib.Core.Path.{◌≡◌, refl, sym, ap, ◌∙◌}
use mathlib.Core.Bool.{Bool, true, false, not, cond, ◌&&◌}
use mathlib.Core.Logic.{◌⊎◌, inl, inr, ⊎_elim}
use mathlib.Core.List.{List, [], ◌∷◌, ◌++◌}
use borrow.Author.Tests.{not-true}
use lib.Dec.{eqb}
use lib.ListN.{length, length-append}
use Rattle.bits.proofs.Tests.{and_l, and_r, clash, by_test, by_cond}
use Rattle.method.specs.Method.{some_below, agree, useful, takes}
use Rattle.method.proofs.Pairs.{some_below_some, some_some_below, some_pair_some}
use Rattle.method.proofs.Agreement.{agree_refl, agree_sym, agree_trans, agree_first, agree_at}

pub record Alike (r : ℕ → ℕ → Bool) : Type 0 where
  pub itself : (a : ℕ) → r a a ≡ true
  pub back : (a b : ℕ) → r a b ≡ true → r b a ≡ true
  pub along : (a b c : ℕ) → r a b ≡ true → r b c ≡ true → r a c ≡ true

unfoldable pub seen : (ℕ → ℕ → Bool) → ℕ → Bool
seen r b = some_below b (λ a. r a b)

unfoldable pub classes : (ℕ → ℕ → Bool) → ℕ → ℕ
classes r zero = 0
classes r (suc n) = cond (seen r n) (classes r n) (suc (classes r n))

pub classes_le : (r : ℕ → ℕ → Bool) (n : ℕ) → classes r n ≤ n
unfolding classes
classes_le r zero = omega arith
classes_le r (suc n) =
    let h : classes r n ≤ n = classes_le r n in
    by_cond (λ k. k ≤ suc n) (seen r n) (classes r n) (suc (classes r n)) (λ t. omega arith) (λ f. omega arith)

pub classes_some : (r : ℕ → ℕ → Bool) (n : ℕ) → 1 ≤ classes r (suc n)
unfolding classes seen some_below
classes_some r zero = omega arith
classes_some r (suc n) =
    let h : 1 ≤ classes r (suc n) = classes_some r n in
    by_cond (λ k. 1 ≤ k) (seen r (suc n)) (classes r (suc n)) (suc (classes r (suc n))) (λ t. h) (λ f. omega arith)

seen_some : (r : ℕ → ℕ → Bool) (n : ℕ) → seen r n ≡ true → (a : ℕ) × (a < n) × (r a n ≡ true)
unfolding seen
seen_some r n e = some_below_some (λ a. r a n) n e

some_seen : (r : ℕ → ℕ → Bool) (n a : ℕ) → a < n → r a n ≡ true → seen r n ≡ true
unfolding seen
some_seen r n a h e = some_some_below (λ a. r a n) n a h e

classes_seen : (r : ℕ → ℕ → Bool) (n : ℕ) → seen r n ≡ true → classes r (suc n) ≡ classes r n
unfolding classes
classes_seen r n e = ap (λ (t : Bool). cond t (classes r n) (suc (classes r n))) e

classes_new : (r : ℕ → ℕ → Bool) (n : ℕ) → seen r n ≡ false → classes r (suc n) ≡ suc (classes r n)
unfolding classes
classes_new r n e = ap (λ (t : Bool). cond t (classes r n) (suc (classes r n))) e

module _ (r s : ℕ → ℕ → Bool) (alike_r : Alike r) (alike_s : Alike s) (finer : (a b : ℕ) → s a b ≡ true → r a b ≡ true) where
  abbrev Same : ℕ → Type 0
  Same n = (a b : ℕ) → a < n → b < n → r a b ≡ true → s a b ≡ true

  seen_finer : (n : ℕ) → seen s n ≡ true → seen r n ≡ true
  seen_finer n e = let p : (a : ℕ) × (a < n) × (s a n ≡ true) = seen_some s n e in some_seen r n p.0 p.1 (finer p.0 n p.2)

  -- what is the same below n, and of n with those below it, is the same below n + 1
  same_suc : (n : ℕ) → Same n → ((a : ℕ) → a < n → r a n ≡ true → s a n ≡ true) → Same (suc n)
  same_suc n same last a b h k e =
      ⊎_elim
      (λ (p : a ≡ n). ⊎_elim (λ (q : b ≡ n). rw (p, q) (alike_s.itself n))
      (λ q. rw p (alike_s.back b n (last b q (alike_r.back n b (rw p at e)))))
      (eq-or-lt_of_le (le_of_suc-le-suc k)))
      (λ (p : a < n). ⊎_elim (λ (q : b ≡ n). rw q (last a p (rw q at e))) (λ q. same a b p q e) (eq-or-lt_of_le (le_of_suc-le-suc k)))
      (eq-or-lt_of_le (le_of_suc-le-suc h))

  same_new : (n : ℕ) → seen r n ≡ false → Same n → Same (suc n)
  same_new n new same = same_suc n same (λ a h e. absurd (clash (some_seen r n a h e) new))

  same_seen : (n : ℕ) → seen s n ≡ true → Same n → Same (suc n)
  same_seen n e same =
      let p : (a : ℕ) × (a < n) × (s a n ≡ true) = seen_some s n e in
      same_suc n same
      (λ a h t. alike_s.along a p.0 n
      (same a p.0 h p.1 (alike_r.along a n p.0 t (alike_r.back p.0 n (finer p.0 n p.2))))
      p.2)

  abbrev Split : ℕ → Type 0
  Split n = (classes r n < classes s n) ⊎ ((classes r n ≡ classes s n) × Same n)

  split_new : (n : ℕ) → seen r n ≡ false → seen s n ≡ false → Split n → Split (suc n)
  split_new n p q (inl h) = inl (rw (classes_new r n p, classes_new s n q) (omega arith))
  split_new n p q (inr h) = inr (classes_new r n p ∙ ap suc h.0 ∙ sym (classes_new s n q), same_new n p h.1)

  split_seen : (n : ℕ) → seen r n ≡ true → seen s n ≡ true → Split n → Split (suc n)
  split_seen n p q (inl h) = inl (rw (classes_seen r n p, classes_seen s n q) h)
  split_seen n p q (inr h) = inr (classes_seen r n p ∙ h.0 ∙ sym (classes_seen s n q), same_seen n q h.1)

  split_more : (n : ℕ) → seen r n ≡ true → seen s n ≡ false → Split n → Split (suc n)
  split_more n p q (inl h) = inl (rw (classes_seen r n p, classes_new s n q) (omega arith))
  split_more n p q (inr h) = let e : classes r n ≡ classes s n = h.0 in inl (rw (classes_seen r n p, classes_new s n q) (omega arith))

  pub classes_refine : (n : ℕ) → (classes r n < classes s n) ⊎ ((classes r n ≡ classes s n) × ((a b : ℕ) → a < n → b < n → r a b ≡ true → s a b ≡ true))
  unfolding classes
  classes_refine zero = inr (refl, λ a b h k e. absurd (not-suc-le-zero h))
  classes_refine (suc n) =
      by_test (seen r n)
      (λ p. by_test (seen s n) (λ q. split_seen n p q (classes_refine n)) (λ q. split_more n p q (classes_refine n)))
      (λ p. by_test (seen s n) (λ q. absurd (clash (seen_finer n q) p)) (λ q. split_new n p q (classes_refine n)))

module _ {E : Type 0} (coef : ℕ → E → ℕ) where
  pub agree_alike : (l : List E) → Alike (agree coef l)
  agree_alike l = record { itself = agree_refl coef l; back = agree_sym coef l; along = agree_trans coef l }

  module _ (rows : ℕ) (needed : ℕ → ℕ → Bool) where
    pub useful_splits : (l : List E) (e : E) → useful coef rows needed l e ≡ true
        → classes (agree coef l) rows < classes (agree coef (l ++ (e ∷ []))) rows
    unfolding useful
    useful_splits l e u =
        let p : (a : ℕ) × (b : ℕ) × (a < b) × (b < rows) × (needed a b ≡ true) × (agree coef l a b && not (eqb (coef a e) (coef b e)) ≡ true) =
        some_pair_some coef rows needed (λ a b. agree coef l a b && not (eqb (coef a e) (coef b e))) u in
        let a : ℕ = p.0 in
        let b : ℕ = p.1 in
        let low : a < rows = omega arith in
        ⊎_elim (λ h. h)
        (λ h. absurd
        (clash
        (agree_at coef l e a b (h.1 a b low p.3 (and_l (agree coef l a b) (not (eqb (coef a e) (coef b e))) p.5)))
        (not-true (eqb (coef a e) (coef b e)) (and_r (agree coef l a b) (not (eqb (coef a e) (coef b e))) p.5))))
        (classes_refine (agree coef l) (agree coef (l ++ (e ∷ []))) (agree_alike l) (agree_alike (l ++ (e ∷ []))) (agree_first coef l (e ∷ [])) rows)

    pub takes_classes : (taken scan : List E) → length taken < classes (agree coef taken) rows
        → length (takes coef rows needed taken scan) < classes (agree coef (takes coef rows needed taken scan)) rows
    unfolding takes
    takes_classes taken [] h = h
    takes_classes taken (e ∷ scan) h =
        by_cond (λ m. length (takes coef rows needed m scan) < classes (agree coef (takes coef rows needed m scan)) rows)
        (useful coef rows needed taken e) (taken ++ (e ∷ [])) taken
        (λ u.
        let more : classes (agree coef taken) rows < classes (agree coef (taken ++ (e ∷ []))) rows = useful_splits taken e u in
        let longer : length (taken ++ (e ∷ [])) ≡ length taken + 1 = length-append taken (e ∷ []) in
        takes_classes (taken ++ (e ∷ [])) scan (omega arith))
        (λ u. takes_classes taken scan h)

module _ {E : Type 0} (coef : ℕ → E → ℕ) (rows : ℕ) (needed : ℕ → ℕ → Bool) (some_row : 1 ≤ rows) where
  positive : (r : ℕ → ℕ → Bool) (n : ℕ) → 1 ≤ n → 0 < classes r n
  positive r zero h = absurd (not-suc-le-zero h)
  positive r (suc n) h = classes_some r n

  pub takes_bounded : (scan : List E) → length (takes coef rows needed [] scan) + 1 ≤ rows
  takes_bounded scan =
      let h : length (takes coef rows needed [] scan) < classes (agree coef (takes coef rows needed [] scan)) rows =
      takes_classes coef rows needed [] scan (positive (agree coef []) rows some_row) in
      let k : classes (agree coef (takes coef rows needed [] scan)) rows ≤ rows = classes_le (agree coef (takes coef rows needed [] scan)) rows in
      omega arith
