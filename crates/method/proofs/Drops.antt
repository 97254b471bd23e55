-- What dropping leaves, of any list.
--
--   length_without     a list without an entry that it has is one shorter
--   without_le         a list without an entry is no longer
--   without_swap       two entries left out in either order
--   without_from       what is in a list without an entry is in the list
--   full_without       a list is full if it is full without an entry
--   drops_full         what is left of a full list is full
--   drops_tell         a needed pair that agrees on what is left agrees on the list
--   drops_minimal      whichever entry of what is left is left out, the rest isn't full
--   drops_from         what is left was there
--   drops_le           what is left is no longer
--   without_place      a list with an entry between two parts: without the entry
--   drops_goes         an entry goes when the rest tells all needed pairs apart
--   drops_stays        else it stays
use Prim.Native.Nat.{ℕ, zero, suc, ◌≤◌, ◌<◌}
use native.Mathlib.Nat.{not-suc-le-zero, eq-or-lt_of_le, le_of_suc-le-suc}
use native.Mathlib.Omega.{arith}
use mathlib.Core.Path.{◌≡◌, refl, ap, ◌∙◌}
use mathlib.Core.Bool.{Bool, true, false, cond}
use mathlib.Core.Logic.{⊎_elim}
use mathlib.Core.List.Memᴰ
use mathlib.Core.List.{List, [], ◌∷◌, ◌++◌, Memᴰ}
use lib.ListN.{length}
use Rattle.bits.proofs.Tests.{clash, by_test, by_cond}
use Rattle.method.specs.Method.{without, agree, full, drops}
use Rattle.method.proofs.Pairs.{full_all}
use Rattle.method.proofs.Agreement.{agree_without, full_more}

module _ {E : Type 0} where
  pub length_without : (i : ℕ) (l : List E) → i < length l → suc (length (without i l)) ≡ length l
  unfolding without
  length_without i [] h = absurd (not-suc-le-zero h)
  length_without zero (x ∷ l) h = refl
  length_without (suc i) (x ∷ l) h = ap suc (length_without i l (le_of_suc-le-suc h))

  pub without_le : (i : ℕ) (l : List E) → length (without i l) ≤ length l
  unfolding without
  without_le zero [] = omega arith
  without_le (suc i) [] = omega arith
  without_le zero (x ∷ l) = omega arith
  without_le (suc i) (x ∷ l) = let h : length (without i l) ≤ length l = without_le i l in omega arith

  pub without_swap : (i j : ℕ) (l : List E) → i ≤ j → without j (without i l) ≡ without i (without (suc j) l)
  unfolding without
  without_swap zero zero [] h = refl
  without_swap zero (suc j) [] h = refl
  without_swap (suc i) zero [] h = refl
  without_swap (suc i) (suc j) [] h = refl
  without_swap zero j (x ∷ l) h = refl
  without_swap (suc i) zero (x ∷ l) h = absurd (not-suc-le-zero h)
  without_swap (suc i) (suc j) (x ∷ l) h = ap (λ (r : List E). x ∷ r) (without_swap i j l (le_of_suc-le-suc h))

  pub without_from : (i : ℕ) (l : List E) {x : E} → Memᴰ x (without i l) → Memᴰ x l
  unfolding without
  without_from zero [] m = m
  without_from (suc i) [] m = m
  without_from zero (y ∷ l) m = Memᴰ.tail m
  without_from (suc i) (y ∷ l) m = ⊎_elim (λ e. Memᴰ.head e) (λ k. Memᴰ.tail (without_from i l k)) (Memᴰ.cases_cons m)

  pub without_place : (l : List E) (e : E) (kept : List E) → without (length l) (l ++ (e ∷ kept)) ≡ l ++ kept
  unfolding without
  without_place [] e kept = refl
  without_place (x ∷ l) e kept = ap (λ (r : List E). x ∷ r) (without_place l e kept)

module _ {E : Type 0} (coef : ℕ → E → ℕ) (rows : ℕ) (needed : ℕ → ℕ → Bool) where
  pub full_without : (i : ℕ) (l : List E) → full coef rows needed (without i l) ≡ true → full coef rows needed l ≡ true
  full_without i l f = full_more coef rows needed (without i l) l (λ a b h k n t. agree_without coef i l a b t) f

  pub drops_full : (i : ℕ) (l : List E) → full coef rows needed l ≡ true → full coef rows needed (drops coef rows needed i l) ≡ true
  unfolding drops
  drops_full zero l f = f
  drops_full (suc i) l f =
      by_cond (λ m. full coef rows needed (drops coef rows needed i m) ≡ true) (full coef rows needed (without i l)) (without i l) l
      (λ e. drops_full i (without i l) e)
      (λ e. drops_full i l f)

  pub drops_tell : (i : ℕ) (l : List E) (a b : ℕ) → a < b → b < rows → needed a b ≡ true → agree coef (drops coef rows needed i l) a b ≡ true
      → agree coef l a b ≡ true
  unfolding drops
  drops_tell zero l a b h k n t = t
  drops_tell (suc i) l a b h k n t =
      by_cond (λ m. agree coef (drops coef rows needed i m) a b ≡ true → agree coef l a b ≡ true) (full coef rows needed (without i l)) (without i l) l
      (λ e t. absurd (clash t (full_all coef rows needed (drops coef rows needed i (without i l)) (drops_full i (without i l) e) a b h k n)))
      (λ e t. drops_tell i l a b h k n t)
      t

  -- the entries from a place on are all necessary
  abbrev Needs : ℕ → List E → Type 0
  Needs i l = (j : ℕ) → i ≤ j → j < length l → full coef rows needed (without j l) ≡ false

  needs_kept : (i : ℕ) (l : List E) → full coef rows needed (without i l) ≡ false → Needs (suc i) l → Needs i l
  needs_kept i l f all j h k = ⊎_elim (λ e. rw e at f) (λ p. all j p k) (eq-or-lt_of_le h)

  needs_dropped : (i : ℕ) (l : List E) → i < length l → Needs (suc i) l → Needs i (without i l)
  needs_dropped i l fits all j h k =
      let same : suc (length (without i l)) ≡ length l = length_without i l fits in
      let inside : suc j < length l = omega arith in
      let above : suc i ≤ suc j = omega arith in
      by_test (full coef rows needed (without j (without i l)))
      (λ t. absurd (clash (full_without i (without (suc j) l) (rw (without_swap i j l h) at t)) (all (suc j) above inside)))
      (λ f. f)

  drops_needs : (i : ℕ) (l : List E) → i ≤ length l → Needs i l → Needs zero (drops coef rows needed i l)
  unfolding drops
  drops_needs zero l h all = all
  drops_needs (suc i) l h all =
      by_cond (λ m. Needs zero (drops coef rows needed i m)) (full coef rows needed (without i l)) (without i l) l
      (λ e.
      let same : suc (length (without i l)) ≡ length l = length_without i l h in
      drops_needs i (without i l) (omega arith) (needs_dropped i l h all))
      (λ e. drops_needs i l (omega arith) (needs_kept i l e all))

  pub drops_minimal : (l : List E) (i : ℕ) → i < length (drops coef rows needed (length l) l)
      → full coef rows needed (without i (drops coef rows needed (length l) l)) ≡ false
  drops_minimal l i h =
      let at_end_lem : length l ≤ length l = omega arith in
      let low : zero ≤ i = omega arith in
      drops_needs (length l) l at_end_lem (λ j p q. absurd (omega arith)) i low h

  pub drops_from : (i : ℕ) (l : List E) {x : E} → Memᴰ x (drops coef rows needed i l) → Memᴰ x l
  unfolding drops
  drops_from zero l m = m
  drops_from (suc i) l {x} m =
      by_cond (λ m. Memᴰ x (drops coef rows needed i m) → Memᴰ x l) (full coef rows needed (without i l)) (without i l) l
      (λ e m. without_from i l (drops_from i (without i l) m))
      (λ e m. drops_from i l m)
      m

  pub drops_le : (i : ℕ) (l : List E) → length (drops coef rows needed i l) ≤ length l
  unfolding drops
  drops_le zero l = omega arith
  drops_le (suc i) l =
      by_cond (λ m. length (drops coef rows needed i m) ≤ length l) (full coef rows needed (without i l)) (without i l) l
      (λ e.
      let h : length (drops coef rows needed i (without i l)) ≤ length (without i l) = drops_le i (without i l) in
      let k : length (without i l) ≤ length l = without_le i l in
      omega arith)
      (λ e. drops_le i l)

  module _ (l : List E) (e : E) (kept : List E) where
    -- what is looked at next
    looked : full coef rows needed (without (length l) (l ++ (e ∷ kept))) ≡ full coef rows needed (l ++ kept)
    looked = ap (full coef rows needed) (without_place l e kept)

    pub drops_goes : full coef rows needed (l ++ kept) ≡ true
        → drops coef rows needed (suc (length l)) (l ++ (e ∷ kept)) ≡ drops coef rows needed (length l) (l ++ kept)
    unfolding drops
    drops_goes f =
        ap (λ (t : Bool). drops coef rows needed (length l) (cond t (without (length l) (l ++ (e ∷ kept))) (l ++ (e ∷ kept)))) (looked ∙ f)
        ∙ ap (drops coef rows needed (length l)) (without_place l e kept)

    pub drops_stays : full coef rows needed (l ++ kept) ≡ false
        → drops coef rows needed (suc (length l)) (l ++ (e ∷ kept)) ≡ drops coef rows needed (length l) (l ++ (e ∷ kept))
    unfolding drops
    drops_stays f =
        ap (λ (t : Bool). drops coef rows needed (length l) (cond t (without (length l) (l ++ (e ∷ kept))) (l ++ (e ∷ kept)))) (looked ∙ f)
