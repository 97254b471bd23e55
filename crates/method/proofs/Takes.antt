-- What taking takes, over any scan.
--
--   takes_tell     a needed pair that agrees on what is taken in the end agrees on what was taken before, and on the whole scan
--   takes_full     if the whole scan is full, so is what is taken
--   takes_useful   a useful entry is taken
--   takes_idle     another is passed over
--   takes_from     every entry taken was taken before, or is in the scan
--   takes_agree    rows that agree on what was taken and on the scan agree on what is taken in the end
use Prim.Native.Nat.{ℕ, ◌<◌}
use mathlib.Core.Path.{◌≡◌, refl, ap}
use mathlib.Core.Bool.{Bool, true, false, not, cond, ◌&&◌}
use mathlib.Core.Logic.{◌⊎◌, inl, inr, ⊎_elim}
use mathlib.Core.List.Memᴰ
use mathlib.Core.List.{List, [], ◌∷◌, ◌++◌, Memᴰ}
use borrow.Author.Tests.{not-false}
use lib.Dec.{eqb}
use Rattle.bits.proofs.Tests.{and_l, and_r, and_i, clash, by_cond}
use Rattle.method.specs.Method.{agree, useful, full, takes}
use Rattle.method.proofs.Pairs.{some_pair_none}
use Rattle.method.proofs.Agreement.{agree_first, agree_at, agree_both, full_more}

and-false : (a b : Bool) → a ≡ true → a && b ≡ false → b ≡ false
and-false true b p q = q
and-false false b p q = absurd (clash p refl)

module _ {E : Type 0} (coef : ℕ → E → ℕ) (rows : ℕ) (needed : ℕ → ℕ → Bool) where
  -- at an entry that isn't useful, a needed pair that agrees on what is taken agrees
  idle_agree : (taken : List E) (e : E) (a b : ℕ) → useful coef rows needed taken e ≡ false → a < b → b < rows → needed a b ≡ true
      → agree coef taken a b ≡ true → eqb (coef a e) (coef b e) ≡ true
  unfolding useful
  idle_agree taken e a b u h k n t =
      not-false (eqb (coef a e) (coef b e))
      (and-false (agree coef taken a b) (not (eqb (coef a e) (coef b e))) t
      (some_pair_none coef rows needed (λ a b. agree coef taken a b && not (eqb (coef a e) (coef b e))) u a b h k n))

  pub takes_tell : (taken scan : List E) (a b : ℕ) → a < b → b < rows → needed a b ≡ true → agree coef (takes coef rows needed taken scan) a b ≡ true
      → (agree coef taken a b ≡ true) × (agree coef scan a b ≡ true)
  unfolding takes agree
  takes_tell taken [] a b h k n t = (t, refl)
  takes_tell taken (e ∷ scan) a b h k n t =
      by_cond (λ m. agree coef (takes coef rows needed m scan) a b ≡ true → (agree coef taken a b ≡ true) × (eqb (coef a e) (coef b e) && agree coef scan a b ≡ true))
      (useful coef rows needed taken e) (taken ++ (e ∷ [])) taken
      (λ u t.
      let r : (agree coef (taken ++ (e ∷ [])) a b ≡ true) × (agree coef scan a b ≡ true) = takes_tell (taken ++ (e ∷ [])) scan a b h k n t in
      (agree_first coef taken (e ∷ []) a b r.0, and_i (agree_at coef taken e a b r.0) r.1))
      (λ u t.
      let r : (agree coef taken a b ≡ true) × (agree coef scan a b ≡ true) = takes_tell taken scan a b h k n t in
      (r.0, and_i (idle_agree taken e a b u h k n r.0) r.1))
      t

  pub takes_full : (taken scan : List E) → full coef rows needed scan ≡ true → full coef rows needed (takes coef rows needed taken scan) ≡ true
  takes_full taken scan f =
      full_more coef rows needed scan (takes coef rows needed taken scan) (λ a b h k n t. (takes_tell taken scan a b h k n t).1) f

  pub takes_useful : (taken : List E) (e : E) (scan : List E) → useful coef rows needed taken e ≡ true
      → takes coef rows needed taken (e ∷ scan) ≡ takes coef rows needed (taken ++ (e ∷ [])) scan
  unfolding takes
  takes_useful taken e scan u = ap (λ (t : Bool). takes coef rows needed (cond t (taken ++ (e ∷ [])) taken) scan) u

  pub takes_idle : (taken : List E) (e : E) (scan : List E) → useful coef rows needed taken e ≡ false
      → takes coef rows needed taken (e ∷ scan) ≡ takes coef rows needed taken scan
  unfolding takes
  takes_idle taken e scan u = ap (λ (t : Bool). takes coef rows needed (cond t (taken ++ (e ∷ [])) taken) scan) u

  one_more : (taken : List E) (e : E) (scan : List E) {x : E} → Memᴰ x taken ⊎ Memᴰ x (e ∷ []) → Memᴰ x taken ⊎ Memᴰ x (e ∷ scan)
  one_more taken e scan (inl p) = inl p
  one_more taken e scan (inr p) = inr (Memᴰ.head (Memᴰ.eq_of_singleton p))

  pub takes_from : (taken scan : List E) {x : E} → Memᴰ x (takes coef rows needed taken scan) → Memᴰ x taken ⊎ Memᴰ x scan
  unfolding takes
  takes_from taken [] m = inl m
  takes_from taken (e ∷ scan) {x} m =
      by_cond (λ m. Memᴰ x (takes coef rows needed m scan) → Memᴰ x taken ⊎ Memᴰ x (e ∷ scan))
      (useful coef rows needed taken e) (taken ++ (e ∷ [])) taken
      (λ u m. ⊎_elim (λ p. one_more taken e scan (Memᴰ.append_cases taken p)) (λ p. inr (Memᴰ.tail p)) (takes_from (taken ++ (e ∷ [])) scan m))
      (λ u m. ⊎_elim (λ p. inl p) (λ p. inr (Memᴰ.tail p)) (takes_from taken scan m))
      m

  pub takes_agree : (taken scan : List E) (a b : ℕ) → agree coef taken a b ≡ true → agree coef scan a b ≡ true
      → agree coef (takes coef rows needed taken scan) a b ≡ true
  unfolding takes agree
  takes_agree taken [] a b h k = h
  takes_agree taken (e ∷ scan) a b h k =
      by_cond (λ m. agree coef (takes coef rows needed m scan) a b ≡ true) (useful coef rows needed taken e) (taken ++ (e ∷ [])) taken
      (λ u. takes_agree (taken ++ (e ∷ [])) scan a b
      (agree_both coef taken (e ∷ []) a b h (and_i (and_l (eqb (coef a e) (coef b e)) (agree coef scan a b) k) refl))
      (and_r (eqb (coef a e) (coef b e)) (agree coef scan a b) k))
      (λ u. takes_agree taken scan a b h (and_r (eqb (coef a e) (coef b e)) (agree coef scan a b) k))
