-- Numbers below a bound.
--
--   lt_or_ge          a number is below another or not
--   each_below_lem    a test that holds of each number below a bound, by computation, holds of any
--   equal_below       two functions of two numbers below bounds are equal, by computation
use Prim.Native.Nat.{ℕ, zero, suc, ◌≤◌, ◌<◌, zero-le, suc-le-suc}
use native.Mathlib.Nat.{not-suc-le-zero, eq-or-lt_of_le, le_of_suc-le-suc}
use native.Mathlib.Omega.{arith}
use mathlib.Core.Path.{◌≡◌}
use mathlib.Core.Bool.{Bool, true, false, ◌&&◌}
use mathlib.Core.Logic.{◌⊎◌, inl, inr, ⊎_elim}
use lib.Dec.{T, eqb, eqb→eq}
use Rattle.bits.specs.Bounds.{each_below}

pub lt_or_ge : (a b : ℕ) → (a < b) ⊎ (b ≤ a)
lt_or_ge a zero = inr zero-le
lt_or_ge zero (suc b) = inl (omega arith)
lt_or_ge (suc a) (suc b) = ⊎_elim (λ h. inl (suc-le-suc h)) (λ h. inr (suc-le-suc h)) (lt_or_ge a b)

and_left : (a b : Bool) → T (a && b) → T a
and_left true b t = tt
and_left false b t = t

and_right : (a b : Bool) → T (a && b) → T b
and_right true b t = t
and_right false b t = absurd t

pub each_below_lem : (f : ℕ → Bool) (n : ℕ) → T (each_below n f) → (k : ℕ) → k < n → T (f k)
each_below_lem f zero t k h = absurd (not-suc-le-zero h)
each_below_lem f (suc n) t k h =
    ⊎_elim (λ e. rw e (and_right (each_below n f) (f n) t)) (λ l. each_below_lem f n (and_left (each_below n f) (f n) t) k l)
    (eq-or-lt_of_le (le_of_suc-le-suc h))

pub equal_below : (f g : ℕ → ℕ → ℕ) (m n : ℕ) → T (each_below m (λ a. each_below n (λ b. eqb (f a b) (g a b)))) → (a b : ℕ) → a < m → b < n → f a b ≡ g a b
equal_below f g m n t a b ha hb =
    eqb→eq (f a b) (g a b) (each_below_lem (λ b. eqb (f a b) (g a b)) n (each_below_lem (λ a. each_below n (λ b. eqb (f a b) (g a b))) m t a ha) b hb)
