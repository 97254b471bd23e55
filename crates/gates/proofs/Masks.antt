-- Laws of a table's shape (specs/Polynomial.antt).
--
--   mask_rest         from three inputs on the mask has every bit
--   mask_lt           the mask is a byte
--   full_digit        the bits of eight copies of a bit are that bit
--   mask_full         from three inputs on every bit of the mask is 1
--   mask_digit        a bit of the mask is 1 where an entry stands, and 0 at a spare bit
use Prim.Native.Nat.{ℕ, ◌+◌, ◌-◌, ◌*◌, ◌/◌, ◌%◌, ◌^◌, ◌≤◌, ◌<◌}
use native.Mathlib.Omega.{arith}
use mathlib.Core.Path.{◌≡◌, ap, ◌∙◌}
use mathlib.Core.Bool.{Bool, cond}
use mathlib.Core.List.{[], ◌∷◌}
use mathlib.Core.Logic.{⊎_elim}
use borrow.Author.Tests.{lt-ltb}
use lib.Dec.{ltb, eqb, ltb→lt, eqb→eq}
use lib.ListN.{get_or-eq_default}
use lib.Pow.{pow-add}
use Rattle.bits.specs.Bounds.{each_below}
use Rattle.bits.proofs.Below.{lt_or_ge, each_below_lem, equal_below}
use Rattle.gates.specs.Polynomial.{mask_of}
use Rattle.bits.specs.Sizes.{table_bytes}

pub mask_rest : (n : ℕ) → 3 ≤ n → mask_of n ≡ 255
mask_rest n h = get_or-eq_default (128 ∷ 192 ∷ 240 ∷ []) 255 h

pub mask_lt : (n : ℕ) → mask_of n < 256
mask_lt n =
    ⊎_elim (λ h. ltb→lt (mask_of n) 256 (each_below_lem (λ n. ltb (mask_of n) 256) 3 tt n h)) (λ h. rw (mask_rest n h) (omega arith)) (lt_or_ge n 3)

pub full_digit : (b k : ℕ) → b < 2 → k < 8 → 255 * b / 2 ^ k % 2 ≡ b
full_digit = equal_below (λ b k. 255 * b / 2 ^ k % 2) (λ b k. b) 2 8 tt

-- from three inputs on a table fills its bytes
whole : (n : ℕ) → 3 ≤ n → 8 * table_bytes n ≡ 2 ^ n
whole n h =
    let e : n - 3 + 3 ≡ n = omega arith in let p : 2 ^ n ≡ 2 ^ (n - 3) * 8 = rw e at (pow-add 2 (n - 3) 3) in omega arith

abbrev keep_test : ℕ → ℕ → Bool
keep_test n m = eqb (mask_of n / 2 ^ (7 - m % 8) % 2) (cond (ltb m (2 ^ n)) 1 0)

pub mask_full : (n k : ℕ) → 3 ≤ n → k < 8 → mask_of n / 2 ^ k % 2 ≡ 1
mask_full n k h l = ap (λ (x : ℕ). x / 2 ^ k % 2) (mask_rest n h) ∙ full_digit 1 k (omega arith) l

pub mask_digit : (n m : ℕ) → m < 8 * table_bytes n → mask_of n / 2 ^ (7 - m % 8) % 2 ≡ cond (ltb m (2 ^ n)) 1 0
mask_digit n m l = ⊎_elim few many (lt_or_ge n 3)
  where
    few : n < 3 → mask_of n / 2 ^ (7 - m % 8) % 2 ≡ cond (ltb m (2 ^ n)) 1 0
    few h =
        eqb→eq (mask_of n / 2 ^ (7 - m % 8) % 2) (cond (ltb m (2 ^ n)) 1 0)
        (each_below_lem (keep_test n) (8 * table_bytes n) (each_below_lem (λ n. each_below (8 * table_bytes n) (keep_test n)) 3 tt n h) m l)

    many : 3 ≤ n → mask_of n / 2 ^ (7 - m % 8) % 2 ≡ cond (ltb m (2 ^ n)) 1 0
    many h = mask_full n (7 - m % 8) h (omega arith) ∙ rw (lt-ltb m (2 ^ n) (rw whole at l))
