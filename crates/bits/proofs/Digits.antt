-- The binary digits of a number: digit k of a is a / 2 ^ k % 2.
--
--   digit_lt        a digit is below 2
--   digits_equal    two numbers below 2 ^ w with the same w digits are equal
--   digit_above     digit k of q * 2 ^ w + r is that of r, for k below w
--   digit_and       a digit of a & b is made of the digits of a and b
--   digit_xor       a digit of a ^ b is made of the digits of a and b
use Prim.Native.Nat.{ℕ, zero, suc, ◌+◌, ◌-◌, ◌*◌, ◌/◌, ◌%◌, ◌^◌, ◌<◌}
use native.Mathlib.Nat.{mod-lt, mul-add-div_right, mul-add-mod_self_right, pow-succ', mul_assoc}
use native.Mathlib.Omega.{arith}
use mathlib.Core.Path.{◌≡◌, sym, ap, ◌∙◌}
use lib.Arith.{lt-one}
use lib.Bits.{bit_and, bit_xor, and_shr, and_mod, xor_shr, xor_mod}
use lib.Pow.{pow_pos, pow-add, shr-shr, shr_lt}

pub digit_lt : (a k : ℕ) → a / 2 ^ k % 2 < 2
digit_lt a k = mod-lt (a / 2 ^ k) (pow_pos 1)

half_lt : (w a : ℕ) → a < 2 ^ suc w → a / 2 < 2 ^ w
half_lt w a h = shr_lt w 1 (let e : w + 1 ≡ suc w = omega arith in rw e h)

digit_suc : (a k : ℕ) → a / 2 / 2 ^ k % 2 ≡ a / 2 ^ suc k % 2
digit_suc a k = ap (λ (x : ℕ). x % 2) (shr-shr a 1 k) ∙ (let e : 1 + k ≡ suc k = omega arith in rw e)

join : (a b : ℕ) → a / 2 ≡ b / 2 → a / 2 ^ 0 % 2 ≡ b / 2 ^ 0 % 2 → a ≡ b
join a b high low = omega arith

pub digits_equal : (w a b : ℕ) → a < 2 ^ w → b < 2 ^ w → ((k : ℕ) → k < w → a / 2 ^ k % 2 ≡ b / 2 ^ k % 2) → a ≡ b
digits_equal zero a b ha hb same = lt-one ha ∙ sym (lt-one hb)
digits_equal (suc w) a b ha hb same =
    join a b
    (digits_equal w (a / 2) (b / 2) (half_lt w a ha) (half_lt w b hb)
    (λ k h. digit_suc a k ∙ same (suc k) (omega arith) ∙ sym (digit_suc b k)))
    (same 0 (omega arith))

digit_over : (d k q r : ℕ) → (q * 2 ^ (d + suc k) + r) / 2 ^ k % 2 ≡ r / 2 ^ k % 2
digit_over d k q r =
    ap (λ (x : ℕ). (x + r) / 2 ^ k % 2) parts ∙ ap (λ (x : ℕ). x % 2) (mul-add-div_right (pow_pos k) (q * 2 ^ d * 2) r)
    ∙ mul-add-mod_self_right (q * 2 ^ d) 2 (r / 2 ^ k)
  where
    parts : q * 2 ^ (d + suc k) ≡ q * 2 ^ d * 2 * 2 ^ k
    parts = rw (pow-add 2 d (suc k), pow-succ' 2 k, ← mul_assoc q (2 ^ d) (2 * 2 ^ k), ← mul_assoc (q * 2 ^ d) 2 (2 ^ k))

pub digit_above : (w k q r : ℕ) → k < w → (q * 2 ^ w + r) / 2 ^ k % 2 ≡ r / 2 ^ k % 2
digit_above w k q r h = let e : w ≡ (w - suc k) + suc k = omega arith in ap (λ (x : ℕ). (q * 2 ^ x + r) / 2 ^ k % 2) e ∙ digit_over (w - suc k) k q r

pub digit_and : (a b k : ℕ) → bit_and a b / 2 ^ k % 2 ≡ bit_and (a / 2 ^ k % 2) (b / 2 ^ k % 2)
digit_and a b k = ap (λ (x : ℕ). x % 2) (and_shr a b k) ∙ and_mod (a / 2 ^ k) (b / 2 ^ k) 1

pub digit_xor : (a b k : ℕ) → bit_xor a b / 2 ^ k % 2 ≡ bit_xor (a / 2 ^ k % 2) (b / 2 ^ k % 2)
digit_xor a b k = ap (λ (x : ℕ). x % 2) (xor_shr a b k) ∙ xor_mod (a / 2 ^ k) (b / 2 ^ k) 1
