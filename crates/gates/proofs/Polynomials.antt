-- Laws of the gate step's polynomial (specs/Polynomial.antt).
--
--   Row            the entries of a row of answers are bits
--   bit_first      so are the bits that its constants are made of: that of the first operand
--   bit_second     that of the second
--   bit_both       that of both
--   copies_fit     eight copies of a bit fit a byte
--   step_lt        the polynomial's value is a byte where the mask is one
--   step_digit     a bit of its value is the kind's answer to that bit of the operands, or 0 where the mask is 0
use Prim.Native.Nat.{ℕ, ◌*◌, ◌/◌, ◌%◌, ◌^◌, ◌<◌}
use native.Mathlib.Nat.{lt_of_le_of_lt}
use native.Mathlib.Omega.{arith}
use mathlib.Core.Path.{◌≡◌, ap, ap₂, ◌∙◌}
use mathlib.Core.Bool.{Bool}
use mathlib.Core.List.{List, []}
use lib.Bits.{bit_and, bit_xor, and_le_l, and_le_r, xor_lt}
use lib.Dec.{eqb}
use lib.ListN.{get_or}
use mir.Syntax.{w8}
use mir.Val.{Fits}
use Rattle.bits.specs.Bounds.{each_below}
use Rattle.bits.proofs.Below.{each_below_lem, equal_below}
use Rattle.bits.proofs.Digits.{digit_lt, digit_and, digit_xor}
use Rattle.gates.specs.Answers.{answers, answer}
use Rattle.gates.specs.Polynomial.{step, polynomial_with, polynomial_of}
use Rattle.gates.specs.declared.Polynomial.{Polynomial}
use Rattle.gates.proofs.Answers.{answers_lt}
use Rattle.gates.proofs.Masks.{full_digit}

-- the entries of a row of answers are bits
abbrev pub Row : List ℕ → Type 0
Row row = (k : ℕ) → k < 4 → get_or row k 0 < 2

module _ (row : List ℕ) (bit : Row row) where
  pub bit_first : bit_xor (get_or row 0 0) (get_or row 2 0) < 2
  bit_first = xor_lt 1 (get_or row 0 0) (get_or row 2 0) (bit 0 (omega arith)) (bit 2 (omega arith))

  pub bit_second : bit_xor (get_or row 0 0) (get_or row 1 0) < 2
  bit_second = xor_lt 1 (get_or row 0 0) (get_or row 1 0) (bit 0 (omega arith)) (bit 1 (omega arith))

  pub bit_both : bit_xor (bit_xor (get_or row 0 0) (get_or row 1 0)) (bit_xor (get_or row 2 0) (get_or row 3 0)) < 2
  bit_both = xor_lt 1 _ _ bit_second (xor_lt 1 (get_or row 2 0) (get_or row 3 0) (bit 2 (omega arith)) (bit 3 (omega arith)))

  form_with_ext : (f g : ℕ → ℕ) → ((b : ℕ) → b < 2 → f b ≡ g b) → polynomial_with f row ≡ polynomial_with g row
  unfolding polynomial_with
  form_with_ext f g same =
      let p0 = same (get_or row 0 0) (bit 0 (omega arith)) in let p1 = same _ bit_first in let p2 = same _ bit_second in
      let p3 = same _ bit_both in λ i. record { constant = p0 i; first = p1 i; second = p2 i; both = p3 i }

pub copies_fit : {b : ℕ} → b < 2 → Fits w8 (255 * b)
copies_fit h = omega arith

-- ---- the size

and_byte : (a b : ℕ) → a < 256 → bit_and a b < 256
and_byte a b h = lt_of_le_of_lt (and_le_l a b) h

formed_lt : (made : ℕ → ℕ) → ((b : ℕ) → made b < 256) → (row : List ℕ) (x y : ℕ) → step (polynomial_with made row) x y < 256
unfolding polynomial_with
formed_lt made h row x y =
    xor_lt 8 _ _ (xor_lt 8 _ _ (xor_lt 8 _ _ (h _) (and_byte (made _) x (h _))) (and_byte (made _) y (h _))) (and_byte (made _) (bit_and x y) (h _))

pub step_lt : (row : List ℕ) (mask : ℕ) → mask < 256 → (x y : ℕ) → step (polynomial_of row mask) x y < 256
unfolding polynomial_of
step_lt row mask h = formed_lt (λ b. bit_and (255 * b) mask) (λ b. lt_of_le_of_lt (and_le_r (255 * b) mask) h) row

-- ---- the bits

-- bit k of the constants
digit_polynomial : Polynomial → ℕ → Polynomial
digit_polynomial f k =
    record {
      constant = f.constant / 2 ^ k % 2;
      first = f.first / 2 ^ k % 2;
      second = f.second / 2 ^ k % 2;
      both = f.both / 2 ^ k % 2;
    }

digit_step : (f : Polynomial) (x y k : ℕ) → step f x y / 2 ^ k % 2 ≡ step (digit_polynomial f k) (x / 2 ^ k % 2) (y / 2 ^ k % 2)
unfolding digit_polynomial
digit_step f x y k =
    digit_xor _ (bit_and f.both (bit_and x y)) k
    ∙ ap₂ bit_xor
    (digit_xor _ (bit_and f.second y) k
    ∙ ap₂ bit_xor (digit_xor f.constant (bit_and f.first x) k ∙ ap (bit_xor (f.constant / 2 ^ k % 2)) (digit_and f.first x k)) (digit_and f.second y k))
    (digit_and f.both (bit_and x y) k ∙ ap (bit_and (f.both / 2 ^ k % 2)) (digit_and x y k))

masked : (b mask k : ℕ) → b < 2 → k < 8 → bit_and (255 * b) mask / 2 ^ k % 2 ≡ bit_and b (mask / 2 ^ k % 2)
masked b mask k h l = digit_and (255 * b) mask k ∙ ap (λ (x : ℕ). bit_and x (mask / 2 ^ k % 2)) (full_digit b k h l)

digit_polynomial_lem : (row : List ℕ) (mask k : ℕ) → Row row → k < 8 → digit_polynomial (polynomial_of row mask) k ≡ polynomial_with (λ b. bit_and b (mask / 2 ^ k % 2)) row
unfolding digit_polynomial polynomial_with polynomial_of
digit_polynomial_lem row mask k h l =
    form_with_ext row h (λ b. bit_and (255 * b) mask / 2 ^ k % 2) (λ b. bit_and b (mask / 2 ^ k % 2)) (λ b hb. masked b mask k hb l)

-- on single bits, by one test computed at all kinds and bits
abbrev bit_test : ℕ → ℕ → Bool
unfolding polynomial_with answer
bit_test kind b = each_below 2 (λ x. each_below 2 (λ y. eqb (step (polynomial_with (λ c. bit_and c b) (get_or answers kind [])) x y) (b * answer kind x y)))

step_bits : (kind b x y : ℕ) → kind < 8 → b < 2 → x < 2 → y < 2 → step (polynomial_with (λ c. bit_and c b) (get_or answers kind [])) x y ≡ b * answer kind x y
unfolding polynomial_with answer
step_bits kind b x y hk hb hx hy =
    equal_below (λ x y. step (polynomial_with (λ c. bit_and c b) (get_or answers kind [])) x y) (λ x y. b * answer kind x y) 2 2
    (each_below_lem (bit_test kind) 2 (each_below_lem (λ kind. each_below 2 (bit_test kind)) 8 tt kind hk) b hb) x y hx hy

pub step_digit : (kind mask x y k : ℕ) → kind < 8 → k < 8
    → step (polynomial_of (get_or answers kind []) mask) x y / 2 ^ k % 2 ≡ mask / 2 ^ k % 2 * answer kind (x / 2 ^ k % 2) (y / 2 ^ k % 2)
step_digit kind mask x y k h l =
    digit_step (polynomial_of (get_or answers kind []) mask) x y k
    ∙ ap (λ (f : Polynomial). step f (x / 2 ^ k % 2) (y / 2 ^ k % 2)) (digit_polynomial_lem (get_or answers kind []) mask k (answers_lt kind h) l)
    ∙ step_bits kind (mask / 2 ^ k % 2) (x / 2 ^ k % 2) (y / 2 ^ k % 2) h (digit_lt mask k) (digit_lt x k) (digit_lt y k)
