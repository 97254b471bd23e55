-- The sum's terms are those of source document 001, definition 3.1: the k subnumbers of m are the (t xor k) of the sum for j = m xor k.
--
--   Subnumber            s is a k subnumber of m, by the source's definition: each bit of s is that of k, or that of m is not that of k
--   subnumber_inside     exactly when the bits of (s xor k) are all set in (m xor k)
--   subnumber_term       exactly when s is a (t xor k) with t inside (m xor k)
use Prim.Native.Nat.{ℕ, zero, suc, ◌+◌, ◌/◌, ◌%◌, ◌^◌, ◌<◌}
use native.Mathlib.Nat.{lt_of_le_of_lt, mod-eq_of_lt}
use native.Mathlib.Omega.{arith}
use mathlib.Core.Path.{◌≡◌, refl, sym, ap, ap₂, ◌∙◌}
use mathlib.Core.Bool.{true}
use mathlib.Core.Logic.{◌⊎◌, inl, inr, ⊎_elim, ◌≢◌, ◌↔◌}
use borrow.Author.Tests.{eqb-true, eq-eqb}
use lib.Bits.{bit_and, bit_xor, and_le_l, and_mask, and_zero_r, xor_lt, xor_self}
use Rattle.bits.proofs.Digits.{digit_lt, digits_equal, digit_and, digit_xor}
use Rattle.spectra.specs.Spectrum.{inside}
use Rattle.spectra.proofs.Inverse.{xor_undo}
use Rattle.spectra.proofs.Uniqueness.{equal_or_not}

abbrev pub Subnumber : ℕ → ℕ → ℕ → ℕ → Type 0
Subnumber n k s m = (i : ℕ) → i < n → (s / 2 ^ i % 2 ≡ k / 2 ^ i % 2) ⊎ (m / 2 ^ i % 2 + k / 2 ^ i % 2 ≡ 1)

-- ---- one bit

xor_other : (a b : ℕ) → a + b ≡ 1 → bit_xor a b ≡ 1
xor_other zero b h = omega arith
xor_other (suc zero) zero h = refl
xor_other (suc zero) (suc b) h = absurd (omega arith)
xor_other (suc (suc a)) b h = absurd (omega arith)

inside_bit : (s m k : ℕ) → s < 2 → k < 2 → (s ≡ k) ⊎ (m + k ≡ 1) → bit_and (bit_xor s k) (bit_xor m k) ≡ bit_xor s k
inside_bit s m k hs hk =
    ⊎_elim
    (λ p. let z : bit_xor s k ≡ 0 = ap (λ (x : ℕ). bit_xor x k) p ∙ xor_self k in ap (λ (x : ℕ). bit_and x (bit_xor m k)) z ∙ sym z)
    (λ p. ap (bit_and (bit_xor s k)) (xor_other m k p) ∙ and_mask (bit_xor s k) 1 ∙ mod-eq_of_lt (xor_lt 1 s k hs hk))

bit_inside : (s m k : ℕ) → s < 2 → m < 2 → k < 2 → bit_and (bit_xor s k) (bit_xor m k) ≡ bit_xor s k → (s ≡ k) ⊎ (m + k ≡ 1)
bit_inside s m k hs hm hk e = ⊎_elim (λ p. inl p) (λ d. inr (other d)) (equal_or_not s k)
  where
    other : s ≢ k → m + k ≡ 1
    other d =
        ⊎_elim (λ p. p)
        (λ q. let z : bit_xor s k ≡ 1 = xor_other s k (omega arith) in
        let r : m ≡ k = omega arith in
        let w : bit_xor m k ≡ 0 = ap (λ (x : ℕ). bit_xor x k) r ∙ xor_self k in
        let v : ◌≡◌ {A = ℕ} 0 1 = sym (ap (bit_and (bit_xor s k)) w ∙ and_zero_r (bit_xor s k)) ∙ e ∙ z in
        absurd (omega arith))
        (equal_or_not (m + k) 1)

-- ---- all bits

digit_both : (s m k i : ℕ) → bit_and (bit_xor s k) (bit_xor m k) / 2 ^ i % 2
    ≡ bit_and (bit_xor (s / 2 ^ i % 2) (k / 2 ^ i % 2)) (bit_xor (m / 2 ^ i % 2) (k / 2 ^ i % 2))
digit_both s m k i = digit_and (bit_xor s k) (bit_xor m k) i ∙ ap₂ bit_and (digit_xor s k i) (digit_xor m k i)

module _ (n k s m : ℕ) (hk : k < 2 ^ n) (hs : s < 2 ^ n) where
  pub subnumber_inside : Subnumber n k s m ↔ (inside (bit_xor s k) (bit_xor m k) ≡ true)
  unfolding inside
  subnumber_inside = (
    λ h. eq-eqb (bit_and (bit_xor s k) (bit_xor m k)) (bit_xor s k)
        (digits_equal n (bit_and (bit_xor s k) (bit_xor m k)) (bit_xor s k)
        (lt_of_le_of_lt (and_le_l (bit_xor s k) (bit_xor m k)) (xor_lt n s k hs hk)) (xor_lt n s k hs hk)
        (λ i l. digit_both s m k i
        ∙ inside_bit (s / 2 ^ i % 2) (m / 2 ^ i % 2) (k / 2 ^ i % 2) (digit_lt s i) (digit_lt k i) (h i l)
        ∙ sym (digit_xor s k i))),
    λ e i l. bit_inside (s / 2 ^ i % 2) (m / 2 ^ i % 2) (k / 2 ^ i % 2) (digit_lt s i) (digit_lt m i) (digit_lt k i)
        (sym (digit_both s m k i)
        ∙ ap (λ (x : ℕ). x / 2 ^ i % 2) (eqb-true (bit_and (bit_xor s k) (bit_xor m k)) (bit_xor s k) e)
        ∙ digit_xor s k i),
  )

  pub subnumber_term : Subnumber n k s m ↔ ((t : ℕ) × (t < 2 ^ n) × (inside t (bit_xor m k) ≡ true) × (s ≡ bit_xor t k))
  subnumber_term = (
    λ h. (bit_xor s k, xor_lt n s k hs hk, subnumber_inside.0 h, sym (xor_undo s k)),
    λ x. subnumber_inside.1 (ap (λ (t : ℕ). inside t (bit_xor m k)) (ap (λ (y : ℕ). bit_xor y k) x.3 ∙ xor_undo x.0 k) ∙ x.2),
  )
