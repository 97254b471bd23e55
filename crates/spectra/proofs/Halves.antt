-- The halves law (source document 001, section 3.6), in every polarity: bit n of the polarity, b, says which half of the table the lower
-- half of the spectrum is made of; the other half is d, with b + d ≡ 1.
--
--   halves_lower       the lower half of a spectrum is the spectrum of half b of the table
--   halves_upper       an upper coefficient is the sum of those of both halves, modulo 2 for RM
--   spectrum_halves    both, as lists: the lower half of a spectrum, then the sums with the spectrum of the other half
--   spectrum_one       a table of one entry is its own spectrum
--   subset_lower, subset_upper   the same of the sums before they are reduced
--   reduce_add         a sum may be reduced before it is added
--   xor_low, xor_high, inside_low, inside_out, inside_high   what the bit above n does to a number and to the subset test
use Prim.Native.Nat.{ℕ, zero, suc, ◌+◌, ◌*◌, ◌^◌, ◌≤◌, ◌<◌}
use native.Mathlib.Nat.{zero-add, add-zero, zero-mul, mod-eq_of_lt, add-mod}
use native.Mathlib.Omega.{arith}
use mathlib.Core.Path.{◌≡◌, refl, sym, ap, ap₂, ◌∙◌}
use mathlib.Core.Bool.{Bool, true, false, cond}
use mathlib.Core.List.{List, [], ◌∷◌, ◌++◌}
use borrow.Author.Tests.{eqb-true, eqb-false, eq-eqb, ne_eqb}
use lib.Bits.{bit_and, bit_xor, and_block, xor_block, and_le_l}
use lib.Dec.{eqb}
use lib.ListN.{get_or}
use lib.Pow.{pow_pos}
use Rattle.bits.specs.Packed.{tabulate}
use Rattle.bits.proofs.Packed.{tabulate_at, tabulate_ext}
use Rattle.spectra.specs.Spectrum.{inside, sum_to, subset_sum, reduce, coefficient, spectrum}
use Rattle.spectra.specs.declared.Kind.{Kind}
use Rattle.spectra.specs.declared.Kind.TheVariants.{Rm, Mrm}
use Rattle.spectra.proofs.Sums.{sum_to_ext, sum_to_add, sum_to_zero, tabulate_add, pow_double, term}

-- ---- the bit above n

-- a number below 2 ^ n has the bit 0 there, and 2 ^ n more the bit 1
bit_zero : (n t : ℕ) → t ≡ 0 * 2 ^ n + t
bit_zero n t = let e = zero-mul (2 ^ n) in omega arith

bit_one : (n t : ℕ) → 2 ^ n + t ≡ 1 * 2 ^ n + t
bit_one n t = omega arith

pub xor_low : (n b k t : ℕ) → k < 2 ^ n → t < 2 ^ n → bit_xor t (b * 2 ^ n + k) ≡ b * 2 ^ n + bit_xor t k
xor_low n b k t hk ht = ap (λ (x : ℕ). bit_xor x (b * 2 ^ n + k)) (bit_zero n t) ∙ xor_block n 0 b t k ht hk

other : (b d : ℕ) → b + d ≡ 1 → bit_xor 1 b ≡ d
other zero d h = omega arith
other (suc zero) d h = omega arith
other (suc (suc b)) d h = absurd (omega arith)

pub xor_high : (n b d k t : ℕ) → b + d ≡ 1 → k < 2 ^ n → t < 2 ^ n → bit_xor (2 ^ n + t) (b * 2 ^ n + k) ≡ d * 2 ^ n + bit_xor t k
xor_high n b d k t h hk ht =
    ap (λ (x : ℕ). bit_xor x (b * 2 ^ n + k)) (bit_one n t) ∙ xor_block n 1 b t k ht hk
    ∙ ap (λ (x : ℕ). x * 2 ^ n + bit_xor t k) (other b d h)

-- two tests of equality agree when each side follows from the other
eqb_same : (a b c d : ℕ) → (a ≡ b → c ≡ d) → (c ≡ d → a ≡ b) → eqb a b ≡ eqb c d
eqb_same a b c d f g = go (eqb c d) refl
  where
    go : (u : Bool) → eqb c d ≡ u → eqb a b ≡ eqb c d
    go true e = eq-eqb a b (g (eqb-true c d e)) ∙ sym e
    go false e = ne_eqb a b (λ p. eqb-false c d e (f p)) ∙ sym e

pub inside_low : (n t j : ℕ) → t < 2 ^ n → j < 2 ^ n → inside t (2 ^ n + j) ≡ inside t j
unfolding inside
inside_low n t j ht hj =
    ap (λ (x : ℕ). eqb x t)
    (ap₂ bit_and (bit_zero n t) (bit_one n j) ∙ and_block n 0 1 t j ht hj ∙ sym (bit_zero n (bit_and t j)))

pub inside_out : (n t j : ℕ) → t < 2 ^ n → j < 2 ^ n → inside (2 ^ n + t) j ≡ false
unfolding inside
inside_out n t j ht hj =
    let e : bit_and (2 ^ n + t) j ≡ bit_and t j =
    ap₂ bit_and (bit_one n t) (bit_zero n j) ∙ and_block n 1 0 t j ht hj ∙ sym (bit_zero n (bit_and t j)) in
    let l : bit_and t j ≤ t = and_le_l t j in
    let p = pow_pos n in
    ne_eqb (bit_and (2 ^ n + t) j) (2 ^ n + t) (λ q. omega arith)

pub inside_high : (n t j : ℕ) → t < 2 ^ n → j < 2 ^ n → inside (2 ^ n + t) (2 ^ n + j) ≡ inside t j
unfolding inside
inside_high n t j ht hj =
    let e : bit_and (2 ^ n + t) (2 ^ n + j) ≡ 2 ^ n + bit_and t j =
    ap₂ bit_and (bit_one n t) (bit_one n j) ∙ and_block n 1 1 t j ht hj ∙ sym (bit_one n (bit_and t j)) in
    eqb_same (bit_and (2 ^ n + t) (2 ^ n + j)) (2 ^ n + t) (bit_and t j) t (λ q. omega arith) (λ q. omega arith)

-- ---- the sums

-- the sum over 2 ^ (n + 1) terms is that of the lower half and that of the upper one
both : (n k j : ℕ) (e : ℕ → ℕ) → subset_sum (suc n) k e j ≡ sum_to (2 ^ n) (term k e j) + sum_to (2 ^ n) (λ t. term k e j (2 ^ n + t))
unfolding subset_sum
both n k j e = ap (λ (x : ℕ). sum_to x (term k e j)) (pow_double n) ∙ sum_to_add (2 ^ n) (2 ^ n) (term k e j)

-- a half of the terms is the sum of a half of the table; term t stands at p t, and reads entry t of half c
half : (n k j c : ℕ) (e : ℕ → ℕ) (k' j' : ℕ) (p : ℕ → ℕ) → ((t : ℕ) → t < 2 ^ n → inside (p t) j' ≡ inside t j)
    → ((t : ℕ) → t < 2 ^ n → bit_xor (p t) k' ≡ c * 2 ^ n + bit_xor t k)
    → sum_to (2 ^ n) (λ t. term k' e j' (p t)) ≡ subset_sum n k (λ m. e (c * 2 ^ n + m)) j
unfolding subset_sum
half n k j c e k' j' p same reads =
    sum_to_ext (2 ^ n) (λ t. term k' e j' (p t)) (term k (λ m. e (c * 2 ^ n + m)) j)
    (λ t h. ap₂ (λ (u : Bool) (x : ℕ). cond u (e x) 0) (same t h) (reads t h))

pub subset_lower : (n b k j : ℕ) (e : ℕ → ℕ) → k < 2 ^ n → j < 2 ^ n
    → subset_sum (suc n) (b * 2 ^ n + k) e j ≡ subset_sum n k (λ m. e (b * 2 ^ n + m)) j
subset_lower n b k j e hk hj =
    both n (b * 2 ^ n + k) j e
    ∙ ap₂ (λ (x y : ℕ). x + y)
    (half n k j b e (b * 2 ^ n + k) j (λ t. t) (λ t h. refl) (λ t h. xor_low n b k t hk h))
    (sum_to_zero (2 ^ n) (λ t. term (b * 2 ^ n + k) e j (2 ^ n + t))
    (λ t h. ap (λ (u : Bool). cond u (e (bit_xor (2 ^ n + t) (b * 2 ^ n + k))) 0) (inside_out n t j h hj)))
    ∙ add-zero (subset_sum n k (λ m. e (b * 2 ^ n + m)) j)

pub subset_upper : (n b d k j : ℕ) (e : ℕ → ℕ) → b + d ≡ 1 → k < 2 ^ n → j < 2 ^ n
    → subset_sum (suc n) (b * 2 ^ n + k) e (2 ^ n + j) ≡ subset_sum n k (λ m. e (b * 2 ^ n + m)) j + subset_sum n k (λ m. e (d * 2 ^ n + m)) j
subset_upper n b d k j e h hk hj =
    both n (b * 2 ^ n + k) (2 ^ n + j) e
    ∙ ap₂ (λ (x y : ℕ). x + y)
    (half n k j b e (b * 2 ^ n + k) (2 ^ n + j) (λ t. t) (λ t l. inside_low n t j l hj) (λ t l. xor_low n b k t hk l))
    (half n k j d e (b * 2 ^ n + k) (2 ^ n + j) (λ t. 2 ^ n + t) (λ t l. inside_high n t j l hj) (λ t l. xor_high n b d k t h hk l))

-- ---- the coefficients

pub reduce_add : (kind : Kind) (x y : ℕ) → reduce kind (x + y) ≡ reduce kind (reduce kind x + reduce kind y)
reduce_add Rm x y = add-mod x y 2
reduce_add Mrm x y = refl

pub halves_lower : (kind : Kind) (n b k j : ℕ) (e : ℕ → ℕ) → k < 2 ^ n → j < 2 ^ n
    → coefficient kind (suc n) (b * 2 ^ n + k) e j ≡ coefficient kind n k (λ m. e (b * 2 ^ n + m)) j
unfolding coefficient
halves_lower kind n b k j e hk hj = ap (reduce kind) (subset_lower n b k j e hk hj)

pub halves_upper : (kind : Kind) (n b d k j : ℕ) (e : ℕ → ℕ) → b + d ≡ 1 → k < 2 ^ n → j < 2 ^ n
    → coefficient kind (suc n) (b * 2 ^ n + k) e (2 ^ n + j)
    ≡ reduce kind (coefficient kind n k (λ m. e (b * 2 ^ n + m)) j + coefficient kind n k (λ m. e (d * 2 ^ n + m)) j)
unfolding coefficient
halves_upper kind n b d k j e h hk hj =
    ap (reduce kind) (subset_upper n b d k j e h hk hj)
    ∙ reduce_add kind (subset_sum n k (λ m. e (b * 2 ^ n + m)) j) (subset_sum n k (λ m. e (d * 2 ^ n + m)) j)

pub spectrum_halves : (kind : Kind) (n b d k : ℕ) (e : ℕ → ℕ) → b + d ≡ 1 → k < 2 ^ n
    → spectrum kind (suc n) (b * 2 ^ n + k) e
    ≡ spectrum kind n k (λ m. e (b * 2 ^ n + m))
    ++ tabulate (2 ^ n) (λ i. reduce kind
    (get_or (spectrum kind n k (λ m. e (b * 2 ^ n + m))) i 0 + get_or (spectrum kind n k (λ m. e (d * 2 ^ n + m))) i 0))
unfolding spectrum
spectrum_halves kind n b d k e h hk =
    ap (λ (x : ℕ). tabulate x whole) (pow_double n)
    ∙ tabulate_add (2 ^ n) (2 ^ n) whole
    ∙ ap₂ (λ (x y : List ℕ). x ++ y)
    (tabulate_ext (2 ^ n) whole lower (λ j l. halves_lower kind n b k j e hk l))
    (tabulate_ext (2 ^ n) (λ j. whole (2 ^ n + j)) (λ i. reduce kind (get_or (tabulate (2 ^ n) lower) i 0 + get_or (tabulate (2 ^ n) upper) i 0))
    (λ j l. halves_upper kind n b d k j e h hk l
    ∙ ap₂ (λ (x y : ℕ). reduce kind (x + y)) (sym (tabulate_at (2 ^ n) lower j l)) (sym (tabulate_at (2 ^ n) upper j l))))
  where
    whole : ℕ → ℕ
    whole = coefficient kind (suc n) (b * 2 ^ n + k) e

    lower : ℕ → ℕ
    lower = coefficient kind n k (λ m. e (b * 2 ^ n + m))

    upper : ℕ → ℕ
    upper = coefficient kind n k (λ m. e (d * 2 ^ n + m))

reduce_bit : (kind : Kind) (x : ℕ) → x < 2 → reduce kind x ≡ x
reduce_bit Rm x h = mod-eq_of_lt h
reduce_bit Mrm x h = refl

pub spectrum_one : (kind : Kind) (e : ℕ → ℕ) → e 0 < 2 → spectrum kind 0 0 e ≡ e 0 ∷ []
unfolding spectrum coefficient subset_sum sum_to inside tabulate
spectrum_one kind e h = ap (λ (x : ℕ). x ∷ []) (ap (reduce kind) (zero-add (e 0)) ∙ reduce_bit kind (e 0) h)
