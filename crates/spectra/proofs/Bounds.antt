-- How large coefficients are, and what a spectrum depends on.
--
--   coefficient_le     a coefficient of a table of n inputs is at most 2 ^ n
--   length_spectrum    a spectrum has 2 ^ n numbers
--   spectrum_at        number j of a spectrum is coefficient j
--   subset_ext         a subset sum depends on the entries below 2 ^ n alone
--   coefficient_ext    so does a coefficient
--   spectrum_ext       and so does a spectrum
use Prim.Native.Nat.{ℕ, ◌^◌, ◌≤◌, ◌<◌}
use native.Mathlib.Omega.{arith}
use mathlib.Core.Path.{◌≡◌, ap}
use mathlib.Core.Bool.{Bool, true, false, cond}
use lib.Bits.{bit_xor, xor_lt}
use lib.ListN.{length, get_or}
use Rattle.bits.proofs.Packed.{Table, length_tabulate, tabulate_at, tabulate_ext}
use Rattle.spectra.specs.Spectrum.{inside, subset_sum, reduce, coefficient, spectrum}
use Rattle.spectra.specs.declared.Kind.{Kind}
use Rattle.spectra.specs.declared.Kind.TheVariants.{Rm, Mrm}
use Rattle.spectra.proofs.Sums.{sum_to_ext, sum_to_le, term}

term_le : (u : Bool) (x : ℕ) → x < 2 → cond u x 0 ≤ 1
term_le true x h = omega arith
term_le false x h = omega arith

reduce_le : (kind : Kind) (x : ℕ) → reduce kind x ≤ x
reduce_le Rm x = omega arith
reduce_le Mrm x = omega arith

pub coefficient_le : (kind : Kind) (n k : ℕ) (e : ℕ → ℕ) (j : ℕ) → Table (2 ^ n) e → k < 2 ^ n → coefficient kind n k e j ≤ 2 ^ n
unfolding coefficient subset_sum
coefficient_le kind n k e j h hk =
    let l : subset_sum n k e j ≤ 2 ^ n =
    sum_to_le (2 ^ n) (term k e j)
    (λ t ht. term_le (inside t j) (e (bit_xor t k)) (h (bit_xor t k) (xor_lt n t k ht hk))) in
    let r = reduce_le kind (subset_sum n k e j) in omega arith

pub length_spectrum : (kind : Kind) (n k : ℕ) (e : ℕ → ℕ) → length (spectrum kind n k e) ≡ 2 ^ n
unfolding spectrum
length_spectrum kind n k e = length_tabulate (2 ^ n) (coefficient kind n k e)

pub spectrum_at : (kind : Kind) (n k : ℕ) (e : ℕ → ℕ) (j : ℕ) → j < 2 ^ n → get_or (spectrum kind n k e) j 0 ≡ coefficient kind n k e j
unfolding spectrum
spectrum_at kind n k e j h = tabulate_at (2 ^ n) (coefficient kind n k e) j h

pub subset_ext : (n k : ℕ) (e f : ℕ → ℕ) (j : ℕ) → k < 2 ^ n → ((m : ℕ) → m < 2 ^ n → e m ≡ f m) → subset_sum n k e j ≡ subset_sum n k f j
unfolding subset_sum
subset_ext n k e f j hk same =
    sum_to_ext (2 ^ n) (term k e j) (term k f j)
    (λ t h. ap (λ (x : ℕ). cond (inside t j) x 0) (same (bit_xor t k) (xor_lt n t k h hk)))

pub coefficient_ext : (kind : Kind) (n k : ℕ) (e f : ℕ → ℕ) (j : ℕ) → k < 2 ^ n → ((m : ℕ) → m < 2 ^ n → e m ≡ f m)
    → coefficient kind n k e j ≡ coefficient kind n k f j
unfolding coefficient
coefficient_ext kind n k e f j hk same = ap (reduce kind) (subset_ext n k e f j hk same)

pub spectrum_ext : (kind : Kind) (n k : ℕ) (e f : ℕ → ℕ) → k < 2 ^ n → ((m : ℕ) → m < 2 ^ n → e m ≡ f m)
    → spectrum kind n k e ≡ spectrum kind n k f
unfolding spectrum
spectrum_ext kind n k e f hk same =
    tabulate_ext (2 ^ n) (coefficient kind n k e) (coefficient kind n k f) (λ j h. coefficient_ext kind n k e f j hk same)
