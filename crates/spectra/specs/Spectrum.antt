-- Believed: Reed-Muller (RM) and modified Reed-Muller (MRM) spectra (document 01, "Spectra"). A table is a function from entry number to entry.
--
--   inside t j             the set bits of t are all set in j
--   sum_to n f             f 0 + f 1 + .. + f (n − 1)
--   coefficient            coefficient j of a table of n inputs in polarity k, of either kind
--   spectrum               all of them, from index 0 on
--   recovered              entry m of the table whose RM coefficients in polarity k are given modulo 2
use Rattle.std.specs.Prelude.{ℕ, zero, suc, ◌+◌, ◌%◌, ◌^◌, Bool, cond, List, eqb}
use Rattle.std.specs.Int.Bits.{bit_and, bit_xor}
use Rattle.bits.specs.Packed.{tabulate}
use Rattle.spectra.specs.declared.Kind.{Kind}
use Rattle.spectra.specs.declared.Kind.TheVariants.{Rm, Mrm}

unfoldable pub inside : ℕ → ℕ → Bool
inside t j = eqb (bit_and t j) t

unfoldable pub sum_to : ℕ → (ℕ → ℕ) → ℕ
sum_to zero f = 0
sum_to (suc n) f = sum_to n f + f n

-- "the sum of entries (t xor k) over all t whose set bits are all set in j", with N = 2 to the power n
unfoldable pub subset_sum : ℕ → ℕ → (ℕ → ℕ) → ℕ → ℕ
subset_sum n k table j = sum_to (2 ^ n) (λ t. cond (inside t j) (table (bit_xor t k)) 0)

-- "The Reed-Muller (RM) coefficient is that sum modulo 2."
abbrev pub reduce : Kind → ℕ → ℕ
reduce Rm v = v % 2
reduce Mrm v = v

unfoldable pub coefficient : Kind → ℕ → ℕ → (ℕ → ℕ) → ℕ → ℕ
coefficient kind n k table j = reduce kind (subset_sum n k table j)

unfoldable pub spectrum : Kind → ℕ → ℕ → (ℕ → ℕ) → List ℕ
spectrum kind n k table = tabulate (2 ^ n) (coefficient kind n k table)

-- modulo 2 the RM transform undoes itself: entry (t xor k) is the sum modulo 2 of the coefficients at all j inside t
unfoldable pub recovered : ℕ → ℕ → (ℕ → ℕ) → ℕ → ℕ
recovered n k numbers m = coefficient Rm n 0 (λ j. numbers j % 2) (bit_xor m k)
