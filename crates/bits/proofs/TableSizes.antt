-- Laws of a table's sizes as the code works them out (specs/Sizes.antt).
--
--   table_size_none         past the bits of a word there are no entries
--   table_size_some         within them a shift gives their number
--   table_size_exact        which is 2 to the power n
--   table_bytes_exact   and gives the bytes of a table
--   table_size_fit          the number of entries leaves room for what rounding adds
--   fifteen_few             fifteen inputs are fewer than the bits of a word
use Prim.Native.Nat.{ℕ, ◌+◌, ◌*◌, ◌/◌, ◌%◌, ◌^◌, ◌≤◌, ◌<◌}
use native.Mathlib.Nat.{lt_of_le_of_lt}
use native.Mathlib.Omega.{arith}
use mathlib.Core.Path.{◌≡◌, sym, ap, ◌∙◌}
use mathlib.Core.Bool.{Bool, cond}
use mathlib.Core.Logic.{⊎_elim}
use borrow.Author.Tests.{lt-ltb, le-ltb}
use lib.Dec.{lit<}
use lib.Pow.{pow_mono}
use mir.Syntax.{w64}
use mir.Val.{Fits}
use Rattle.bits.proofs.Below.{lt_or_ge}
use Rattle.bits.proofs.Fields.{shift_exact}
use Rattle.bits.specs.Sizes.{table_size_of, table_bytes, table_bytes_of}

pub table_size_none : {n : ℕ} → 64 ≤ n → 0 ≡ table_size_of n
unfolding table_size_of
table_size_none {n} h = ap (λ (t : Bool). cond t (2 ^ n) 0) (sym (le-ltb n 64 h))

-- what the definition gives within a word
within : {n : ℕ} → n < 64 → table_size_of n ≡ 2 ^ n
unfolding table_size_of
within {n} h = ap (λ (t : Bool). cond t (2 ^ n) 0) (lt-ltb n 64 h)

pub table_size_some : {n : ℕ} → n < 64 → 1 * 2 ^ n % 2 ^ 64 ≡ table_size_of n
table_size_some {n} h = shift_exact n h ∙ sym (within h)

pub table_size_exact : {n r : ℕ} → n < 64 → r ≡ table_size_of n → r ≡ 2 ^ n
table_size_exact h e = e ∙ within h

pub table_bytes_exact : {n r : ℕ} → n < 64 → r ≡ table_bytes_of n → r ≡ table_bytes n
table_bytes_exact h e = e ∙ ap (λ (x : ℕ). (x + 7) / 8) (within h)

pub table_size_fit : (n : ℕ) {r : ℕ} → r ≡ table_size_of n → Fits w64 (r + 7)
table_size_fit n e =
    ⊎_elim (λ h. let p : 2 ^ n ≤ 2 ^ 63 = pow_mono {j = 63} (omega arith) in omega (arith, table_size_exact h e)) (λ h. omega (arith, table_size_none h))
    (lt_or_ge n 64)

pub fifteen_few : {n : ℕ} → n ≤ 15 → n < 64
fifteen_few h = lt_of_le_of_lt h (lit< tt)
