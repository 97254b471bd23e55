-- Numbers that pass a test, counted (specs/Passing.antt).
--
--   at_most   at most one is counted for each number
use Prim.Native.Nat.{◌≤◌}
use native.Mathlib.Omega.{arith}
use mathlib.Core.Bool.{Bool, true, false, cond}

pub at_most : (t : Bool) → cond t 1 0 ≤ 1
at_most true = omega arith
at_most false = omega arith
