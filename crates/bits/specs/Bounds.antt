-- Believed: tests of numbers below a bound.
--
--   each_below   a test holds of every number below a bound
--   all_below    every number of a list is below a bound
use Rattle.std.specs.Prelude.{ℕ, zero, suc, Bool, true, ◌&&◌, List, [], ◌∷◌, ltb}

abbrev pub each_below : ℕ → (ℕ → Bool) → Bool
each_below zero test = true
each_below (suc n) test = each_below n test && test n

unfoldable pub all_below : ℕ → List ℕ → Bool
all_below bound [] = true
all_below bound (x ∷ l) = ltb x bound && all_below bound l
