-- Believed: lists one after the other.
--
--   block   lists 0 to c − 1
use Rattle.std.specs.Prelude.{ℕ, zero, suc, List, [], ◌++◌}

unfoldable pub block : ℕ → (ℕ → List ℕ) → List ℕ
block zero list = []
block (suc c) list = block c list ++ list c
