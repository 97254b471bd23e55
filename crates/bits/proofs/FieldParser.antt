-- The parser of a field (specs/Parser.antt).
--
--   field_room   where there are bits enough, their number is taken
use Prim.Native.Nat.{ℕ, ◌≤◌}
use mathlib.Core.Path.{◌≡◌}
use mathlib.Core.List.{List}
use borrow.Author.Tests.{le-leb}
use lib.ListN.{length, take, drop}
use Rattle.bits.specs.Bits.{value_of}
use Rattle.bits.specs.Parser.{parsed, field}
use Rattle.bits.proofs.Answers.{unless_true}

pub field_room : (w : ℕ) (bits : List ℕ) → w ≤ length bits → field w bits ≡ parsed (value_of (take w bits)) (drop w bits)
unfolding field
field_room w bits h = unless_true 1 (parsed (value_of (take w bits)) (drop w bits)) (le-leb w (length bits) h)
