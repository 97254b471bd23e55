-- Laws of the tests by which the gate step, and bytes that alternate, make sure of their places (specs/Rows.antt).
--
--   step_fits_lem   the gate step's passes where the table ends within the rows, and two others before it
--   bit_inside      that of bytes that alternate passes where they end within the rows and a byte has the bit
use Prim.Native.Nat.{ℕ, ◌+◌, ◌≤◌, ◌<◌}
use mathlib.Core.Path.{◌≡◌}
use mathlib.Core.Bool.{true}
use borrow.Author.Tests.{lt-ltb}
use Rattle.bits.specs.Slices.{has_room}
use Rattle.bits.proofs.Room.{and_then_lem, room_fits}
use Rattle.gates.specs.Rows.{step_fits, alternate_fits}

pub step_fits_lem : (x y to count size : ℕ) → to + count ≤ size → x + count ≤ to → y + count ≤ to → step_fits x y to count size ≡ true
step_fits_lem x y to count size l h k = and_then_lem (room_fits size to count l) (and_then_lem (room_fits to x count h) (room_fits to y count k))

pub bit_inside : (to count bit size : ℕ) → has_room size to count ≡ true → bit < 8 → alternate_fits to count bit size ≡ true
bit_inside to count bit size room h = and_then_lem room (lt-ltb bit 8 h)
