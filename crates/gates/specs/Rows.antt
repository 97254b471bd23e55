-- Kept by the code: the tests by which the gate step, and bytes that alternate, make sure of their places.
--
--   step_fits        a table of so many bytes at a place ends within a size, and two others end before it
--   alternate_fits   so many bytes from a place on end within a size, and a byte has the bit
use Rattle.std.specs.Prelude.{ℕ, Bool, ◌&&◌, ltb}
use Rattle.bits.specs.Slices.{has_room}

abbrev pub step_fits : ℕ → ℕ → ℕ → ℕ → ℕ → Bool
step_fits x y to count size = has_room size to count && (has_room to x count && has_room to y count)

abbrev pub alternate_fits : ℕ → ℕ → ℕ → ℕ → Bool
alternate_fits to count bit size = has_room size to count && ltb bit 8
