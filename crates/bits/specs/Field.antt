-- Kept by the code: a field of a string of bits, as it is found at a place.
use Rattle.std.specs.Prelude.{ℕ, ◌+◌, ◌*◌, ◌^◌, List, Option, Some, None, Bool, ◌&&◌, cond, length, get_or, take, drop, leb, ltb, eqb}
use Rattle.bits.specs.Bits.{string_of, value_of}
use Rattle.bits.specs.declared.Cursor.{Cursor}

-- the string from a place on
unfoldable pub from : List ℕ → Cursor → List ℕ
from s c = drop c.bit (string_of s)

-- the place so many bits further on
abbrev pub past : Cursor → ℕ → Cursor
past c w = record { bit = c.bit + w }

-- no field of the layout is wider than a byte; from any bit of a byte on, two bytes hold it
abbrev pub max_width : ℕ
max_width = 8

abbrev pub is_width : ℕ → Bool
is_width w = leb 1 w && leb w max_width

-- nothing is read from a later place on, so that the place behind a field is always a number
abbrev pub max_place : ℕ
max_place = 2 ^ 62

unfoldable pub field_at : List ℕ → Cursor → ℕ → Option (ℕ × Cursor)
field_at s c w = cond (is_width w && leb c.bit max_place && leb w (length (from s c))) (Some (value_of (take w (from s c)), past c w)) None

-- "then zero bits up to a whole byte, and nothing after": less than a byte is left, and no bit of it is 1
unfoldable pub spare_only : List ℕ → Bool
spare_only bits = ltb (length bits) 8 && eqb (value_of bits) 0

-- the number that two bytes from byte i on make; those past the end are 0
unfoldable pub window_at : List ℕ → ℕ → ℕ
window_at s i = get_or s i 0 * 256 + get_or s (i + 1) 0
