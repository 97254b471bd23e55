-- Believed: slices of a list, and the tests by which an operation on them makes sure of its places.
--
--   slice       so many numbers from a place on
--   splice      a list with new numbers from a place on
--   has_room    so many places from one on end within a size
--   copy_fits   so many places from one on end within a size, and so do those that they are copied from
use Rattle.std.specs.Prelude.{ℕ, ◌+◌, Bool, ◌&&◌, List, ◌++◌, leb, length, take, drop}

abbrev pub slice : ℕ → ℕ → List ℕ → List ℕ
slice at count l = take count (drop at l)

abbrev pub splice : List ℕ → ℕ → List ℕ → List ℕ
splice l at new = take at l ++ new ++ drop (at + length new) l

abbrev pub has_room : ℕ → ℕ → ℕ → Bool
has_room size at count = leb (at + count) size

abbrev pub copy_fits : ℕ → ℕ → ℕ → ℕ → ℕ → Bool
copy_fits to at count size source = has_room size to count && has_room source at count
