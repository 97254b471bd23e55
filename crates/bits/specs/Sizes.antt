-- Believed: the sizes of a table (document 01, "Tables").
--
--   table_bytes      the bytes of a packed table of n inputs
--   table_size_of    the entries of a table of n inputs, if a word holds their number
--   table_bytes_of   the bytes of a packed table of so many entries
use Rattle.std.specs.Prelude.{ℕ, ◌+◌, ◌/◌, ◌^◌, cond, ltb}

-- "(N+7) div 8 bytes", with N = 2 to the power n
abbrev pub table_bytes : ℕ → ℕ
table_bytes n = (2 ^ n + 7) / 8

-- 2 to the power n where a word of 64 bits holds it, else 0
unfoldable pub table_size_of : ℕ → ℕ
table_size_of n = cond (ltb n 64) (2 ^ n) 0

-- as above, for so many entries: 0 where there are none
abbrev pub table_bytes_of : ℕ → ℕ
table_bytes_of n = (table_size_of n + 7) / 8
