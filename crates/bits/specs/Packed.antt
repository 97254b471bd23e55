-- Believed: packed tables (document 01, "Tables").
--
--   tabulate N f   the N entries of a table, from entry 0 on
--   packed N f     the table's bytes
--   entry s m      entry m of packed bytes
use Rattle.std.specs.Prelude.{ℕ, zero, suc, ◌-◌, ◌/◌, ◌%◌, ◌^◌, List, [], ◌∷◌, ◌++◌, get_or}
use Rattle.bits.specs.Bits.{bytes_of}

unfoldable pub tabulate : ℕ → (ℕ → ℕ) → List ℕ
tabulate zero f = []
tabulate (suc n) f = tabulate n f ++ (f n ∷ [])

-- "A packed table has N entries .. it has (N+7) div 8 bytes, spare bits 0"
unfoldable pub packed : ℕ → (ℕ → ℕ) → List ℕ
packed n f = bytes_of (tabulate n f)

-- "entry m in byte m div 8 at bit 7 − (m mod 8), bit 7 the highest"
unfoldable pub entry : List ℕ → ℕ → ℕ
entry s m = get_or s (m / 8) 0 / 2 ^ (7 - m % 8) % 2
