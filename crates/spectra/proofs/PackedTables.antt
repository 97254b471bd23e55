-- Packed tables are tables, and so those of a job's circuits are: they have their length, and spare bits 0.
--
--   packed_whole  a packed table passes the test of a table
--   table_whole   a circuit's table at an output passes the test of a table
--   rows_whole    rows of which each does pass that of rows
use Prim.Native.Nat.{ℕ, zero, suc, ◌+◌, ◌*◌, ◌-◌, ◌^◌, ◌≤◌, ◌<◌}
use native.Mathlib.Omega.{arith}
use mathlib.Core.Path.{◌≡◌, refl, ◌∙◌}
use mathlib.Core.Bool.{true}
use mathlib.Core.List.{List}
use borrow.Author.Tests.{eq-eqb}
use lib.ListN.{length}
use Rattle.bits.specs.Packed.{entry, packed}
use Rattle.bits.proofs.Packed.{Table, length_packed, packed_all, tabulate_past}
use Rattle.bits.proofs.Tests.{and_i}
use Rattle.job.specs.Check.{Valid}
use Rattle.job.specs.declared.Job.{Job}
use Rattle.bits.specs.Sizes.{table_bytes}
use Rattle.tables.specs.Circuit.{circuit_entry, circuit_table}
use Rattle.spectra.specs.Operations.{zero_from, table_ok, table_row, rows_ok}
use Rattle.tables.proofs.Families.{entry_bit}

zero_from_lem : (w m : ℕ) (s : List ℕ) → ((i : ℕ) → m ≤ i → i < m + w → entry s i ≡ 0) → zero_from w m s ≡ true
unfolding zero_from
zero_from_lem zero m s h = refl
zero_from_lem (suc w) m s h =
    and_i (eq-eqb (entry s m) 0 (h m (omega arith) (omega arith))) (zero_from_lem w (suc m) s (λ i a b. h i (omega arith) (omega arith)))

pub packed_whole : (n : ℕ) (f : ℕ → ℕ) → Table (2 ^ n) f → table_ok n (packed (2 ^ n) f) ≡ true
unfolding table_ok
packed_whole n f bits =
    and_i (eq-eqb (length (packed (2 ^ n) f)) (table_bytes n) (length_packed (2 ^ n) f))
    (zero_from_lem (table_bytes n * 8 - 2 ^ n) (2 ^ n) (packed (2 ^ n) f)
    (λ i a b. packed_all (2 ^ n) f bits i (omega arith) ∙ tabulate_past (2 ^ n) f i a))

pub table_whole : (j : Job) (c o : ℕ) → Valid j → o < j.output_count → table_ok j.inputs (circuit_table j c o) ≡ true
unfolding circuit_table
table_whole j c o v h = packed_whole j.inputs (circuit_entry j c o) (λ m _. entry_bit j c o m v h)

pub rows_whole : (n : ℕ) (s : List ℕ) (rows : ℕ) → ((r : ℕ) → r < rows → table_ok n (table_row n s r) ≡ true) → rows_ok n s rows ≡ true
unfolding rows_ok
rows_whole n s zero whole = refl
rows_whole n s (suc r) whole = and_i (rows_whole n s r (λ i h. whole i (omega arith))) (whole r (omega arith))
