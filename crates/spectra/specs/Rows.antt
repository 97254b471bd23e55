-- Kept by the code: the spectra of tables, row after row.
--
--   row_spectra   the spectra of the first rows
--   rows_filled   these at the start of memory, the rest as it was
--   rows_of       the spectra of counted circuits, from their tables
--   one_table     the counts of one table
--   max_rows      the most tables
use Rattle.std.specs.Prelude.{ℕ, ◌+◌, ◌*◌, ◌^◌, List, ◌++◌, drop}
use Rattle.bits.specs.Blocks.{block}
use Rattle.bits.specs.Packed.{entry}
use Rattle.bits.specs.Answer.{Answer, Fills}
use Rattle.job.specs.Layout.{max_outputs, max_faults}
use Rattle.tables.specs.Operations.{no_counts}
use Rattle.tables.specs.declared.Counts.{Counts}
use Rattle.spectra.specs.Operations.{table_row, from_tables, filled_from}
use Rattle.spectra.specs.Spectrum.{spectrum}
use Rattle.spectra.specs.declared.Kind.{Kind}

abbrev pub row_spectra : Kind → ℕ → ℕ → List ℕ → ℕ → List ℕ
row_spectra kind n k s rows = block rows (λ r. spectrum kind n k (entry (table_row n s r)))

abbrev pub rows_filled : Kind → ℕ → ℕ → List ℕ → ℕ → List ℕ → List ℕ
rows_filled kind n k s rows start = row_spectra kind n k s rows ++ drop (rows * 2 ^ n) start

abbrev pub rows_of : Counts → List ℕ → Kind → ℕ → ℕ → Answer (Fills (Unit {0}))
rows_of counts s kind k room = from_tables counts s (λ F. filled_from F kind k room)

-- one table is that of the good circuit at one output
abbrev pub one_table : ℕ → Counts
one_table n = record { inputs = n; gates = 0; outputs = 1; faults = 0; parts = no_counts.parts }

abbrev pub max_rows : ℕ
max_rows = (max_faults + 1) * max_outputs
