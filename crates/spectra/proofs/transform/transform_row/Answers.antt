-- `spectra::transform::transform_row` meets its contract: for RM the sums are reduced.
use Rattle.std.proofs.Common.{rules}
use Rattle.spectra.specs.Recursion.{entries_from}
use Rattle.spectra.proofs.Reduction.{row_parities}
use Rattle.spectra.proofs.transform.transform_row.Goals as goal

pub returns-then-eq : goal.returns-then-eq
returns-then-eq c = let a = c.args in row_parities a.n a.k (entries_from a.table.now 0) c.transform.ensures (search rules) c.parities.ensures
