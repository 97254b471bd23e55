-- `table_ok` meets its contract: each way out is one law on a table.
use native.Mathlib.Omega.{arith}
use mathlib.Core.Path.{◌≡◌}
use Rattle.bits.specs.Sizes.{table_bytes}
use Rattle.bits.proofs.TableSizes.{table_bytes_exact}
use Rattle.spectra.proofs.ValidInputs.{inputs_some, inputs_word}
use Rattle.spectra.proofs.TableTests.{bytes_some, table_length, table_one, table_two, table_full}
use Rattle.spectra.proofs.table_ok.Goals as goal
use Rattle.spectra.proofs.table_ok.Goals.{After-table_bytes}

sized : (c : After-table_bytes) → c.table_bytes.result ≡ table_bytes c.args.n
sized c = table_bytes_exact (inputs_word c.requires) c.table_bytes.ensures

pub returns-then-table-table_bytes : goal.returns-then-table-table_bytes
returns-then-table-table_bytes c = table_length c.args.n c.args.table.now (sized (goal.at.returns-then-table-table_bytes c).After-table_bytes) c.if-table-table_bytes.true

pub bounds-table-0 : goal.bounds-table-0
bounds-table-0 c = omega (arith, bytes_some c.args.n (sized (goal.at.bounds-table-0 c).After-table_bytes))

pub returns-in-1 : goal.returns-in-1
returns-in-1 c = table_one c.args.n c.args.table.now (sized (goal.at.returns-in-1 c).After-table_bytes) c.if-table-table_bytes.false c.in-1.is

pub bounds-table-0-in-2 : goal.bounds-table-0-in-2
bounds-table-0-in-2 c = omega (arith, bytes_some c.args.n (sized (goal.at.bounds-table-0-in-2 c).After-table_bytes))

pub returns-in-2 : goal.returns-in-2
returns-in-2 c = table_two c.args.n c.args.table.now (sized (goal.at.returns-in-2 c).After-table_bytes) c.if-table-table_bytes.false c.in-2.is

pub returns-in_default : goal.returns-in_default
returns-in_default c = table_full c.args.n c.args.table.now (sized (goal.at.returns-in_default c).After-table_bytes) c.if-table-table_bytes.false (omega (arith, inputs_some c.requires))
