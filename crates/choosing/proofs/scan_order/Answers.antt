-- `choosing::scan_order` meets its contract.
use native.Mathlib.Omega.{arith}
use Rattle.job.specs.Layout.{max_inputs}
use Rattle.choosing.specs.Looking.{max_places}
use Rattle.choosing.proofs.Order.{size_few, size_firsts, placed_listed}
use Rattle.choosing.proofs.scan_order.Goals as goal

pub put_indices-requires : goal.put_indices-requires
put_indices-requires c = (size_few c.requires c.table_size.ensures, size_firsts c.requires c.table_size.ensures c.first_places.result c.first_places.ensures)

pub returns : goal.returns
unfolding max_places max_inputs
returns c = placed_listed c.requires c.table_size.ensures (omega arith) c.put_indices.ensures
