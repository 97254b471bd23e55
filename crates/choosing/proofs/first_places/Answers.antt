-- `choosing::first_places` meets its contract.
use native.Mathlib.Omega.{arith}
use Rattle.job.specs.Layout.{max_inputs}
use Rattle.choosing.specs.Looking.{max_orders}
use Rattle.choosing.proofs.Order.{starting_none, starting_few, starting_next}
use Rattle.choosing.proofs.first_places.Goals as goal

pub loop-init : goal.loop-init
unfolding max_orders max_inputs
loop-init c = starting_none

pub add_input-requires : goal.add_input-requires
add_input-requires c = starting_few c.loop.invariant (omega arith)

pub loop-preserved : goal.loop-preserved
loop-preserved c = starting_next c.loop.invariant c.add_input.ensures
