-- `choosing::add_input` meets its contract.
use native.Mathlib.Omega.{arith}
use Rattle.job.specs.Layout.{max_inputs}
use Rattle.choosing.specs.Looking.{max_orders}
use Rattle.choosing.proofs.Order.{summing_none, summing_fits, summing_next, summing_all}
use Rattle.choosing.proofs.add_input.Goals as goal

pub loop-order-init : goal.loop-order-init
unfolding max_orders max_inputs
loop-order-init c = summing_none c.args.firsts.now (omega arith)

pub overflow_add-firsts : goal.overflow_add-firsts
overflow_add-firsts c = summing_fits c.loop-order.invariant c.loop-order-test.true c.requires

pub loop-order-preserved : goal.loop-order-preserved
loop-order-preserved c = summing_next c.loop-order.invariant c.loop-order-test.true

pub returns : goal.returns
returns c = summing_all c.loop-order.invariant c.loop-order-test.false
