-- `choosing::put_indices` meets its contract.
use native.Mathlib.Omega.{arith}
use native.Mathlib.Nat.{lt_of_lt_of_le}
use Rattle.job.specs.Layout.{max_inputs}
use Rattle.choosing.specs.Looking.{max_places, max_orders}
use Rattle.choosing.proofs.Order.{order_within, index_fits, placing_none, placing_inside, placing_next}
use Rattle.choosing.proofs.put_indices.Goals as goal

pub loop-e-preserved : goal.loop-e-preserved
loop-e-preserved c = placing_next c.loop-e.invariant c.requires.0 c.loop-e-test.true

pub loop-e-init : goal.loop-e-init
unfolding max_places max_orders max_inputs
loop-e-init c = placing_none c.args.size _ _ (omega arith) (omega arith) c.requires.1

pub bounds-next-order : goal.bounds-next-order
unfolding max_orders max_inputs
bounds-next-order c = order_within c.loop-e.e (lt_of_lt_of_le c.loop-e-test.true c.requires.0)

pub overflow_cast-indices : goal.overflow_cast-indices
overflow_cast-indices c = index_fits c.loop-e.e (lt_of_lt_of_le c.loop-e-test.true c.requires.0)

pub offset_bounds-indices-place : goal.offset_bounds-indices-place
unfolding max_places max_inputs
offset_bounds-indices-place c = omega (arith, placing_inside c.loop-e.invariant c.requires.0 c.loop-e-test.true)

pub bounds-indices-place : goal.bounds-indices-place
unfolding max_places max_inputs
bounds-indices-place c = placing_inside c.loop-e.invariant c.requires.0 c.loop-e-test.true

pub overflow_add-next : goal.overflow_add-next
unfolding max_places max_inputs
overflow_add-next c = omega (arith, placing_inside c.loop-e.invariant c.requires.0 c.loop-e-test.true)

pub bounds-next-order-in-loop-e : goal.bounds-next-order-in-loop-e
unfolding max_orders max_inputs
bounds-next-order-in-loop-e c = order_within c.loop-e.e (lt_of_lt_of_le c.loop-e-test.true c.requires.0)
