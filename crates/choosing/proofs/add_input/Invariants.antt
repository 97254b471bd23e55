-- `choosing::add_input` meets its contract.
use Rattle.choosing.proofs.Order.{Summing}
use Rattle.choosing.proofs.add_input.Given as goal

abbrev pub invariant-loop-order : goal.invariant-loop-order
invariant-loop-order l = Summing l.initial.firsts l.order l.firsts
