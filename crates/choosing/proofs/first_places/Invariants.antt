-- `choosing::first_places` meets its contract.
use Rattle.choosing.proofs.Order.{Starting}
use Rattle.choosing.proofs.first_places.Given as goal

abbrev pub invariant-loop : goal.invariant-loop
invariant-loop l = Starting l.counter l.firsts
