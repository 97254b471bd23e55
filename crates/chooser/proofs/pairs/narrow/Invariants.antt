-- `chooser::pairs::narrow` meets its contract: the rows passed are narrowed.
use Rattle.chooser.proofs.Refinement.{Narrowing}
use Rattle.chooser.proofs.pairs.narrow.Given as goal

abbrev pub invariant-loop-c : goal.invariant-loop-c
invariant-loop-c l = Narrowing l.set l.initial.pairs l.pairs l.c-iterator
