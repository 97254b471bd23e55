-- `chooser::pairs::pair_others` meets its contract: the first rows are paired with those of other marks.
use Rattle.chooser.proofs.Marks.{Coupling}
use Rattle.chooser.proofs.pairs.pair_others.Given as goal

abbrev pub invariant-loop-c : goal.invariant-loop-c
invariant-loop-c l = Coupling l.rows l.marks l.pairs l.c
