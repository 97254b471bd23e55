-- `chooser::pairs::by_mark` meets its contract: the first rows are in the sets of their marks.
use Rattle.chooser.proofs.Marks.{Marking}
use Rattle.chooser.proofs.pairs.by_mark.Given as goal

abbrev pub invariant-loop-c : goal.invariant-loop-c
invariant-loop-c l = Marking l.rows l.marks l.of l.all l.c
