-- `chooser::pairs::Pairs::refine` meets its contract: the rows passed are paired with those that have their number.
use Rattle.chooser.specs.Pairing.{numbers}
use Rattle.chooser.proofs.Refinement.{Refining}
use Rattle.chooser.proofs.pairs.Pairs.refine.Given as goal

abbrev pub invariant-loop-left : goal.invariant-loop-left
invariant-loop-left l = Refining (numbers l.matrix) l.entry l.initial.self-inside.partners l.initial.left l.self-inside.partners l.left

abbrev pub decreases-loop-left : goal.decreases-loop-left
decreases-loop-left l = l.left
