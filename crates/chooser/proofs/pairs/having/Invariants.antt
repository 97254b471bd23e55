-- `chooser::pairs::having` meets its contract: the rows passed that have the number are gathered.
use Rattle.std.proofs.Common.{eqb}
use Rattle.chooser.specs.Pairing.{numbers}
use Rattle.chooser.proofs.Refinement.{Gathering}
use Rattle.chooser.proofs.pairs.having.Given as goal

abbrev pub invariant-loop-c : goal.invariant-loop-c
invariant-loop-c l = Gathering (λ k. eqb (numbers l.matrix k l.entry) l.number) l.rows l.set l.c-iterator
