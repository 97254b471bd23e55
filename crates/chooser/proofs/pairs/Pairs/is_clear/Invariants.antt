-- `chooser::pairs::Pairs::is_clear` meets its contract: the rows passed have the numbers of their lowest partners.
use Rattle.chooser.specs.Pairing.{numbers}
use Rattle.chooser.proofs.Clearness.{Clearing}
use Rattle.chooser.proofs.pairs.Pairs.is_clear.Given as goal

abbrev pub invariant-loop-c : goal.invariant-loop-c
invariant-loop-c l = Clearing (λ k. numbers l.matrix k l.entry) l.self-inside.partners l.rows l.c-iterator
