-- `chooser::pairs::Pairs::is_apart_from` meets its contract: what the first rows have in both is joined.
use Rattle.chooser.proofs.SetRows.{Union, common}
use Rattle.chooser.proofs.pairs.Pairs.is_apart_from.Given as goal

abbrev pub invariant-loop-c : goal.invariant-loop-c
invariant-loop-c l = Union (common l.self-inside.partners l.others-inside.partners) l.both l.c
