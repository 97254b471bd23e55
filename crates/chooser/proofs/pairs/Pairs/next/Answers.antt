-- `chooser::pairs::Pairs::next` meets its contract: where no row is in a pair, no entry tells one apart.
use Rattle.std.proofs.Common.{ap, not}
use Rattle.chooser.proofs.Clearness.{clear_all}
use Rattle.chooser.proofs.Recursion.{none_found}
use Rattle.chooser.proofs.pairs.Pairs.next.Goals as goal

pub returns-then-rows-eq0 : goal.returns-then-rows-eq0
returns-then-rows-eq0 c = none_found _ c.args.scan.now (λ k h. ap not (clear_all _ c.rows-rows.ensures c.if-rows-eq0.true _))
