-- `chooser::pairs::narrow` meets its contract: the rows passed are narrowed.
use Rattle.std.proofs.Common.{◌∙◌}
use Rattle.chooser.proofs.Refinement.{narrowing_start, narrowing_next, narrowing_end}
use Rattle.chooser.proofs.pairs.narrow.Goals as goal

pub loop-c-init : goal.loop-c-init
loop-c-init c = narrowing_start c.args.pairs.now c.ranges.set.fits c.requires (c.into_iter-c-iterator.ensures.into_iter_gives ∙ c.members_of-c-items.ensures)

pub loop-c-preserved : goal.loop-c-preserved
loop-c-preserved c = narrowing_next c.loop-c.invariant c.in-Some.ensures.steps

pub returns : goal.returns
returns c = narrowing_end c.loop-c.invariant c.in-None.ensures.steps
