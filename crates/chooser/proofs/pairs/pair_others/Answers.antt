-- `chooser::pairs::pair_others` meets its contract: the first rows are paired with those of other marks.
use Rattle.chooser.proofs.Marks.{coupling_start, coupling_next, coupling_end}
use Rattle.chooser.proofs.pairs.pair_others.Goals as goal

pub loop-c-init : goal.loop-c-init
loop-c-init c = coupling_start c.args.rows c.args.marks.now _ c.requires.4

pub loop-c-preserved : goal.loop-c-preserved
loop-c-preserved c = coupling_next c.loop-c.invariant c.requires.0 c.loop-c-test.true c.requires.2 c.requires.3 (c.type_inv.marks c.loop-c.c).fits c.ranges.all.fits

pub returns : goal.returns
returns c = coupling_end c.loop-c.invariant c.loop-c-test.false
