-- `chooser::pairs::by_mark` meets its contract: the first rows are in the sets of their marks.
use Rattle.chooser.proofs.Marks.{marking_start, marking_next, marking_end}
use Rattle.chooser.proofs.pairs.by_mark.Goals as goal

pub loop-c-init : goal.loop-c-init
loop-c-init c = marking_start c.args.rows c.args.marks.now _ c.requires.2

pub loop-c-preserved : goal.loop-c-preserved
loop-c-preserved c = marking_next c.loop-c.invariant c.requires.0 c.loop-c-test.true (c.type_inv.marks c.loop-c.c).fits c.joined.ensures c.joined-all.ensures

pub returns : goal.returns
returns c = marking_end c.loop-c.invariant c.loop-c-test.false
