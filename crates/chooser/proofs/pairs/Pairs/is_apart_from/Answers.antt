-- `chooser::pairs::Pairs::is_apart_from` meets its contract: what the first rows have in both is joined.
use Rattle.chooser.specs.Matrix.{max_rows}
use Rattle.chooser.proofs.SetRows.{union_start, union_next, common_word, union_apart}
use Rattle.chooser.proofs.pairs.Pairs.is_apart_from.Goals as goal

pub loop-c-init : goal.loop-c-init
loop-c-init c = union_start _

pub loop-c-preserved : goal.loop-c-preserved
unfolding max_rows
loop-c-preserved c = union_next _ c.loop-c.c c.loop-c.invariant c.loop-c-test.true (common_word c.self.invariant c.others.invariant c.loop-c.c)

pub returns : goal.returns
unfolding max_rows
returns c = rw (← c.self.view_is, ← c.others.view_is) (union_apart c.self.invariant c.others.invariant c.loop-c.invariant c.loop-c-test.false)
