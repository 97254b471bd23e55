-- `chooser::pairs::Pairs::rows` meets its contract: the sets of the first rows are joined.
use Rattle.chooser.specs.Matrix.{max_rows}
use Rattle.chooser.proofs.SetRows.{union_start, union_next, union_listed}
use Rattle.chooser.proofs.pairs.Pairs.rows.Goals as goal

pub loop-partners-init : goal.loop-partners-init
loop-partners-init c = union_start _

pub loop-partners-preserved : goal.loop-partners-preserved
unfolding max_rows
loop-partners-preserved c =
    union_next _ c.loop-partners.partners-index c.loop-partners.invariant c.loop-partners-test.true (c.self.invariant.word c.loop-partners.partners-index)

pub returns : goal.returns
unfolding max_rows
returns c = rw (← c.self.view_is) (union_listed c.self.invariant c.loop-partners.invariant c.loop-partners-test.false)
