-- `chooser::pairs::having` meets its contract: the rows passed that have the number are gathered.
use Rattle.std.proofs.Common.{◌∙◌, sym}
use borrow.Author.Tests.{eq-eqb, ne_eqb}
use Rattle.chooser.proofs.Refinement.{gathering_start, gathering_row, gathering_in, gathering_out, gathering_end}
use Rattle.chooser.proofs.pairs.having.Goals as goal

pub loop-c-init : goal.loop-c-init
loop-c-init c = gathering_start _ c.ranges.rows.fits (c.into_iter-c-iterator.ensures.into_iter_gives ∙ c.members_of-c-items.ensures)

pub cell-requires : goal.cell-requires
cell-requires c = (c.requires.0.each c.in-Some.c (gathering_row c.loop-c.invariant c.in-Some.ensures.steps), c.requires.1)

pub loop-c-preserved-then-cell-number : goal.loop-c-preserved-then-cell-number
loop-c-preserved-then-cell-number c =
    rw c.joined-set.ensures
    (gathering_in c.loop-c.invariant c.in-Some.ensures.steps (eq-eqb _ c.args.number (sym c.cell.ensures ∙ c.if-cell-number.true)))

pub loop-c-preserved : goal.loop-c-preserved
loop-c-preserved c =
    gathering_out c.loop-c.invariant c.in-Some.ensures.steps (ne_eqb _ c.args.number (λ e. c.if-cell-number.false (c.cell.ensures ∙ e)))

pub returns : goal.returns
returns c = gathering_end c.loop-c.invariant c.in-None.ensures.steps
