-- `chooser::pairs::Pairs::is_clear` meets its contract: the rows passed have the numbers of their lowest partners.
use Rattle.std.proofs.Common.{◌∙◌, sym}
use Rattle.chooser.proofs.Clearness.{clearing_all, clearing_row, clearing_next, clearing_none, clearing_stop, partner_there}
use Rattle.chooser.proofs.Soundness.{listed_within}
use Rattle.chooser.proofs.pairs.Pairs.is_clear.Goals as goal

pub loop-c-init : goal.loop-c-init
loop-c-init c = clearing_all _ _ c.ranges.rows.fits (c.into_iter-c-iterator.ensures.into_iter_gives ∙ c.members_of-c-items.ensures)

pub cell-requires : goal.cell-requires
cell-requires c =
    let there = rw (← c.self.view_is) at c.requires.0 in
    let listed = rw (← c.self.view_is) at c.requires.1 in
    ((listed_within c.self.invariant listed there).each c.in-Some.c (clearing_row c.loop-c.invariant c.in-Some.ensures.steps), c.requires.2)

pub cell-requires-in-loop-c : goal.cell-requires-in-loop-c
cell-requires-in-loop-c c =
    let there = rw (← c.self.view_is) at c.requires.0 in
    let listed = rw (← c.self.view_is) at c.requires.1 in
    (partner_there c.self.invariant listed c.in-Some.c there (clearing_row c.loop-c.invariant c.in-Some.ensures.steps) c.lowest-k.ensures, c.requires.2)

pub returns-then-cell : goal.returns-then-cell
returns-then-cell c =
    let listed = rw (← c.self.view_is) at c.requires.1 in
    rw (← c.self.view_is)
    (clearing_stop _ c.args.entry c.self.invariant listed c.in-Some.c (clearing_row c.loop-c.invariant c.in-Some.ensures.steps) c.lowest-k.ensures
    (λ e. c.if-cell.true (c.cell.ensures ∙ e ∙ sym c.cell-in-loop-c.ensures)))

pub loop-c-preserved : goal.loop-c-preserved
loop-c-preserved c =
    clearing_next c.loop-c.invariant c.in-Some.ensures.steps c.lowest-k.ensures (sym c.cell.ensures ∙ c.if-cell.false ∙ c.cell-in-loop-c.ensures)

pub returns : goal.returns
returns c =
    let listed = rw (← c.self.view_is) at c.requires.1 in
    rw (← c.self.view_is) (clearing_none _ c.args.entry c.self.invariant listed c.loop-c.invariant c.in-None.ensures.steps)
