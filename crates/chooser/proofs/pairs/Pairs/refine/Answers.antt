-- `chooser::pairs::Pairs::refine` meets its contract: the rows passed are paired with those that have their number.
use Rattle.chooser.proofs.Refinement.{refining_start, refining_row, refining_within, refining_falls, refining_next, refining_end, refining_sound}
use Rattle.chooser.proofs.pairs.Pairs.refine.Goals as goal

pub loop-left-init : goal.loop-left-init
loop-left-init c =
    let listed = rw (← c.self.view_is) at c.rows-left.ensures in
    refining_start _ c.args.entry c.self.invariant listed c.rows-left.type_inv

pub cell-number-requires : goal.cell-number-requires
cell-number-requires c =
    let listed = rw (← c.self.view_is) at c.rows-left.ensures in
    let there = rw (← c.self.view_is) at c.requires.0 in
    (refining_row _ c.args.entry c.self.invariant listed c.loop-left.invariant there c.loop-left-test.true c.lowest.ensures, c.requires.1)

pub having-set-requires : goal.having-set-requires
having-set-requires c =
    let listed = rw (← c.self.view_is) at c.rows-left.ensures in
    let there = rw (← c.self.view_is) at c.requires.0 in
    (refining_within _ c.args.entry c.self.invariant listed c.loop-left.invariant there, c.requires.1)

pub narrow-requires : goal.narrow-requires
narrow-requires c = c.loop-left.invariant.size

pub loop-left-smaller : goal.loop-left-smaller
loop-left-smaller c =
    let listed = rw (← c.self.view_is) at c.rows-left.ensures in
    refining_falls _ c.args.entry c.self.invariant listed c.loop-left.invariant c.cell-number.result c.having-set.type_inv c.having-set.ensures
    c.loop-left-test.true c.lowest.ensures c.cell-number.ensures

pub loop-left-preserved : goal.loop-left-preserved
loop-left-preserved c =
    let listed = rw (← c.self.view_is) at c.rows-left.ensures in
    refining_next _ c.args.entry c.self.invariant listed c.loop-left.invariant c.cell-number.result c.having-set.type_inv c.having-set.ensures c.narrow.ensures

pub invariant_of-self : goal.invariant_of-self
invariant_of-self c =
    let listed = rw (← c.self.view_is) at c.rows-left.ensures in
    refining_sound _ c.args.entry c.self.invariant listed c.loop-left.invariant c.loop-left-test.false

pub returns : goal.returns
returns c =
    let listed = rw (← c.self.view_is) at c.rows-left.ensures in
    rw (← c.self.view_is) (refining_end _ c.args.entry c.self.invariant listed c.loop-left.invariant c.loop-left-test.false)
