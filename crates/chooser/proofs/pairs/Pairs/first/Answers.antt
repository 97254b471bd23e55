-- `chooser::pairs::Pairs::first` meets its contract.
use Rattle.std.proofs.Common.{arith}
use Rattle.bits.specs.Sets.{max_members}
use Rattle.bits.proofs.Membership.{low_below}
use Rattle.chooser.proofs.Conclusion.{first_none, first_some}
use Rattle.chooser.proofs.pairs.Pairs.first.Goals as goal

pub returns-then-rows-eq0 : goal.returns-then-rows-eq0
returns-then-rows-eq0 c = first_none c.rows-rows.ensures c.if-rows-eq0.true

pub offset_bounds-self-inside-a : goal.offset_bounds-self-inside-a
unfolding max_members
offset_bounds-self-inside-a c = omega (arith, low_below c.rows-rows.type_inv c.if-rows-eq0.false c.lowest-a.ensures)

pub bounds-self-inside-a : goal.bounds-self-inside-a
unfolding max_members
bounds-self-inside-a c = low_below c.rows-rows.type_inv c.if-rows-eq0.false c.lowest-a.ensures

pub returns : goal.returns
returns c =
    let listed = rw (← c.self.view_is) at c.rows-rows.ensures in
    rw (← c.self.view_is) (first_some c.self.invariant listed c.rows-rows.type_inv c.if-rows-eq0.false c.lowest-a.ensures c.lowest.ensures)
