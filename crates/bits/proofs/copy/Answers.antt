-- `bits::copy` meets its contract. What its tests refuse the check finds alone.
use Prim.Native.Nat.{◌+◌, ◌≤◌}
use mathlib.Core.Path.{refl, sym, ap, ◌∙◌}
use lib.ListN.{length}
use borrow.Author.Tests.{leb-true}
use Rattle.bits.specs.Slices.{slice, splice}
use Rattle.bits.proofs.Room.{put, copy_second}
use Rattle.bits.proofs.Splice.{written_none, written_more, written_all}
use Rattle.bits.proofs.Slices.{tabulate_slice}
use Rattle.bits.proofs.copy.Goals as goal

pub loop-i-init : goal.loop-i-init
loop-i-init c = written_none (leb-true _ _ (sym c.has_room.ensures ∙ c.if-not-has_room.false))

pub loop-i-preserved : goal.loop-i-preserved
loop-i-preserved c = written_more c.loop-i.invariant _ c.loop-i-test.true refl

pub returns : goal.returns
returns c =
    let a = c.args in
    let to_room = sym c.has_room.ensures ∙ c.if-not-has_room.false in
    let at_room = sym c.has_room-2.ensures ∙ c.if-not-has_room-2.false in
    let ends : a.at + a.count ≤ length a.rows.now = leb-true _ _ at_room in
    put (splice a.out.now a.to (slice a.at a.count a.rows.now)) a.out.now
    (copy_second a.to a.at a.count (length a.out.now) (length a.rows.now) to_room at_room)
    (written_all c.loop-i.invariant c.loop-i-test.false ∙ ap (splice a.out.now a.to) (tabulate_slice a.rows.now a.at a.count ends))
