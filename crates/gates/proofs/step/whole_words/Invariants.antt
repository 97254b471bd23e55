-- `gates::step::whole_words` meets its contract. The loop has written two words for each turn.
use Prim.Native.Nat.{◌*◌}
use Rattle.gates.specs.Polynomial.{combined}
use Rattle.bits.proofs.Splice.{Written}
use Rattle.gates.proofs.step.whole_words.Given as goal

abbrev pub invariant-loop-pair : goal.invariant-loop-pair
invariant-loop-pair l =
    let p = l.places in
    Written l.initial.rows p.to l.count (combined l.polynomial p.x p.y l.initial.rows) l.rows (16 * l.pair)
