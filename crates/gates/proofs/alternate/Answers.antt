-- `gates::alternate` meets its contract.
use Prim.Native.Nat.{◌+◌, ◌≤◌}
use mathlib.Core.Path.{◌≡◌, sym, ap, ◌∙◌}
use native.Mathlib.Omega.{arith}
use borrow.Author.Tests.{leb-true}
use Rattle.std.proofs.lemmas.Grind.{common_steps}
use lib.ListN.{length}
use Rattle.bits.specs.Slices.{splice}
use Rattle.gates.specs.Polynomial.{alternating}
use Rattle.gates.proofs.StepTests.{bit_inside}
use Rattle.gates.proofs.Rows.{tabulated, put_back}
use Rattle.bits.proofs.Room.{put}
use Rattle.gates.proofs.alternate.Goals as goal

pub returns-then-bit-lt-BYTE_BITS : goal.returns-then-bit-lt-BYTE_BITS
returns-then-bit-lt-BYTE_BITS c =
    let a = c.args in
    let bytes = c.alternate_bytes.new.bytes in
    let room : a.to + a.count ≤ length a.rows.now = leb-true _ _ (sym c.if-has_room.ensures) in
    let long : length bytes ≡ a.count = grind (arith, common_steps) in
    put _ a.rows.now (bit_inside a.to a.count a.bit (length a.rows.now) (sym c.if-has_room.ensures) c.if-bit-lt-BYTE_BITS.true)
    (put_back a.rows.now a.to bytes (omega arith)
    ∙ ap (splice a.rows.now a.to) (tabulated bytes a.count (alternating a.bit) long (λ k h. c.alternate_bytes.ensures k (omega arith))))
