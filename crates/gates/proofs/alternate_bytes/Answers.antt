-- `gates::alternate_bytes` meets its contract. The loop has written one byte for each turn.
use Rattle.std.proofs.Common.{arith, below_more, ◌<◌, ◌≢◌, length, get_or-set_other, get_or-set_same}
use Rattle.gates.proofs.Tables.{alternate_low}
use Rattle.gates.proofs.alternate_bytes.Goals as goal

pub loop-i-preserved : goal.loop-i-preserved
loop-i-preserved c =
    below_more _ _
    (λ k h. let ne : k ≢ c.loop-i.i = omega arith in rw get_or-set_other (c.loop-i.invariant k h))
    (let lt : c.loop-i.i < length c.loop-i.bytes = omega arith in rw get_or-set_same (alternate_low c.args.bit c.loop-i.i c.requires))
