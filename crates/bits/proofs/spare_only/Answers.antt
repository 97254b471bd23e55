-- `bits::spare_only` meets its contract.
use native.Mathlib.Omega.{arith}
use Rattle.bits.proofs.Fields.{spare_none, spare_more, spare_last}
use Rattle.bits.proofs.spare_only.Goals as goal

pub returns-then-s-at : goal.returns-then-s-at
returns-then-s-at c = spare_none c.args.s.now c.args.c c.if-s-at.true

pub returns-then-used-eq0 : goal.returns-then-used-eq0
returns-then-used-eq0 c = spare_more c.args.s.now c.args.c (omega arith)

pub returns-then-at-s : goal.returns-then-at-s
returns-then-at-s c = spare_more c.args.s.now c.args.c (omega arith)

pub returns : goal.returns
returns c = spare_last c.args.s.now c.args.c c.byte_or_zero.ensures.0 c.if-s-at.false c.if-at-s.false c.if-used-eq0.false
