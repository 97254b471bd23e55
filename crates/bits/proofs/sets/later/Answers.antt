-- `bits::sets::later` meets its contract.
use mathlib.Core.Path.{refl, sym, ap}
use Rattle.bits.specs.Sets.{later}
use Rattle.bits.proofs.sets.later.Goals as goal

pub returns-then-set-eq0 : goal.returns-then-set-eq0
unfolding later
returns-then-set-eq0 c = sym (ap later c.if-set-eq0.true)

pub returns : goal.returns
unfolding later
returns c = refl
