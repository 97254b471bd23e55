-- `bits::sets::lowest` meets its contract.
use mathlib.Core.Path.{refl}
use Rattle.bits.specs.Sets.{max_members, lowest}
use Rattle.bits.proofs.sets.lowest.Goals as goal

pub returns : goal.returns
unfolding lowest max_members
returns c = refl
