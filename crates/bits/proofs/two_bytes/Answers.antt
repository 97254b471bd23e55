-- `bits::two_bytes` meets its contract.
use mathlib.Core.Path.{refl}
use Rattle.bits.specs.Field.{window_at}
use Rattle.bits.proofs.two_bytes.Goals as goal

pub returns : goal.returns
unfolding window_at
returns c = refl
