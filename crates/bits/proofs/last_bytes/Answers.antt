-- `bits::last_bytes` meets its contract.
use Prim.Native.Nat.{ℕ, ◌+◌, ◌*◌}
use mathlib.Core.Path.{ap₂}
use Rattle.bits.specs.Field.{window_at}
use Rattle.bits.proofs.last_bytes.Goals as goal

pub returns : goal.returns
unfolding window_at
returns c = ap₂ (λ (x y : ℕ). x * 256 + y) c.byte_or_zero.ensures.0 c.byte_or_zero-2.ensures.0
