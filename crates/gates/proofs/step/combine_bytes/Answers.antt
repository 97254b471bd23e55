-- `gates::step::combine_bytes` meets its contract.
use native.Mathlib.Omega.{arith}
use mathlib.Core.Path.{ap₂, ◌∙◌}
use Rattle.gates.specs.Polynomial.{step}
use Rattle.bits.proofs.Splice.{written_more, written_before}
use Rattle.gates.proofs.step.combine_bytes.Goals as goal

pub loop-i-preserved : goal.loop-i-preserved
loop-i-preserved c =
    let w = c.loop-i.invariant in
    written_more w _ c.loop-i-test.true (c.byte_step.ensures ∙ ap₂ (step c.args.polynomial) (written_before w _ (omega arith)) (written_before w _ (omega arith)))
