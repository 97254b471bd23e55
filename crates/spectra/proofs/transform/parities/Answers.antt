-- `spectra::transform::parities` meets its contract. The loop has reduced one number for each turn.
use Rattle.spectra.specs.declared.Kind.TheVariants.{Rm}
use Rattle.spectra.proofs.Reduction.{reducing_none, reducing_more, reducing_all}
use Rattle.spectra.proofs.transform.parities.Goals as goal

pub loop-sum-init : goal.loop-sum-init
loop-sum-init c = reducing_none Rm

pub loop-sum-preserved : goal.loop-sum-preserved
loop-sum-preserved c = reducing_more Rm c.loop-sum.invariant c.loop-sum-test.true

pub returns : goal.returns
returns c = reducing_all Rm c.loop-sum.invariant c.loop-sum-test.false
