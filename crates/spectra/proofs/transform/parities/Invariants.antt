-- `spectra::transform::parities` meets its contract. The loop has reduced one number for each turn.
use Rattle.spectra.specs.declared.Kind.TheVariants.{Rm}
use Rattle.spectra.proofs.Reduction.{Reducing}
use Rattle.spectra.proofs.transform.parities.Given as goal

abbrev pub invariant-loop-sum : goal.invariant-loop-sum
invariant-loop-sum l = Reducing Rm l.initial.sums l.sums l.sum-index
