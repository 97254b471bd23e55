-- `spectra::transform::combine` meets its contract. The loop has written one sum for each turn.
use Rattle.spectra.proofs.Combination.{combining_none, combining_fits, combining_more, combining_all}
use Rattle.spectra.proofs.transform.combine.Goals as goal

pub loop-i-init : goal.loop-i-init
loop-i-init c = combining_none c.requires.0

pub overflow_add-out-in-loop-i : goal.overflow_add-out-in-loop-i
overflow_add-out-in-loop-i c = combining_fits c.loop-i.invariant c.loop-i-test.true c.requires.1

pub loop-i-preserved : goal.loop-i-preserved
loop-i-preserved c = combining_more c.loop-i.invariant c.loop-i-test.true

pub returns : goal.returns
returns c = combining_all c.loop-i.invariant c.requires.0 c.loop-i-test.false
