-- `spectra::pack` meets its contract. The loop has written one byte for each turn.
use Rattle.spectra.proofs.Parities.{packing_none, packing_more, packing_all}
use Rattle.spectra.proofs.pack.Goals as goal

pub loop-i-init : goal.loop-i-init
loop-i-init c = packing_none c.requires

pub loop-i-preserved : goal.loop-i-preserved
loop-i-preserved c = packing_more c.requires c.loop-i.invariant _ c.loop-i-test.true c.packed_byte.ensures

pub returns : goal.returns
returns c = packing_all c.requires c.loop-i.invariant c.loop-i-test.false
