-- `spectra::recover` meets its contract: the parities are packed, transformed, and packed again.
use Rattle.spectra.proofs.Recovery.{packs_sums, recovers}
use Rattle.spectra.proofs.recover.Goals as goal

pub pack-requires-2 : goal.pack-requires-2
pack-requires-2 c = packs_sums c.requires c.pack.ensures c.fill_rows.ensures

pub returns : goal.returns
returns c = recovers c.requires c.pack.ensures c.fill_rows.ensures c.pack-2.ensures
