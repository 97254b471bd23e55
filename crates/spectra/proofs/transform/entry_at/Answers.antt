-- `spectra::transform::entry_at` meets its contract.
use Rattle.bits.specs.Packed.{entry}
use Rattle.spectra.proofs.transform.entry_at.Goals as goal

pub returns : goal.returns
unfolding entry
returns c = c.byte_entry.ensures
