-- `spectra::transform::transform` meets its contract. Its measure is the number of inputs. The halves come back one after the other, and combined they are the spectrum.
use Rattle.spectra.proofs.transform.+transform.Given as goal

abbrev pub decreases-transform : goal.decreases-transform
decreases-transform l = l.n
