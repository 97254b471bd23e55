-- `spectra::parity` meets its contract.
use mathlib.Core.Path.{sym}
use lib.ListN.{length}
use Rattle.bits.proofs.Packed.{tabulate_at, tabulate_past}
use Rattle.spectra.specs.Parities.{parity_at}
use Rattle.spectra.proofs.parity.Goals as goal

pub returns-then-m-numbers : goal.returns-then-m-numbers
returns-then-m-numbers c = let a = c.args in sym (tabulate_at (length a.numbers.now) (parity_at a.numbers.now a.k) a.m c.if-m-numbers.true)

pub returns-else-m-numbers : goal.returns-else-m-numbers
returns-else-m-numbers c = let a = c.args in sym (tabulate_past (length a.numbers.now) (parity_at a.numbers.now a.k) a.m c.if-m-numbers.false)
