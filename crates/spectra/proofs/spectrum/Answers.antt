-- `spectra::spectrum` meets its contract: one table is one row.
use mathlib.Core.Path.{◌∙◌}
use Rattle.spectra.proofs.Refusals.{spectrum_left}
use Rattle.spectra.proofs.spectrum.Goals as goal

pub returns : goal.returns
returns c = let a = c.args in c.fill.ensures ∙ spectrum_left a.n a.table.now a.kind a.polarity a.out.now c.one_table.ensures
