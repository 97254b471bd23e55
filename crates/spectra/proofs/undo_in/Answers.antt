-- `spectra::undo_in` meets its contract: each way out is one of undoing.
use mathlib.Core.Bool.{true, false}
use mathlib.Core.Path.{◌≡◌, sym, ◌∙◌}
use borrow.Author.Tests.{not-true, not-false}
use Rattle.spectra.specs.Operations.{is_spectrum}
use Rattle.spectra.proofs.Recovery.{same_pointwise, compares, undo_none, undo_memory, undo_done}
use Rattle.spectra.proofs.undo_in.Goals as goal
use Rattle.spectra.proofs.undo_in.Goals.{Then-ne, Else-ne}

same : (c : Else-ne) → let a = c.args in true ≡ is_spectrum a.kind a.n a.k a.numbers.now
same c =
    sym (not-false _ (sym c.ne.ensures ∙ c.if-ne.false)) ∙ same_pointwise _ _
    ∙ compares c.requires c.args.kind c.recover.new.sums c.recover.ensures c.recover.auto.sums c.fill_rows.ensures

differ : (c : Then-ne) → let a = c.args in false ≡ is_spectrum a.kind a.n a.k a.numbers.now
differ c =
    sym (not-true _ (sym c.ne.ensures ∙ c.if-ne.true)) ∙ same_pointwise _ _
    ∙ compares c.requires c.args.kind c.recover.new.sums c.recover.ensures c.recover.auto.sums c.fill_rows.ensures

pub returns-then-ne : goal.returns-then-ne
returns-then-ne c = let a = c.args in undo_none a.n a.numbers.now a.kind a.k a.out.now c.requires.inputs c.requires.polarity (differ (goal.at.returns-then-ne c).Then-ne)

pub returns-then-out-table : goal.returns-then-out-table
returns-then-out-table c = let a = c.args in undo_memory a.n a.numbers.now a.kind a.k a.out.now c.requires.inputs c.requires.polarity (same (goal.at.returns-then-out-table c).Else-ne) c.recover.ensures c.if-out-table.true

pub returns : goal.returns
returns c = let a = c.args in undo_done a.n a.numbers.now a.kind a.k a.out.now c.requires.inputs c.requires.polarity (same (goal.at.returns c).Else-ne) c.recover.ensures c.if-out-table.false c.copy_from_slice.ensures.after
