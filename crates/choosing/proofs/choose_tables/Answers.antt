-- `choosing::choose_tables` meets its contract: the spectra are filled, or refused.
use Rattle.std.proofs.lemmas.Result.{err_from_is_err_and}
use Rattle.choosing.proofs.Findings.{chosen_unfilled, chosen_room, chosen_filled}
use Rattle.choosing.proofs.choose_tables.Goals as goal

pub returns-in_err-fill : goal.returns-in_err-fill
returns-in_err-fill c =
    let p = err_from_is_err_and c.from_residual.result c.from_residual.ensures.1 in
    let a = c.args in
    rw (p.1, p.2) (chosen_unfilled a.purpose a.counts a.tables.now a.kind a.polarity a.work.now c.in_err-fill.ensures)

pub choose_filled-requires : goal.choose_filled-requires
choose_filled-requires c = let a = c.args in chosen_room a.purpose a.counts a.tables.now a.kind a.polarity a.work.now c.in_ok-fill.ensures

pub returns : goal.returns
returns c = let a = c.args in chosen_filled a.purpose a.counts a.tables.now a.kind a.polarity a.work.now c.in_ok-fill.ensures c.choose_filled.ensures
