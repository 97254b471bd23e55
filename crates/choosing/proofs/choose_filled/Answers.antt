-- `choosing::choose_filled` meets its contract.
use native.Mathlib.Omega.{arith}
use Prim.Native.Nat.{◌*◌, ◌^◌}
use mathlib.Core.Path.{◌≡◌, sym, ap, ◌∙◌}
use Rattle.std.specs.Prelude.{Ok}
use Rattle.std.proofs.lemmas.Result.{err_from_is_err_and}
use Rattle.chooser.specs.Matrix.{cell, max_rows}
use Rattle.choosing.specs.Looking.{Listed, chosen_by, chosen_in, scan_codes}
use Rattle.choosing.specs.declared.Signature.{Signature}
use Rattle.choosing.proofs.Findings.{filled_answer}
use Rattle.choosing.proofs.Order.{listed_sized, listed_within, listed_length}
use Rattle.choosing.proofs.choose_filled.Goals as goal
use Rattle.choosing.proofs.choose_filled.Goals.{After-table_size, After-choose}

-- the entries stand at the start of their array
listed : (c : After-table_size) → Listed (scan_codes c.args.counts) (c.table_size.result * c.args.counts.outputs) c.scan_entries-codes.result
listed c = listed_sized c.requires.inputs_few c.table_size.ensures (λ k. k * c.args.counts.outputs) c.scan_entries-codes.ensures

pub overflow_mul-width : goal.overflow_mul-width
overflow_mul-width c = omega (arith, listed_within (listed (goal.at.overflow_mul-width c).After-table_size))

pub slice_bounds-codes-end : goal.slice_bounds-codes-end
slice_bounds-codes-end c = listed_within (listed (goal.at.slice_bounds-codes-end c).After-table_size)

pub slice_bounds-choose-end-2 : goal.slice_bounds-choose-end-2
slice_bounds-choose-end-2 c = listed_length (listed (goal.at.slice_bounds-choose-end-2 c).After-table_size)

-- what the method is asked, in terms of the counts
asked : (c : After-choose) → chosen_by c.args.counts c.choose.result ≡ chosen_in c.args.purpose c.args.counts (cell c.args.work.now (c.args.counts.outputs * 2 ^ c.args.counts.inputs))
unfolding max_rows
asked c =
    let a = c.args in
    let entries = listed (goal.at.After-choose c).After-table_size in
    ap (chosen_by a.counts) c.choose.ensures
    ∙ filled_answer a.counts a.work.now c.requires a.purpose c.marks_of-marks.result _ _ (omega arith) c.marks_of-marks.ensures entries.counted entries.done

pub returns-in_err-signature : goal.returns-in_err-signature
returns-in_err-signature c =
    let p = err_from_is_err_and c.from_residual.result c.from_residual.ensures.1 in
    rw (p.1, p.2) (ap (chosen_by c.args.counts) (sym c.in_err-signature.was) ∙ asked (goal.at.returns-in_err-signature c).After-choose)

pub returns : goal.returns
returns c =
    let a = c.args in
    ap (λ (s : Signature). Ok (record { counts = a.counts; signature = s })) c.decoded.ensures
    ∙ ap (chosen_by a.counts) (sym c.in_ok-signature.was) ∙ asked (goal.at.returns c).After-choose
