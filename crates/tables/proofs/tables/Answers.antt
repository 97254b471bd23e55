-- `tables::tables` meets its contract.
use Prim.Native.Nat.{ℕ, ◌+◌, ◌*◌, ◌≤◌, ◌<◌}
use native.Mathlib.Omega.{arith}
use mathlib.Core.Path.{◌≡◌, sym, ap, subst, ◌∙◌}
use lib.ListN.{length}
use lib.Seq.{length-take-le}
use mir.Syntax.{w64}
use mir.Val.{Fits}
use Rattle.std.proofs.lemmas.Result.{err_from_is_err_and}
use Rattle.reading.proofs.Validity.{reading_valid, reading_lengths}
use Rattle.bits.specs.Sizes.{table_bytes}
use Rattle.job.specs.Check.{Valid}
use Rattle.job.specs.declared.Job.{Job}
use Rattle.tables.proofs.Space.{shape_bytes}
use Rattle.tables.specs.Operations.{tables_bytes}
use Rattle.tables.proofs.Answers.{tables_unread, tables_memory, tables_done}
use Rattle.tables.proofs.WrittenTables.{table_count_fits, all_put}
use Rattle.tables.proofs.tables.Goals as goal
use Rattle.tables.proofs.tables.Goals.{In_ok-job, After-new-circuits}

pub returns-in_err-job : goal.returns-in_err-job
returns-in_err-job c = let p = err_from_is_err_and c.from_residual.result c.from_residual.ensures.1 in rw (p.1, p.2) (tables_unread _ _ (sym c.in_err-job.ensures))

valid : (c : In_ok-job) → Valid c.in_ok-job.job
valid c = reading_valid _ _ (sym c.in_ok-job.ensures)

inside : (c : In_ok-job) → c.in_ok-job.job.output_count ≤ length c.in_ok-job.job.outputs
inside c = omega (arith, (valid c).outputs_few, (reading_lengths _ _ (sym c.in_ok-job.ensures)).1)

sized : (c : After-new-circuits) → (c.in_ok-job.job.fault_count + 1) * c.in_ok-job.job.output_count * c.new-circuits.result.shape.bytes ≡ tables_bytes c.in_ok-job.job
sized c =
    ap (λ (k : ℕ). (c.in_ok-job.job.fault_count + 1) * c.in_ok-job.job.output_count * k)
    (shape_bytes c.new-circuits.result.job.now c.new-circuits.result.shaped ∙ ap (λ (j : Job). table_bytes j.inputs) c.new-circuits.ensures)

pub new-circuits-requires : goal.new-circuits-requires
new-circuits-requires c = valid (goal.at.new-circuits-requires c).In_ok-job

pub overflow_mul-bytes-2 : goal.overflow_mul-bytes-2
overflow_mul-bytes-2 c = subst (λ (k : ℕ). Fits w64 k) (sym (sized c)) (table_count_fits _ (valid (goal.at.overflow_mul-bytes-2 c).In_ok-job))

pub returns-then-out-bytes : goal.returns-then-out-bytes
returns-then-out-bytes c = tables_memory _ _ _ (sym c.in_ok-job.ensures) (subst (λ (k : ℕ). length c.args.out.now < k) (sized (goal.at.returns-then-out-bytes c).After-new-circuits) c.if-out-bytes.true)

pub slice_bounds-lines-end : goal.slice_bounds-lines-end
slice_bounds-lines-end c = inside (goal.at.slice_bounds-lines-end c).In_ok-job

pub slice_bounds-asked-end : goal.slice_bounds-asked-end
slice_bounds-asked-end c = sym (length-take-le _ _ (inside (goal.at.slice_bounds-asked-end c).In_ok-job))

pub of-counts-requires : goal.of-counts-requires
of-counts-requires c = (reading_lengths _ _ (sym c.in_ok-job.ensures)).2

pub returns : goal.returns
returns c =
    let p = (goal.at.returns c).In_ok-job in
    tables_done c.args.bytes.now c.args.out.now c.in_ok-job.job (sym c.in_ok-job.ensures) _ c.of-counts.ensures (sized (goal.at.returns c).After-new-circuits) c.if-out-bytes.false
    (all_put _ (valid p) (inside p) (c.in_ok-job.job.fault_count + 1) c.args.out.now (rw c.new-circuits.ensures at c.put_tables.ensures))
