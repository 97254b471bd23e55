-- `tables::table` meets its contract.
use Prim.Native.Nat.{ℕ, ◌≤◌, ◌<◌}
use native.Mathlib.Omega.{arith}
use mathlib.Core.Path.{◌≡◌, sym, ap, subst, ◌∙◌}
use lib.ListN.{length}
use Rattle.std.proofs.lemmas.Result.{err_from_is_err_and}
use Rattle.reading.proofs.Validity.{reading_valid, reading_lengths}
use Rattle.bits.specs.Sizes.{table_bytes}
use Rattle.job.specs.Check.{Valid}
use Rattle.job.specs.declared.Job.{Job}
use Rattle.tables.proofs.Space.{shape_bytes}
use Rattle.tables.proofs.Answers.{table_unread, table_number, table_output, table_memory, table_done}
use Rattle.tables.proofs.WrittenTables.{one_asked, one_put}
use Rattle.tables.proofs.table.Goals as goal
use Rattle.tables.proofs.table.Goals.{In_ok-job, After-new-circuits}

pub returns-in_err-job : goal.returns-in_err-job
returns-in_err-job c = let p = err_from_is_err_and c.from_residual.result c.from_residual.ensures.1 in rw (p.1, p.2) (table_unread _ _ _ _ (sym c.in_err-job.ensures))

pub returns-then-job-circuit : goal.returns-then-job-circuit
returns-then-job-circuit c = table_number _ _ _ _ _ (sym c.in_ok-job.ensures) c.if-job-circuit.true

pub returns-then-job-output : goal.returns-then-job-output
returns-then-job-output c = table_output _ _ _ _ _ (sym c.in_ok-job.ensures) c.if-job-circuit.false c.if-job-output.true

valid : (c : In_ok-job) → Valid c.in_ok-job.job
valid c = reading_valid _ _ (sym c.in_ok-job.ensures)

inside : (c : In_ok-job) → c.in_ok-job.job.output_count ≤ length c.in_ok-job.job.outputs
inside c = omega (arith, (valid c).outputs_few, (reading_lengths _ _ (sym c.in_ok-job.ensures)).1)

size : (c : After-new-circuits) → c.new-circuits.result.shape.bytes ≡ table_bytes c.in_ok-job.job.inputs
size c = shape_bytes c.new-circuits.result.job.now c.new-circuits.result.shaped ∙ ap (λ (j : Job). table_bytes j.inputs) c.new-circuits.ensures

pub new-circuits-requires : goal.new-circuits-requires
new-circuits-requires c = valid (goal.at.new-circuits-requires c).In_ok-job

pub returns-then-out-circuits : goal.returns-then-out-circuits
returns-then-out-circuits c = table_memory _ _ _ _ _ (sym c.in_ok-job.ensures) c.if-job-circuit.false c.if-job-output.false (subst (λ (k : ℕ). length c.args.out.now < k) (size (goal.at.returns-then-out-circuits c).After-new-circuits) c.if-out-circuits.true)

pub slice_bounds-asked-end : goal.slice_bounds-asked-end
slice_bounds-asked-end c = omega (arith, inside (goal.at.slice_bounds-asked-end c).In_ok-job, c.if-job-output.false)

pub invariant_of-listing : goal.invariant_of-listing
invariant_of-listing c = let p = (goal.at.invariant_of-listing c).In_ok-job in rw c.new-circuits.ensures (record { lie = one_asked _ (valid p) (inside p) c.args.output c.if-job-output.false })

pub returns : goal.returns
returns c =
    let p = (goal.at.returns c).In_ok-job in
    table_done _ _ _ _ _ (sym c.in_ok-job.ensures) c.if-job-circuit.false c.if-job-output.false _
    (subst (λ (k : ℕ). k ≤ length c.args.out.now) (size (goal.at.returns c).After-new-circuits) c.if-out-circuits.false)
    (one_put _ (valid p) (inside p) c.args.output c.if-job-output.false c.args.circuit c.args.out.now (rw c.new-circuits.ensures at c.put_table.ensures))
