-- `scan` meets its contract: what is kept of the agreeing rows passed.
use native.Mathlib.Omega.{arith}
use Prim.Native.Nat.{◌+◌, ◌^◌}
use mathlib.Core.Path.{◌≡◌, sym, ap, ◌∙◌}
use Rattle.std.proofs.Common.{Some}
use Rattle.bits.proofs.TableSizes.{table_size_exact}
use Rattle.job.specs.Layout.{max_faults}
use Rattle.job.proofs.Sizes.{inputs_few}
use Rattle.tables.specs.Operations.{part_in}
use Rattle.locating.proofs.Scans.{scanned_none, scanned_count, scanned_joined, scanned_passed, scanned_all, row_end, row_wide, row_within, rows_agree}
use Rattle.locating.proofs.scan.Goals as goal
use Rattle.locating.proofs.scan.Goals.{After-table_size-size, then-agree, else-agree}

-- the size is the number of coefficients
sized : (c : After-table_size-size) → c.table_size-size.result ≡ 2 ^ c.args.counts.inputs
sized c = table_size_exact (inputs_few c.requires.inputs_few) c.table_size-size.ensures

pub overflow_mul-width : goal.overflow_mul-width
overflow_mul-width c = omega (arith, row_wide c.requires (sized (goal.at.overflow_mul-width c).After-table_size-size))

pub overflow_add-c-end : goal.overflow_add-c-end
unfolding max_faults
overflow_add-c-end c = omega (arith, c.requires.faults_few)

pub loop-c-init : goal.loop-c-init
loop-c-init c = scanned_none _ _

pub overflow_mul-c : goal.overflow_mul-c
overflow_mul-c c = omega (arith, row_end c.requires (sized (goal.at.overflow_mul-c c).After-table_size-size) c.loop-c-test.true)

pub agree-requires : goal.agree-requires
agree-requires c = row_within c.requires (sized (goal.at.agree-requires c).After-table_size-size) c.loop-c-test.true

pub bounds-counts-c : goal.bounds-counts-c
unfolding max_faults
bounds-counts-c c = omega (arith, c.requires.faults_few)

pub joined-requires : goal.joined-requires
joined-requires c = scanned_count c.loop-c.invariant (omega arith)

pub loop-c-preserved : goal.loop-c-preserved
loop-c-preserved c =
    elim c.if-agree.branch [
      | then-agree w ↦ scanned_joined c.loop-c.invariant (sym c.agree.ensures ∙ w.if-agree.true) (w.seen-is ∙ ap Some w.joined.ensures)
      | else-agree w ↦ scanned_passed c.loop-c.invariant (sym c.agree.ensures ∙ w.if-agree.false) w.seen-is
    ]

pub returns : goal.returns
returns c =
    let a = c.args in
    c.told.ensures ∙ scanned_all c.loop-c.invariant c.loop-c.auto.c-end c.loop-c-test.false
    ∙ rows_agree c.requires (sized (goal.at.returns c).After-table_size-size) (part_in a.counts.parts) a.work.now a.observed.now.readings.now (a.counts.faults + 1)
