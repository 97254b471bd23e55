-- `spectra::fill` meets its contract: each way out is one law.
use Prim.Native.Nat.{ℕ, ◌*◌, ◌^◌, ◌<◌, ◌≤◌}
use native.Mathlib.Nat.{le_of_eq}
use mathlib.Core.Path.{◌≡◌, sym, ap, subst, ◌∙◌}
use lib.ListN.{length}
use Rattle.bits.specs.Answer.{outcome}
use Rattle.bits.specs.Answer.Answer.{gives}
use Rattle.bits.proofs.TableSizes.{table_size_exact}
use Rattle.job.proofs.Sizes.{inputs_few}
use Rattle.spectra.specs.Operations.{rows_in, tables_checked}
use Rattle.spectra.proofs.Families.{Fits, checked_fits}
use Rattle.spectra.proofs.Refusals.{filled_polarity, filled_memory, filled_done, rows_room}
use Rattle.spectra.proofs.TableTests.{rows_fit, circuits_fit}
use Rattle.spectra.proofs.fill.Goals as goal
use Rattle.spectra.proofs.fill.Goals.{In_ok-check_tables, After-table_size-size}

-- the checks are passed
passed : (c : In_ok-check_tables) → let a = c.args in tables_checked a.counts a.tables.now ≡ gives tt
passed c = sym c.check_tables.ensures ∙ ap outcome c.in_ok-check_tables.was

fitting : (c : In_ok-check_tables) → let a = c.args in Fits a.counts a.tables.now
fitting c = let a = c.args in checked_fits a.counts a.tables.now (passed c)

sized : (c : After-table_size-size) → (f : Fits c.args.counts c.args.tables.now) → c.table_size-size.result ≡ 2 ^ c.args.counts.inputs
sized c f = table_size_exact (inputs_few f.few) c.table_size-size.ensures

pub overflow_add-rows : goal.overflow_add-rows
overflow_add-rows c = let f = fitting (goal.at.overflow_add-rows c).In_ok-check_tables in record { fits = circuits_fit f.faults_few }

pub overflow_mul-rows : goal.overflow_mul-rows
overflow_mul-rows c = let f = fitting (goal.at.overflow_mul-rows c).In_ok-check_tables in record { fits = rows_fit f.faults_few f.outputs_few }

pub returns-then-size-polarity : goal.returns-then-size-polarity
returns-then-size-polarity c =
    let a = c.args in
    let p = (goal.at.returns-then-size-polarity c).In_ok-check_tables in
    filled_polarity a.counts a.tables.now a.kind a.polarity a.work.now (passed p)
    (sized (goal.at.returns-then-size-polarity c).After-table_size-size (fitting p)) c.if-size-polarity.true

pub overflow_mul-rows-2 : goal.overflow_mul-rows-2
overflow_mul-rows-2 c =
    let f = fitting (goal.at.overflow_mul-rows-2 c).In_ok-check_tables in
    record { fits = rows_room f (sized (goal.at.overflow_mul-rows-2 c).After-table_size-size f) }

pub returns-then-work-rows : goal.returns-then-work-rows
returns-then-work-rows c =
    let a = c.args in
    let p = (goal.at.returns-then-work-rows c).In_ok-check_tables in
    filled_memory a.counts a.tables.now a.kind a.polarity a.work.now (passed p)
    (sized (goal.at.returns-then-work-rows c).After-table_size-size (fitting p)) c.if-size-polarity.false c.if-work-rows.true

pub fill_rows-requires : goal.fill_rows-requires
fill_rows-requires c =
    let a = c.args in
    let f = fitting (goal.at.fill_rows-requires c).In_ok-check_tables in
    let size = sized (goal.at.fill_rows-requires c).After-table_size-size f in (
      f.few,
      subst (λ (x : ℕ). a.polarity < x) size c.if-size-polarity.false,
      subst (λ (x : ℕ). rows_in a.counts * x ≤ length a.work.now) size c.if-work-rows.false,
      le_of_eq (sym f.size),
    )

pub returns : goal.returns
returns c =
    let a = c.args in
    let p = (goal.at.returns c).In_ok-check_tables in
    filled_done a.counts a.tables.now a.kind a.polarity a.work.now (passed p)
    (sized (goal.at.returns c).After-table_size-size (fitting p)) _ c.if-size-polarity.false c.if-work-rows.false c.fill_rows.ensures
