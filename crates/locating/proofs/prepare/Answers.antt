-- `prepare` meets its contract: each way out is one law.
use Prim.Native.Nat.{◌^◌}
use mathlib.Core.Bool.{true}
use mathlib.Core.Path.{◌≡◌, sym, ◌∙◌}
use Rattle.bits.specs.Bounds.{all_below}
use Rattle.bits.specs.Answer.Answer.{gives}
use Rattle.bits.proofs.TableSizes.{table_size_exact}
use Rattle.job.proofs.Sizes.{inputs_few}
use Rattle.spectra.specs.Operations.{tables_checked}
use Rattle.spectra.proofs.Families.{checked_fits}
use Rattle.locating.proofs.Preparation.{prepared_polarity, prepared_index, prepared_output, prepared_readings, prepared_filled}
use Rattle.locating.proofs.prepare.Goals as goal
use Rattle.locating.proofs.prepare.Goals.{After-table_size-size, Else-not-all_below, Else-not-all_below-2}

-- the checks of the tables are passed
passed : (c : After-table_size-size) → let a = c.args in tables_checked a.counts a.tables.now ≡ gives tt
passed c = sym c.in_ok-check_tables.ensures

-- the size is the number of coefficients
sized : (c : After-table_size-size) → c.table_size-size.result ≡ 2 ^ c.args.counts.inputs
sized c = table_size_exact (inputs_few (checked_fits c.args.counts c.args.tables.now (passed c)).few) c.table_size-size.ensures

pub returns-then-size-polarity : goal.returns-then-size-polarity
returns-then-size-polarity c = let a = c.args in prepared_polarity a.counts a.tables.now a.kind a.polarity a.indices.now a.outputs.now a.paired a.work.now (passed (goal.at.returns-then-size-polarity c).After-table_size-size) (sized (goal.at.returns-then-size-polarity c).After-table_size-size) c.if-size-polarity.true

pub returns-then-not-all_below : goal.returns-then-not-all_below
returns-then-not-all_below c = let a = c.args in prepared_index a.counts a.tables.now a.kind a.polarity a.indices.now a.outputs.now a.paired a.work.now (passed (goal.at.returns-then-not-all_below c).After-table_size-size) (sized (goal.at.returns-then-not-all_below c).After-table_size-size) c.if-size-polarity.false (sym c.all_below.ensures ∙ c.if-not-all_below.true)

-- the indices are below the number of coefficients
indices_below : (c : Else-not-all_below) → all_below c.table_size-size.result c.args.indices.now ≡ true
indices_below c = sym c.all_below.ensures ∙ c.if-not-all_below.false

pub returns-then-not-all_below-2 : goal.returns-then-not-all_below-2
returns-then-not-all_below-2 c = let a = c.args in prepared_output a.counts a.tables.now a.kind a.polarity a.indices.now a.outputs.now a.paired a.work.now (passed (goal.at.returns-then-not-all_below-2 c).After-table_size-size) (sized (goal.at.returns-then-not-all_below-2 c).After-table_size-size) c.if-size-polarity.false (indices_below (goal.at.returns-then-not-all_below-2 c).Else-not-all_below) (sym c.all_below-2.ensures ∙ c.if-not-all_below-2.true)

-- the outputs are below their number
outputs_below : (c : Else-not-all_below-2) → all_below c.args.counts.outputs c.args.outputs.now ≡ true
outputs_below c = sym c.all_below-2.ensures ∙ c.if-not-all_below-2.false

pub returns-then-not-paired : goal.returns-then-not-paired
returns-then-not-paired c = let a = c.args in prepared_readings a.counts a.tables.now a.kind a.polarity a.indices.now a.outputs.now a.paired a.work.now (passed (goal.at.returns-then-not-paired c).After-table_size-size) (sized (goal.at.returns-then-not-paired c).After-table_size-size) c.if-size-polarity.false (indices_below (goal.at.returns-then-not-paired c).Else-not-all_below) (outputs_below (goal.at.returns-then-not-paired c).Else-not-all_below-2) c.if-not-paired.true

pub returns : goal.returns
returns c = let a = c.args in prepared_filled a.counts a.tables.now a.kind a.polarity a.indices.now a.outputs.now a.paired a.work.now (passed (goal.at.returns c).After-table_size-size) (sized (goal.at.returns c).After-table_size-size) c.if-size-polarity.false (indices_below (goal.at.returns c).Else-not-all_below) (outputs_below (goal.at.returns c).Else-not-all_below-2) c.if-not-paired.false c.fill.ensures
