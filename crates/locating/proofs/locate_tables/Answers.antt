-- `locate_tables` meets its contract: the work is prepared, and its rows are scanned.
use Rattle.locating.proofs.Preparation.{Prepared, prepared_done}
use Rattle.locating.proofs.Answers.{sought_indexed, sought_rows, sought_done}
use Rattle.locating.proofs.locate_tables.Goals as goal
use Rattle.locating.proofs.locate_tables.Goals.{In_ok-prepare}

-- the work is prepared
ready : (c : In_ok-prepare) → let a = c.args in Prepared a.counts a.tables.now a.kind a.polarity a.indices.now a.outputs.now c.lengths_ok-paired.result a.work.now c.prepare.new.work
ready c =
    let a = c.args in
    prepared_done a.counts a.tables.now a.kind a.polarity a.indices.now a.outputs.now c.lengths_ok-paired.result a.work.now c.in_ok-prepare.ensures

pub invariant_of-observed : goal.invariant_of-observed
invariant_of-observed c =
    let a = c.args in
    record {
      indexed =
          sought_indexed a.counts a.tables.now a.kind a.polarity a.indices.now a.outputs.now a.readings.now a.work.now c.lengths_ok-paired.ensures
          (ready (goal.at.invariant_of-observed c).In_ok-prepare);
    }

pub scan-requires : goal.scan-requires
scan-requires c =
    let a = c.args in
    sought_rows a.counts a.tables.now a.kind a.polarity a.indices.now a.outputs.now a.readings.now a.work.now c.lengths_ok-paired.ensures
    (ready (goal.at.scan-requires c).In_ok-prepare)

pub returns : goal.returns
returns c =
    let a = c.args in
    sought_done a.counts a.tables.now a.kind a.polarity a.indices.now a.outputs.now a.readings.now a.work.now c.lengths_ok-paired.ensures
    (ready (goal.at.returns c).In_ok-prepare) _ c.scan.ensures
