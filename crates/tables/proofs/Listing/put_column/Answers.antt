-- `tables::Listing::put_column` meets its contract: each turn puts the row of one line behind those of the lines before.
use Rattle.tables.proofs.Copies.{rows_none, rows_more}
use Rattle.tables.proofs.Listing.put_column.Goals as goal

pub loop-p-init : goal.loop-p-init
loop-p-init c = rows_none c.args.rows.now c.requires.0 c.requires.1 c.args.out.now c.args.to c.requires.2

pub loop-p-preserved : goal.loop-p-preserved
loop-p-preserved c = rows_more c.args.rows.now c.requires.0 c.requires.1 c.args.out.now c.args.to c.loop-p.invariant c.loop-p-test.true c.block_place.ensures c.copy.ensures
