-- `tables::Listing::put_columns` meets its contract: each turn puts the tables of one circuit behind those before.
use Rattle.tables.proofs.Blocks.{placed_none, placed_more}
use Rattle.tables.proofs.Copies.{length_rows}
use Rattle.tables.proofs.Listing.put_columns.Goals as goal

pub loop-i-init : goal.loop-i-init
loop-i-init c = placed_none c.requires.1 (λ i h. length_rows c.args.rows.now c.requires.0 h)

pub loop-i-preserved : goal.loop-i-preserved
loop-i-preserved c = placed_more c.loop-i.invariant c.loop-i-test.true c.put_column.ensures
