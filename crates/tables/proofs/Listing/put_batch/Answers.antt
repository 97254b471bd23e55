-- `tables::Listing::put_batch` meets its contract: the rows of the lines asked for are the tables of the batch, and are copied.
use Rattle.tables.proofs.WrittenTables.{side_good}
use Rattle.tables.proofs.Copies.{batch_there, batch_room, batch_put}
use Rattle.tables.proofs.Space.{Sound, stands_kept}
use Rattle.tables.proofs.Listing.put_batch.Goals as goal
use Rattle.tables.proofs.Listing.put_batch.Goals.{After-work_out}

worked : (c : After-work_out) → Sound c.args.self.now.circuits.job.now c.args.self.now.circuits.shape c.args.batch c.work_out.new.rows
worked c = let s = c.args.self.now.circuits in record { valid = s.valid; shaped = s.shaped; stands = stands_kept c.work_out.auto.rows c.requires.0 }

pub put_columns-requires : goal.put_columns-requires
put_columns-requires c =
    let s = c.args.self.now in
    let sound = worked (goal.at.put_columns-requires c).After-work_out in
    (batch_there sound s.asked.now s.lie, batch_room sound s.asked.now s.lie c.args.to c.requires.2)

pub returns : goal.returns
returns c =
    let s = c.args.self.now in (
      side_good c.requires.0 c.work_out.ensures,
      batch_put (worked (goal.at.returns c).After-work_out) s.asked.now s.lie c.work_out.ensures c.args.out.now c.args.to c.put_columns.ensures,
    )
