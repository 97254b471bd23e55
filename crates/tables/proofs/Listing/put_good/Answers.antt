-- `tables::Listing::put_good` meets its contract: the good circuit is a batch by itself.
use Rattle.tables.proofs.Copies.{good_put}
use Rattle.tables.proofs.Listing.put_good.Goals as goal

pub returns : goal.returns
returns c = let s = c.args.self.now in (c.put_batch.ensures.0, good_put s.circuits.job.now s.asked.now c.args.out.now c.put_batch.ensures.1)
