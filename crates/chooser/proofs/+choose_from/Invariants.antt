-- `chooser::choose_from` meets its contract. Its measure is the number of entries that are left to look at.
use Rattle.std.proofs.Common.{length}
use Rattle.chooser.proofs.+choose_from.Given as goal

abbrev pub decreases-choose_from : goal.decreases-choose_from
decreases-choose_from l = length l.scan.now
