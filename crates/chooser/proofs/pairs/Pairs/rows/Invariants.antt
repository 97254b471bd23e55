-- `chooser::pairs::Pairs::rows` meets its contract: the sets of the first rows are joined.
use Rattle.std.proofs.Common.{get_or}
use Rattle.chooser.proofs.SetRows.{Union}
use Rattle.chooser.proofs.pairs.Pairs.rows.Given as goal

abbrev pub invariant-loop-partners : goal.invariant-loop-partners
invariant-loop-partners l = Union (λ a. get_or l.partners-items a 0) l.rows l.partners-index
