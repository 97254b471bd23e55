-- `chooser::pairs::Pairs::new` meets its contract.
use Rattle.std.proofs.Common.{refl}
use Rattle.chooser.specs.Matrix.{max_rows}
use Rattle.chooser.proofs.Marks.{base_sound}
use Rattle.chooser.proofs.pairs.Pairs.new.Goals as goal

pub pair_others-requires : goal.pair_others-requires
unfolding max_rows
pair_others-requires c = (c.requires.0, c.requires.1, c.by_mark-all.ensures.0, c.by_mark-all.ensures.1, refl)

pub invariant_of-result : goal.invariant_of-result
invariant_of-result c = base_sound c.pair_others.ensures
