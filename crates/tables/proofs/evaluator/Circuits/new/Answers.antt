-- `tables::evaluator::Circuits::new` meets its contract: a valid job has few inputs.
use mathlib.Core.Path.{◌∙◌}
use Rattle.job.proofs.Sizes.{inputs_few}
use Rattle.tables.proofs.ShapedRows.{few_shape}
use Rattle.tables.proofs.evaluator.Circuits.new.Goals as goal

pub invariant_of-result-clause-shaped : goal.invariant_of-result-clause-shaped
invariant_of-result-clause-shaped c = c.new-shape.ensures ∙ few_shape (inputs_few c.requires.few)
