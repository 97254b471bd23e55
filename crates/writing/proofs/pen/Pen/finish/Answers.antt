-- `writing::pen::Pen::finish` meets its contract.
use Rattle.std.proofs.Common.{◌∙◌}
use Rattle.writing.proofs.PutBits.{spare_fits, spare_put, spare_none}
use Rattle.writing.proofs.pen.Pen.finish.Goals as goal
use Rattle.writing.proofs.pen.Pen.finish.Goals.{then-count-gt0, else-count-gt0}

pub overflow_cast-out : goal.overflow_cast-out
overflow_cast-out c = record { fits = spare_fits c.requires }

pub returns : goal.returns
returns c =
    elim c.if-count-gt0.branch [
      | then-count-gt0 w ↦ w.out-is ∙ spare_put c.requires w.if-count-gt0.true
      | else-count-gt0 w ↦ w.out-is ∙ spare_none c.requires w.if-count-gt0.false
    ]
