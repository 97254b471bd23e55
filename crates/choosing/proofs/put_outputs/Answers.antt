-- `choosing::put_outputs` meets its contract: an entry a turn.
use native.Mathlib.Omega.{arith}
use mathlib.Core.Path.{refl, ◌∙◌}
use lib.ListN.{length}
use Rattle.bits.proofs.Splice.{written_none, filled_more, filled_all}
use Rattle.choosing.proofs.EntryNumbers.{code_fits, outputs_codes}
use Rattle.choosing.proofs.put_outputs.Goals as goal

pub loop-o-init : goal.loop-o-init
loop-o-init c = written_none (omega arith)

pub overflow_mul-code : goal.overflow_mul-code
overflow_mul-code c = omega (arith, code_fits c.loop-o.o c.args.size c.args.index (omega arith) c.requires.0 c.requires.1)

pub overflow_add-code : goal.overflow_add-code
overflow_add-code c = omega (arith, code_fits c.loop-o.o c.args.size c.args.index (omega arith) c.requires.0 c.requires.1)

pub overflow_cast-code : goal.overflow_cast-code
overflow_cast-code c = record { fits = code_fits c.loop-o.o c.args.size c.args.index (omega arith) c.requires.0 c.requires.1 }

pub loop-o-preserved : goal.loop-o-preserved
loop-o-preserved c = filled_more c.loop-o.invariant _ (omega arith) refl

pub returns : goal.returns
returns c =
    let a = c.args in
    filled_all c.loop-o.invariant refl (omega arith) ∙ outputs_codes a.index a.size (length a.codes.now)
