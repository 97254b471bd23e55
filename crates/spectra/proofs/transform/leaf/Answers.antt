-- `spectra::transform::leaf` meets its contract: the rows of a byte's halves, added, are its spectrum.
use Prim.Native.Nat.{◌/◌}
use native.Mathlib.Omega.{arith}
use mathlib.Core.Path.{refl}
use Rattle.spectra.proofs.HalfBytes.{leaf_fits, leaf_made}
use Rattle.bits.proofs.Splice.{written_none, filled_more}
use Rattle.spectra.proofs.transform.leaf.Goals as goal

pub loop-j-init : goal.loop-j-init
loop-j-init c = written_none (omega (arith, c.requires.asks.room))

pub overflow_add-out : goal.overflow_add-out
overflow_add-out c = leaf_fits c.args.table.now c.requires (c.type_inv.table (c.args.at / 8)).fits refl refl c.loop-j.j c.loop-j-test.true

pub loop-j-preserved : goal.loop-j-preserved
loop-j-preserved c = filled_more c.loop-j.invariant _ c.loop-j-test.true refl

pub returns : goal.returns
returns c k asks =
    leaf_made c.args.table.now c.requires (c.type_inv.table (c.args.at / 8)).fits refl refl c.loop-j.invariant refl c.loop-j-test.false k asks
