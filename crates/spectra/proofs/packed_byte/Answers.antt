-- `spectra::packed_byte` meets its contract. The loop has put one parity for each turn into the byte.
use Prim.Native.Nat.{◌+◌}
use Rattle.spectra.proofs.Parities.{digits_none, digits_fits, digits_more, parity_bit}
use Rattle.spectra.proofs.packed_byte.Goals as goal

pub loop-m-init : goal.loop-m-init
loop-m-init c = digits_none

pub overflow_add-byte : goal.overflow_add-byte
overflow_add-byte c = digits_fits c.loop-m.invariant (let a = c.args in parity_bit a.numbers.now a.k (a.first + c.loop-m.m) c.parity.ensures) c.loop-m-test.true

pub loop-m-preserved : goal.loop-m-preserved
loop-m-preserved c = digits_more c.loop-m.invariant (let a = c.args in parity_bit a.numbers.now a.k (a.first + c.loop-m.m) c.parity.ensures) c.loop-m-test.true c.parity.ensures
