-- `writing::pen::Pen::field` meets its contract.
use Rattle.writing.proofs.PutBits.{waiting_lt, inside, byte_fits, puts_waiting, puts_byte}
use Rattle.writing.proofs.pen.Pen.field.Goals as goal

pub invariant_of-self-clause-fits : goal.invariant_of-self-clause-fits
invariant_of-self-clause-fits c = waiting_lt c.args.width c.args.value c.requires.room c.requires.narrow c.requires.value_fits

pub overflow_cast-self : goal.overflow_cast-self
overflow_cast-self c = record { fits = byte_fits c.args.width c.args.value c.requires.room c.requires.narrow c.requires.value_fits c.if-count-lt8.false }

pub bounds-self-self : goal.bounds-self-self
bounds-self-self c = inside c.args.width c.args.value c.requires.room c.requires.narrow c.requires.value_fits c.if-count-lt8.false

pub returns-then-count-lt8 : goal.returns-then-count-lt8
returns-then-count-lt8 c = puts_waiting c.args.width c.args.value c.requires.room c.requires.narrow c.requires.value_fits

pub returns-else-count-lt8 : goal.returns-else-count-lt8
returns-else-count-lt8 c = puts_byte c.args.width c.args.value c.requires.room c.requires.narrow c.requires.value_fits c.if-count-lt8.false
