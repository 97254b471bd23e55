-- `bits::table_size` meets its contract.
use Rattle.bits.proofs.TableSizes.{table_size_none, table_size_some}
use Rattle.bits.proofs.table_size.Goals as goal

pub returns-then-n-ge-WORD_BITS : goal.returns-then-n-ge-WORD_BITS
returns-then-n-ge-WORD_BITS c = table_size_none c.if-n-ge-WORD_BITS.true

pub returns : goal.returns
returns c = table_size_some c.if-n-ge-WORD_BITS.false
