-- `papers::words::decimal_of` meets its contract: the value so far is a number of 16 bits.
use Rattle.std.proofs.Common.{◌≤◌}
use Rattle.papers.proofs.words.decimal_of.Given as goal

abbrev pub invariant-loop-character : goal.invariant-loop-character
invariant-loop-character l = l.value ≤ 65535
