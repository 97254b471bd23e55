-- `spectra::transform::half_sums` meets its contract: the rows of the first half bytes are written.
use Rattle.std.proofs.Common.{[], rules}
use Rattle.std.proofs.lemmas.List.FromFn.{fill_by_all}
use Rattle.spectra.specs.Recursion.{byte_sums, half_byte, half_sums}
use Rattle.spectra.proofs.transform.half_sums.Goals as goal

pub returns : goal.returns
unfolding half_sums
returns c = fill_by_all (λ i. byte_sums c.args.k (half_byte i)) c.loop-i.sums 32 [] c.loop-i.invariant.rows (search rules)
