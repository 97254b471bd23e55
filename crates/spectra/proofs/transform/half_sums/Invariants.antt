-- `spectra::transform::half_sums` meets its contract: the rows of the first half bytes are written.
use Rattle.std.proofs.Common.{◌≡◌, ℕ, ◌<◌, [], length, get_or}
use Rattle.spectra.specs.Recursion.{byte_sums, half_byte}
use Rattle.spectra.proofs.transform.half_sums.Given as goal

abbrev pub invariant-loop-i : goal.invariant-loop-i
invariant-loop-i l = record { rows : length l.sums ≡ 32; so_far : (j : ℕ) → j < l.i → get_or l.sums j [] ≡ byte_sums l.k (half_byte j) }
