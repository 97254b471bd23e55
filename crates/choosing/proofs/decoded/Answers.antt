-- `choosing::decoded` meets its contract: a number taken apart a turn.
use Prim.Native.Nat.{ℕ, ◌/◌, ◌%◌, ◌^◌, ◌≤◌}
use native.Mathlib.Nat.{zero-div, zero-mod}
use native.Mathlib.Omega.{arith}
use mathlib.Core.Path.{◌≡◌, sym, ap, ap₂, ◌∙◌}
use mathlib.Core.List.{List, map}
use lib.ListN.{length, get_or, replicate, length-replicate}
use Rattle.job.proofs.Sizes.{inputs_few}
use Rattle.bits.specs.Packed.{tabulate}
use Rattle.bits.proofs.Splice.{Written, written_none, filled_more, filled_all}
use Rattle.chooser.specs.Matrix.{max_signature}
use Rattle.choosing.proofs.EntryNumbers.{size_shifted, size_some, decoded_map}
use Rattle.choosing.proofs.Sizes.{shift_fits}
use Rattle.choosing.proofs.decoded.Goals as goal

pub overflow_cast-size : goal.overflow_cast-size
overflow_cast-size c = omega (arith, inputs_few c.requires)

pub overflow_shl-size : goal.overflow_shl-size
overflow_shl-size c = shift_fits c.requires

pub nonzero_rem-indices : goal.nonzero_rem-indices
nonzero_rem-indices c = size_some c.args.n c.requires

pub nonzero_div-outputs : goal.nonzero_div-outputs
nonzero_div-outputs c = size_some c.args.n c.requires

pub loop-i-init : goal.loop-i-init
unfolding max_signature
loop-i-init c = (written_none (omega arith), written_none (omega arith))

pub loop-i-preserved : goal.loop-i-preserved
unfolding max_signature
loop-i-preserved c =
    let code = get_or c.args.coded.entries c.loop-i.i 0 in (
      filled_more c.loop-i.invariant.0 _ c.loop-i-test.true (ap (λ (k : ℕ). code % k) (size_shifted c.args.n c.requires)),
      filled_more c.loop-i.invariant.1 _ c.loop-i-test.true (ap (λ (k : ℕ). code / k) (size_shifted c.args.n c.requires)),
    )

-- the numbers, each taken apart
parts : (f : ℕ → ℕ) (codes l : List ℕ) (i : ℕ) → f 0 ≡ 0 → length codes ≡ max_signature
    → Written (replicate max_signature 0) 0 max_signature (λ p. f (get_or codes p 0)) l i → max_signature ≤ i → l ≡ map f codes
parts f codes l i z long w h =
    filled_all w (length-replicate max_signature 0) h ∙ ap (λ (k : ℕ). tabulate k (λ p. f (get_or codes p 0))) (sym long) ∙ decoded_map f codes z

pub returns : goal.returns
unfolding max_signature
returns c =
    let a = c.args in
    ap₂ (λ (is os : List ℕ). record { count = a.coded.count; indices = is; outputs = os })
    (parts (λ e. e % 2 ^ a.n) a.coded.entries _ c.loop-i.i (zero-mod (2 ^ a.n)) (omega arith) c.loop-i.invariant.0 c.loop-i-test.false)
    (parts (λ e. e / 2 ^ a.n) a.coded.entries _ c.loop-i.i (zero-div (2 ^ a.n)) (omega arith) c.loop-i.invariant.1 c.loop-i-test.false)
