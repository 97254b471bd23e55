-- `choosing::put_entries` meets its contract: the entries of an index a turn.
use Prim.Native.Nat.{ℕ, ◌+◌, ◌*◌, ◌≤◌}
use native.Mathlib.Nat.{zero-add}
use native.Mathlib.Omega.{arith}
use mathlib.Core.Path.{sym, ap, subst, ◌∙◌}
use lib.ListN.{length, get_or}
use Rattle.bits.specs.Slices.{splice}
use Rattle.choosing.specs.Choosing.{outputs_at}
use Rattle.spectra.specs.Codes.{codes_of}
use Rattle.bits.proofs.Bounds.{entry_below}
use Rattle.tables.proofs.Blocks.{placed_none, placed_one, placed_more, placed_all}
use Rattle.choosing.proofs.EntryNumbers.{length_outputs, codes_at, codes_block, codes_put, part_few}
use Rattle.choosing.proofs.put_entries.Goals as goal

pub loop-i-init : goal.loop-i-init
loop-i-init c = let a = c.args in placed_none (omega (arith, c.requires.3)) (λ i _. length_outputs (get_or a.indices.now i 0) a.size a.outputs)

pub put_outputs-requires : goal.put_outputs-requires
put_outputs-requires c = (entry_below c.args.size c.args.indices.now c.loop-i.i c.requires.0 c.loop-i-test.true, c.requires.1, omega (arith, part_few (c.loop-i.i * c.args.outputs) c.args.outputs c.loop-i.codes, c.requires.2))

pub loop-i-preserved : goal.loop-i-preserved
loop-i-preserved c =
    let a = c.args in
    let at = c.loop-i.i * a.outputs in
    let index = get_or a.indices.now c.loop-i.i 0 in
    placed_more c.loop-i.invariant c.loop-i-test.true
    (codes_put at a.outputs c.loop-i.codes (λ n. codes_of a.size (outputs_at index n))
    (subst (λ (k : ℕ). k + a.outputs ≤ length c.loop-i.codes) (zero-add at) (placed_one c.loop-i.invariant c.loop-i-test.true)) (length_outputs index a.size a.outputs) c.put_outputs.ensures
    ∙ ap (λ (k : ℕ). splice c.loop-i.codes k (codes_at a.size a.outputs a.indices.now c.loop-i.i)) (sym (zero-add at)))

pub returns : goal.returns
returns c = let a = c.args in placed_all c.loop-i.invariant c.loop-i-test.false ∙ ap (splice a.codes.now 0) (codes_block a.size a.outputs a.indices.now)
