-- `tables::evaluator::Circuits::gate_block` meets its contract: the blocks of the lines that the gate reads stand before its own.
use Prim.Native.Nat.{ℕ, ◌*◌}
use mathlib.Core.Path.{ap, ◌∙◌}
use Rattle.job.specs.Record.{gate_a, gate_b}
use Rattle.tables.specs.Work.{row_of}
use Rattle.tables.proofs.Polynomials.{form_read}
use Rattle.tables.proofs.ShapedRows.{gate_stepped}
use Rattle.tables.proofs.evaluator.Circuits.gate_block.Goals as goal

pub returns : goal.returns
returns c =
    let a = c.args in
    gate_stepped a.batch a.line (gate_a a.gate) (gate_b a.gate) a.self.now.shape.bytes a.rows.now c.requires.0 c.requires.1 c.requires.2
    (c.block_place-x.ensures ∙ ap (λ (l : ℕ). row_of a.batch l * a.self.now.shape.bytes) c.first.ensures) (c.block_place-y.ensures ∙ ap (λ (l : ℕ). row_of a.batch l * a.self.now.shape.bytes) c.second.ensures) c.block_place-to.ensures
    (form_read a.self.now.shape.mask a.self.now.polynomials a.self.now.formed a.gate c.kind.ensures) c.combine.ensures
