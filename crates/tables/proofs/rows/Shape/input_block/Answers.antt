-- `tables::rows::Shape::input_block` meets its contract: bytes of one pattern for the first three inputs, else bytes that alternate.
use native.Mathlib.Omega.{arith}
use mathlib.Core.Path.{sym, ap, ◌∙◌}
use Rattle.gates.specs.Polynomial.{pattern_of}
use Rattle.gates.proofs.Tables.{pattern_rest}
use Rattle.tables.proofs.ShapedRows.{pattern_block, alternate_block}
use Rattle.tables.proofs.rows.Shape.input_block.Goals as goal
use Rattle.tables.proofs.rows.Shape.input_block.Goals.{in-0, in-1, in_default}

pub returns-after-line : goal.returns-after-line
returns-after-line c =
    let a = c.args in
    pattern_block a.self a.to a.count a.rows.now c.requires.0 a.line c.match-line.pattern c.if-line-lt3.true
    (elim c.match-line.branch [
      | in-0 w ↦ w.pattern-is ∙ ap pattern_of (sym w.in-0.is)
      | in-1 w ↦ w.pattern-is ∙ ap pattern_of (sym w.in-1.is)
      | in_default w ↦ w.pattern-is ∙ sym (pattern_rest a.line (λ e. omega arith) (λ e. omega arith))
    ])
    c.fill.ensures

pub returns-else-line-lt3 : goal.returns-else-line-lt3
returns-else-line-lt3 c =
    let a = c.args in
    alternate_block a.self a.to a.count a.rows.now c.requires.0 a.line c.if-line-lt3.false c.requires.1 c.alternate.ensures
