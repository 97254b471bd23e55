-- `tables::rows::Shape::fix_row` meets its contract: a stuck line's table is its level, that of bridged lines comes from the good circuit's rows, which
-- stand before it.
use Prim.Native.Nat.{ℕ}
use mathlib.Core.Path.{sym, ap, ◌∙◌}
use mathlib.Core.Bool.{Bool, cond}
use Rattle.tables.proofs.ShapedRows.{fixed_stuck, fixed_bridge}
use Rattle.tables.proofs.rows.Shape.fix_row.Goals as goal
use Rattle.tables.proofs.rows.Shape.fix_row.Goals.{then-level, else-level}

pub returns-after-level : goal.returns-after-level
returns-after-level c =
    let a = c.args in
    let pick : Bool → ℕ = λ b. cond b a.self.mask 0 in
    fixed_stuck a.self a.to a.rows.now a.fault c.requires c.in-Stuck.field-0 c.in-Stuck.level c.in-Stuck.is
    (elim c.if-level.branch [ then-level w ↦ w.byte-is ∙ ap pick (sym w.if-level.true) | else-level w ↦ w.byte-is ∙ ap pick (sym w.if-level.false) ])
    c.fill.ensures

pub returns-in-Bridge : goal.returns-in-Bridge
returns-in-Bridge c =
    let a = c.args in
    fixed_bridge a.self a.to a.rows.now a.fault c.requires c.in-Bridge.low c.in-Bridge.high c.in-Bridge.is_and c.in-Bridge.is c.bridge_polynomial-polynomial.result c.bridge_polynomial-polynomial.ensures c.combine.ensures
