-- `reading::next_field` meets its contract.
use mathlib.Core.Path.{sym, ap, ◌∙◌}
use Rattle.bits.specs.declared.Cursor.{Cursor}
use Rattle.bits.proofs.Fields.{field_found, field_value, field_lt}
use Rattle.reading.proofs.Steps.{field_inside, field_missing}
use Rattle.reading.proofs.next_field.Goals as goal

pub returns-in_default-clause-told : goal.returns-in_default-clause-told
returns-in_default-clause-told c =
    let a = c.args in
    sym (field_missing a.bytes.now a.at a.width c.requires.wide c.requires.near (sym c.read_field.ensures ∙ c.in_default.is))

pub returns-clause-told : goal.returns-clause-told
returns-clause-told c =
    let a = c.args in
    sym (field_value a.bytes.now a.at a.width _ _ (sym c.in-Some.ensures))

pub returns-clause-fits : goal.returns-clause-fits
returns-clause-fits c = let a = c.args in field_lt a.bytes.now a.at a.width _ _ (sym c.in-Some.ensures)

pub returns-clause-inside : goal.returns-clause-inside
returns-clause-inside c =
    let a = c.args in
    field_inside a.bytes.now a.at a.width _ _ c.requires.wide (sym c.in-Some.ensures)

pub returns-clause-behind : goal.returns-clause-behind
returns-clause-behind c =
    let a = c.args in
    sym (ap (λ (x : Cursor). x.bit) (field_found a.bytes.now a.at a.width _ _ (sym c.in-Some.ensures)).behind)
