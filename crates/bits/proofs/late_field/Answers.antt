-- `bits::late_field` meets its contract.
use mathlib.Core.Path.{sym}
use Rattle.bits.proofs.Fields.{field_at_far, field_at_short, field_at_window}
use Rattle.bits.proofs.late_field.Goals as goal

pub returns-then-bit-gt-MAX_PLACE : goal.returns-then-bit-gt-MAX_PLACE
returns-then-bit-gt-MAX_PLACE c =
    let a = c.args in
    sym (field_at_far a.s.now a.c a.width c.if-bit-gt-MAX_PLACE.true)

pub returns-then-s-at : goal.returns-then-s-at
returns-then-s-at c =
    let a = c.args in
    sym (field_at_short a.s.now a.c a.width c.if-s-at.true)

pub returns : goal.returns
returns c =
    let start = c.before.before.before.before.before in
    let a = start.args in
    field_at_window a.s.now a.c a.width
    (λ k. (c.type_inv.s k).fits)
    start.requires.0
    start.requires.1
    c.if-bit-gt-MAX_PLACE.false
    c.if-s-at.false
    c.last_bytes.ensures
    c.bits_before.ensures
