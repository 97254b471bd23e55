-- `bits::read_field` meets its contract.
use native.Mathlib.Omega.{arith}
use mathlib.Core.Path.{sym}
use Rattle.bits.proofs.Fields.{field_at_cut, field_at_window, room_near, window_early, place_early}
use Rattle.bits.proofs.read_field.Goals as goal

pub returns-then-width-lt1 : goal.returns-then-width-lt1
returns-then-width-lt1 c =
    let a = c.args in
    sym (field_at_cut a.s.now a.c a.width (λ p q r. omega (arith, c.if-width-lt1.true)))

pub returns-then-width-gt-MAX_WIDTH : goal.returns-then-width-gt-MAX_WIDTH
returns-then-width-gt-MAX_WIDTH c =
    let a = c.args in
    sym (field_at_cut a.s.now a.c a.width (λ p q r. omega (arith, c.if-width-gt-MAX_WIDTH.true)))

pub returns : goal.returns
returns c =
    let a = c.args in
    let q = c.if-width-gt-MAX_WIDTH.false in
    field_at_window a.s.now a.c a.width
    (λ k. (c.type_inv.s k).fits)
    c.if-width-lt1.false
    q
    (place_early a.s.now a.c a.width c.early_bytes.ensures c.if-early_bytes-at.false)
    (room_near a.s.now a.c a.width q (window_early a.s.now a.c a.width c.early_bytes.ensures c.if-early_bytes-at.false))
    c.two_bytes.ensures
    c.bits_before.ensures
