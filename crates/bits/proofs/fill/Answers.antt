-- `bits::fill` meets its contract.
use Rattle.std.proofs.Common.{ℕ, ◌≡◌, ◌≤◌, ◌+◌, ◌-◌, ◌∙◌, sym, ap, length, take, drop, replicate, arith, length-drop}
use Rattle.std.proofs.lemmas.Grind.{common_steps}
use borrow.Author.Tests.{leb-true}
use lib.ListN.{length-take}
use Rattle.bits.specs.Packed.{tabulate}
use Rattle.bits.proofs.Packed.{tabulate_constant, length_tabulate}
use Rattle.bits.proofs.fill.Goals as goal

pub returns : goal.returns
returns c =
    let a = c.args in
    let room : a.to + a.count ≤ length a.rows.now = leb-true _ _ (sym c.has_room.ensures ∙ c.if-not-has_room.false) in
    let part : length (take (a.to + a.count - a.to) (drop a.to a.rows.now)) ≡ a.count = simp (length-take, length-drop) (omega arith) in
    let filled : c.fill.new.self ≡ tabulate a.count (λ (i : ℕ). a.byte) =
    c.fill.ensures.after (λ y h. h) ∙ ap (λ (k : ℕ). replicate k a.byte) part ∙ sym (tabulate_constant a.count a.byte) in
    grind (arith, common_steps, filled, length_tabulate)
