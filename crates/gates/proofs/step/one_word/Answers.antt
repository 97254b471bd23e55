-- `gates::step::one_word` meets its contract.
use mathlib.Core.Path.{ap, ◌∙◌}
use Rattle.bits.specs.Slices.{splice}
use Rattle.gates.proofs.Words.{word_stepped}
use Rattle.gates.proofs.step.one_word.Goals as goal

pub returns : goal.returns
returns c =
    let rows = c.args.rows.now in
    let p = c.args.places in
    c.put.ensures ∙ ap (splice rows p.to) (word_stepped c.args.polynomial p.x p.y rows c.at.ensures c.at-2.ensures c.word_step-word.ensures)
