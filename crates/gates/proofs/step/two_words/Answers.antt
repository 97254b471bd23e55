-- `gates::step::two_words` meets its contract.
use Prim.Native.Nat.{ℕ, ◌+◌}
use mathlib.Core.Path.{ap, ◌∙◌}
use mathlib.Core.List.{List}
use Rattle.bits.specs.Slices.{splice}
use Rattle.gates.specs.Words.{bytes_of}
use Rattle.gates.proofs.Words.{word_stepped, words_put}
use Rattle.gates.proofs.step.two_words.Goals as goal

pub returns : goal.returns
returns c =
    let rows = c.args.rows.now in
    let p = c.args.places in
    let f = c.args.polynomial in
    c.put-2.ensures ∙ ap (λ (l : List ℕ). splice l (p.to + 8) (bytes_of c.word_step-other.result)) c.put.ensures
    ∙ words_put f p.x p.y p.to rows c.requires.2
    (word_stepped f p.x p.y rows c.at.ensures c.at-2.ensures c.word_step-one.ensures)
    (word_stepped f (p.x + 8) (p.y + 8) rows c.at-3.ensures c.at-4.ensures c.word_step-other.ensures)
