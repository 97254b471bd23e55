-- `gates::step::whole_words` meets its contract.
use Prim.Native.Nat.{ℕ}
use native.Mathlib.Omega.{arith}
use mathlib.Core.Path.{ap, ◌∙◌}
use Rattle.bits.proofs.Splice.{written_none}
use Rattle.gates.specs.Words.{stepped}
use Rattle.gates.proofs.Words.{places_more}
use Rattle.gates.proofs.step.whole_words.Goals as goal
use Rattle.gates.proofs.step.whole_words.Goals.{then-words-eq1, else-words-eq1}

pub loop-pair-init : goal.loop-pair-init
loop-pair-init c = written_none c.requires.2

pub loop-pair-preserved : goal.loop-pair-preserved
loop-pair-preserved c =
    places_more c.args.polynomial c.args.places c.requires c.loop-pair.invariant c.further.ensures (omega arith) 16 c.two_words.ensures (omega arith) (omega arith)

pub returns-clause-done : goal.returns-clause-done
returns-clause-done c =
    let f = c.args.polynomial in
    let p = c.args.places in
    elim c.if-words-eq1.branch [
      | then-words-eq1 w ↦
          w.rows-is
          ∙ (places_more f p c.requires c.loop-pair.invariant w.further-then-words-eq1.ensures (omega arith) 8 w.one_word.ensures (omega arith) (omega arith)).so_far
      | else-words-eq1 w ↦ w.rows-is ∙ c.loop-pair.invariant.so_far ∙ ap (λ (n : ℕ). stepped f p n c.args.rows.now) (omega arith)
    ]
