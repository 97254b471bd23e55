-- `chooser::choose_fit` meets its contract.
use Rattle.std.proofs.lemmas.Grind.{common_steps}
use Rattle.std.proofs.Common.{arith, ◌≤◌, ◌≡◌, ◌∙◌, ap}
use Rattle.std.specs.Prelude.{Result, Ok}
use Rattle.method.specs.Method.{Pair, first_pair}
use Rattle.chooser.specs.Matrix.{max_rows, fits, signature_of, choice_by, choice}
use Rattle.chooser.specs.Pairing.{pair_of}
use Rattle.chooser.specs.declared.Signature.{Signature}
use Rattle.chooser.specs.declared.Untold.{Untold}
use Rattle.chooser.proofs.Conclusion.{choice_kept}
use Rattle.chooser.proofs.choose_fit.Goals as goal
use Rattle.chooser.proofs.choose_fit.Goals.{After-choose_from}

module _ (c : goal.After-choose_from) where
  kept_lem : {r : Result Signature Untold} → r ≡ choice_by (first_pair max_rows (pair_of c.choose_from.new.rest)) c.choose_from.new.kept
      → r ≡ choice c.args.matrix.work.now c.args.matrix.width c.args.rows c.args.marks.now c.args.scan.now
  unfolding fits
  kept_lem e =
      let most : c.args.rows ≤ max_rows = grind (arith, common_steps) in
      let m = c.args.matrix in
      choice_kept m.work.now m.width c.args.rows c.args.marks.now c.args.scan.now c.requires.0 c.requires.1
      most c.new-pairs.ensures c.choose_from.ensures.kept c.choose_from.ensures.left e

pub returns-in-Some : goal.returns-in-Some
returns-in-Some c = kept_lem (goal.at.returns-in-Some c).After-choose_from (ap (λ (p : Pair). choice_by p c.choose_from.new.kept) c.in-Some.ensures)

pub returns : goal.returns
returns c =
    kept_lem (goal.at.returns c).After-choose_from
    (ap Ok (c.of-signature.ensures ∙ ap signature_of c.as_slice.ensures.0) ∙ ap (λ (p : Pair). choice_by p c.choose_from.new.kept) c.in_default.ensures)
