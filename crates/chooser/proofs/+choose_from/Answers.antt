-- `chooser::choose_from` meets its contract. Its measure is the number of entries that are left to look at.
use Rattle.std.proofs.Common.{◌∙◌, sym, ◌≡◌, ℕ, get_or}
use Rattle.chooser.specs.Pairing.{numbers, pair_of, keeps, puts}
use Rattle.chooser.proofs.KeptEntries.{keeps_short}
use Rattle.chooser.proofs.Recursion.{keeps_none, keeps_step, keeps_start, put_goes, put_stays, put_room, put_leaves}
use Rattle.chooser.proofs.+choose_from.Goals as goal
use Rattle.chooser.proofs.+choose_from.Goals.{In-Some, After-choose_from}

module _ (t : ℕ) (c : goal.After-choose_from t) where
  step : keeps (numbers c.args.matrix) (pair_of c.args.pairs.now) (pair_of c.args.rest.now) c.args.scan.now
      ≡ puts (numbers c.args.matrix) (pair_of c.args.pairs.now) (pair_of c.args.rest.now) (get_or c.args.scan.now c.in-Some.at 0) c.choose_from.new.kept
  step =
      keeps_step (numbers c.args.matrix) c.args.pairs.now c.args.rest.now c.args.scan.now c.in-Some.at (sym c.next.ensures ∙ c.in-Some.is)
      c.refine.ensures c.choose_from.ensures.kept

pub returns-in_default-clause-kept : goal.returns-in_default-clause-kept
returns-in_default-clause-kept t c =
    c.requires.none
    ∙ sym (keeps_none (numbers c.args.matrix) (pair_of c.args.pairs.now) (pair_of c.args.rest.now) c.args.scan.now (sym c.next.ensures ∙ c.in_default.is))

pub returns-in_default-clause-left : goal.returns-in_default-clause-left
returns-in_default-clause-left t c = keeps_start (numbers c.args.matrix) c.args.rest.now c.requires.none

pub push-requires : goal.push-requires
push-requires t c =
    let coef = numbers c.args.matrix in
    put_room coef c.choose_from.new.kept c.choose_from.ensures.left c.args.pairs.now _ c.is_apart_from.ensures c.if-not-is_apart_from.true
    (step t (goal.at.push-requires t c).After-choose_from) (keeps_short coef (pair_of c.args.pairs.now) (pair_of c.args.rest.now) c.args.scan.now)

pub returns-then-not-is_apart_from-clause-kept : goal.returns-then-not-is_apart_from-clause-kept
returns-then-not-is_apart_from-clause-kept t c =
    c.push.ensures
    ∙ put_stays (numbers c.args.matrix) c.choose_from.new.kept c.choose_from.ensures.left c.args.pairs.now _ c.is_apart_from.ensures c.if-not-is_apart_from.true
    ∙ sym (step t (goal.at.returns-then-not-is_apart_from-clause-kept t c).After-choose_from)

pub returns-then-not-is_apart_from-clause-left : goal.returns-then-not-is_apart_from-clause-left
returns-then-not-is_apart_from-clause-left t c =
    rw c.push.ensures (put_leaves (numbers c.args.matrix) c.choose_from.new.kept c.choose_from.ensures.left _ c.refine-then-not-is_apart_from.ensures)

pub returns-else-not-is_apart_from-clause-kept : goal.returns-else-not-is_apart_from-clause-kept
returns-else-not-is_apart_from-clause-kept t c =
    put_goes (numbers c.args.matrix) c.choose_from.new.kept c.choose_from.ensures.left c.args.pairs.now _ c.is_apart_from.ensures c.if-not-is_apart_from.false
    ∙ sym (step t (goal.at.returns-else-not-is_apart_from-clause-kept t c).After-choose_from)
