-- `chooser::kept::Kept::push` meets its contract: the entry stands before the others.
use Rattle.std.proofs.Common.{arith, ◌∙◌, ◌≤◌, ◌≡◌, ◌∷◌, ap, drop, length, length-drop}
use Rattle.chooser.specs.Matrix.{max_signature}
use Rattle.chooser.proofs.Alignment.{kept_push}
use Rattle.chooser.proofs.kept.Kept.push.Goals as goal
use Rattle.chooser.proofs.kept.Kept.push.Goals.{After-self}

room : (c : goal.After-self) → 1 ≤ c.self.inside.start
unfolding max_signature
room c =
    let few : length (drop c.self.inside.start c.self.inside.entries) ≡ length c.args.self.now = ap length c.self.view_is in
    omega (arith, length-drop c.self.inside.start c.self.inside.entries)

pub overflow_sub-self : goal.overflow_sub-self
overflow_sub-self c = room c

pub returns : goal.returns
returns c =
    let some = room (goal.at.returns c).After-self in
    kept_push c.self.inside.entries c.args.entry _ c.self.inside.start (omega arith) (omega arith)
    ∙ ap (λ l. c.args.entry ∷ l) c.self.view_is
