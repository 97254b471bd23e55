-- `chooser::kept::Kept::as_slice` meets its contract.
use Rattle.std.proofs.Common.{arith, ◌∙◌, ◌≡◌, ap, drop, length, length-drop}
use Rattle.std.proofs.Math.Seq.{take_all}
use Rattle.chooser.specs.Matrix.{max_signature}
use Rattle.chooser.proofs.kept.Kept.as_slice.Goals as goal

pub returns : goal.returns
unfolding max_signature
returns c =
    let kept = drop c.self.inside.start c.self.inside.entries in
    let few : length kept ≡ length c.args.self.now = ap length c.self.view_is in (
      take_all _ kept (omega (arith, length-drop c.self.inside.start c.self.inside.entries)) ∙ c.self.view_is,
      omega (arith, length-drop c.self.inside.start c.self.inside.entries),
    )
