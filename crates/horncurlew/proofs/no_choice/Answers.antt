-- `horncurlew::no_choice` meets its contract: the arrays of an empty signature are 0.
use Rattle.std.proofs.Common.{refl}
use Rattle.chooser.specs.Matrix.{zeros, max_signature}
use Rattle.horncurlew.proofs.no_choice.Goals as goal

pub returns : goal.returns
unfolding zeros max_signature
returns c = refl
