-- `chooser::Signature::of` meets its contract.
use Rattle.std.proofs.Common.{sym}
use Rattle.std.proofs.lemmas.List.{length-take-le}
use Rattle.chooser.specs.Matrix.{max_signature, zeros}
use Rattle.chooser.proofs.Alignment.{aligned}
use Rattle.chooser.proofs.Signature.of.Goals as goal

pub slice_bounds-entries-end : goal.slice_bounds-entries-end
unfolding max_signature
slice_bounds-entries-end c = c.requires

pub slice_bounds-copy_from_slice-end : goal.slice_bounds-copy_from_slice-end
unfolding max_signature
slice_bounds-copy_from_slice-end c = sym (length-take-le _ _ c.requires)

pub copy_from_slice-requires : goal.copy_from_slice-requires
unfolding max_signature
copy_from_slice-requires c = length-take-le _ _ c.requires

pub returns : goal.returns
unfolding max_signature zeros
returns c = aligned c.args.kept.now c.copy_from_slice.ensures.after
