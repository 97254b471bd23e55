-- `spectra::transform::four` meets its contract: the spectra of two bytes, combined.
use Prim.Native.Nat.{◌+◌, ◌-◌, ◌*◌, ◌/◌, ◌%◌}
use mathlib.Core.Path.{refl}
use lib.Dec.{lit≤}
use lib.ListN.{length}
use Rattle.spectra.proofs.Recursion.{Halved, halved, top_le, other_le, inner_asked, back_size, combine_asked, transformed}
use Rattle.spectra.specs.Recursion.{Asks}
use Rattle.spectra.proofs.transform.four.Goals as goal
use Rattle.spectra.proofs.transform.four.Goals.{After-split_at_mut-lower}

-- the table is halved, and so what is asked of each half
halves : (c : After-split_at_mut-lower) → let a = c.args in Halved a.out.now a.sums.now (length a.table.now) a.at 4 a.k 8
halves c = let a = c.args in halved a.out.now a.sums.now (length a.table.now) a.at 4 a.k c.requires (lit≤ tt) refl

lower_asked : (c : After-split_at_mut-lower) → let a = c.args in Asks (length c.split_at_mut-lower.result.0.now) a.sums.now (length a.table.now) (a.at + a.k / 8 * 8) 3 (a.k % 8)
lower_asked c = let p = halves c in inner_asked p (c.args.k / 8) (top_le p) c.split_at_mut-lower.ensures.front_len

upper_asked : (c : After-split_at_mut-lower) → let a = c.args in Asks (length c.split_at_mut-lower.result.1.now) a.sums.now (length a.table.now) (a.at + (1 - a.k / 8) * 8) 3 (a.k % 8)
upper_asked c = let p = halves c in inner_asked p (1 - c.args.k / 8) (other_le p) (back_size p c.split_at_mut-lower.ensures.back_len)

pub leaf-requires : goal.leaf-requires
leaf-requires c = record { polarity = c.args.k % 8; asks = lower_asked (goal.at.leaf-requires c).After-split_at_mut-lower }

pub leaf-requires-2 : goal.leaf-requires-2
leaf-requires-2 c = record { polarity = c.args.k % 8; asks = upper_asked (goal.at.leaf-requires-2 c).After-split_at_mut-lower }

pub combine-requires : goal.combine-requires
combine-requires c =
    let s = (goal.at.combine-requires c).After-split_at_mut-lower in
    combine_asked c.args.table.now (halves s) _ _ (c.leaf.ensures _ (lower_asked s)) (c.leaf-2.ensures _ (upper_asked s))

pub returns : goal.returns
returns c =
    let s = (goal.at.returns c).After-split_at_mut-lower in
    transformed c.args.table.now (halves s) _ _ (c.leaf.ensures _ (lower_asked s)) (c.leaf-2.ensures _ (upper_asked s)) _ c.combine.ensures
