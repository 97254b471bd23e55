-- `spectra::transform::transform` meets its contract. Its measure is the number of inputs. The halves come back one after the other, and combined they are the spectrum.
use Prim.Native.Nat.{◌-◌, ◌/◌}
use native.Mathlib.Omega.{arith}
use lib.ListN.{length}
use Rattle.spectra.proofs.Recursion.{half_size, Halved, halved_at, top_le, other_le, down, inner_asked, front_inside, back_size, combine_asked, transformed, transformed_one}
use Rattle.spectra.proofs.transform.+transform.Goals as goal
use Rattle.spectra.proofs.transform.+transform.Goals.{In_default}

pub returns-in-0 : goal.returns-in-0
returns-in-0 t c = let a = c.args in transformed_one a.table.now a.out.now a.at a.n a.k c.entry_at.result c.in-0.is c.requires.room c.requires.polarity c.entry_at.ensures

-- the table is halved
halves : (t : _) (c : In_default t) → let a = c.args in Halved a.out.now a.sums.now (length a.table.now) a.at a.n a.k (half_size a.n)
halves t c = let a = c.args in halved_at a.out.now a.sums.now (length a.table.now) a.at a.n a.k c.requires (omega arith)

pub split_at_mut-lower-requires : goal.split_at_mut-lower-requires
split_at_mut-lower-requires t c = front_inside (halves t (goal.at.split_at_mut-lower-requires t c).In_default)

pub transform-requires : goal.transform-requires
transform-requires t c =
    let a = c.args in
    let p = halves t (goal.at.transform-requires t c).In_default in
    (down p.some c.decreases, inner_asked p (a.k / half_size a.n) (top_le p) c.split_at_mut-lower.ensures.front_len)

pub overflow_sub-top : goal.overflow_sub-top
overflow_sub-top t c = top_le (halves t (goal.at.overflow_sub-top t c).In_default)

pub transform-requires-in_default : goal.transform-requires-in_default
transform-requires-in_default t c =
    let a = c.args in
    let p = halves t (goal.at.transform-requires-in_default t c).In_default in
    (down p.some c.decreases, inner_asked p (1 - a.k / half_size a.n) (other_le p) (back_size p c.split_at_mut-lower.ensures.back_len))

pub combine-requires : goal.combine-requires
combine-requires t c = combine_asked c.args.table.now (halves t (goal.at.combine-requires t c).In_default) _ _ c.transform.ensures c.transform-in_default.ensures

pub returns-in_default : goal.returns-in_default
returns-in_default t c = transformed c.args.table.now (halves t (goal.at.returns-in_default t c).In_default) _ _ c.transform.ensures c.transform-in_default.ensures _ c.combine.ensures
