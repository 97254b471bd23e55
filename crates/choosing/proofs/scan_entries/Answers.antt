-- `choosing::scan_entries` meets its contract.
use Prim.Native.Nat.{ℕ}
use mathlib.Core.Path.{refl}
use lib.ListN.{replicate}
use Rattle.job.specs.Layout.{max_inputs, max_outputs}
use Rattle.choosing.specs.Looking.{max_places, max_entries}
use Rattle.choosing.proofs.Order.{size_few}
use Rattle.choosing.proofs.EntryNumbers.{scan_within, scan_length, scan_bounded, scan_room, scan_coded}
use Rattle.choosing.proofs.scan_entries.Goals as goal

pub slice_bounds-indices-end : goal.slice_bounds-indices-end
slice_bounds-indices-end c = let a = c.args in scan_within a.n a.outputs c.requires.0 c.requires.1 c.table_size-size.ensures c.scan_order-indices.ensures

pub slice_bounds-put_entries-end-2 : goal.slice_bounds-put_entries-end-2
slice_bounds-put_entries-end-2 c = let a = c.args in scan_length a.n a.outputs c.requires.0 c.requires.1 c.table_size-size.ensures c.scan_order-indices.ensures

pub put_entries-requires : goal.put_entries-requires
unfolding max_entries max_outputs max_places max_inputs
put_entries-requires c =
    let a = c.args in
    let size = c.table_size-size.ensures in
    let listed = c.scan_order-indices.ensures in
    (scan_bounded a.n a.outputs c.requires.0 c.requires.1 size listed, size_few c.requires.0 size, c.requires.1, scan_room a.n a.outputs c.requires.0 c.requires.1 size listed refl)

pub returns : goal.returns
returns c =
    let a = c.args in
    scan_coded a.n a.outputs c.requires.0 c.requires.1 c.table_size-size.ensures c.scan_order-indices.ensures (replicate {A = ℕ} 1024 0) c.put_entries.ensures
