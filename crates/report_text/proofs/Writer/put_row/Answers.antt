-- `report_text::Writer::put_row` meets its contract.
use native.Mathlib.Omega.{arith}
use mathlib.Core.Path.{◌≡◌}
use Prim.Native.Nat.{◌+◌, ◌*◌, ◌^◌, ◌<◌}
use Rattle.bits.proofs.TableSizes.{table_size_exact}
use Rattle.job.proofs.Sizes.{inputs_few}
use Rattle.locating.proofs.Scans.{row_end, row_wide}
use lib.ListN.{length, length-append}
use Rattle.report_text.proofs.Pieces.{Listed, listed, listed_all, row_inside, number_listed, begun_none, begun_room, begun_more, begun_all, row_grows}
use Rattle.report_text.proofs.Writer.put_row.Goals as goal
use Rattle.report_text.proofs.Writer.put_row.Goals.{After-table_size-size, In-Some}

-- so many coefficients an output
sized : (c : After-table_size-size) → c.table_size-size.result ≡ 2 ^ c.args.rows.now.counts.inputs
sized c = table_size_exact (inputs_few c.args.rows.now.in_work.inputs_few) c.table_size-size.ensures

pub overflow_mul-start : goal.overflow_mul-start
overflow_mul-start c =
    omega (arith, row_wide c.args.rows.now.in_work (sized (goal.at.overflow_mul-start c).After-table_size-size))

pub overflow_mul-start-2 : goal.overflow_mul-start-2
overflow_mul-start-2 c =
    omega (arith, row_end c.args.rows.now.in_work (sized (goal.at.overflow_mul-start-2 c).After-table_size-size) c.requires.0)

pub loop-index-init : goal.loop-index-init
loop-index-init c =
    begun_none (row_grows c.args.rows.now c.args.c (sized (goal.at.loop-index-init c).After-table_size-size)) c.args.self.now c.requires.1

turn : (c : In-Some) → Listed c.args.rows.now (length c.loop-index.yielded) c.in-Some.index.now c.in-Some.output.now
turn c =
    let zip = c.zip-index-items.ensures in
    let start = c.into_iter-index-iterator in
    listed c.args.rows.now start.result c.loop-index.index-iterator c.next.new.self c.loop-index.yielded start.ensures.into_iter_gives zip.first
    c.iter.ensures.rest zip.second.0 c.loop-index.yielded_by c.next.ensures.steps c.in-Some.is

inside : (c : In-Some) (size : c.table_size-size.result ≡ 2 ^ c.args.rows.now.counts.inputs)
    → c.args.c * (c.args.rows.now.counts.outputs * c.table_size-size.result) + (c.in-Some.output.now * c.table_size-size.result + c.in-Some.index.now) < length c.args.rows.now.work.now
inside c size = row_inside c.args.rows.now c.args.c size (turn c) c.requires.0

pub overflow_mul-place : goal.overflow_mul-place
overflow_mul-place c =
    let at = goal.at.overflow_mul-place c in
    omega (arith, inside at.In-Some (sized at.After-table_size-size))

pub overflow_add-place : goal.overflow_add-place
overflow_add-place c =
    let at = goal.at.overflow_add-place c in
    omega (arith, inside at.In-Some (sized at.After-table_size-size))

pub overflow_add-start : goal.overflow_add-start
overflow_add-start c =
    let at = goal.at.overflow_add-start c in
    omega (arith, inside at.In-Some (sized at.After-table_size-size))

pub offset_bounds-rows-start : goal.offset_bounds-rows-start
offset_bounds-rows-start c =
    let at = goal.at.offset_bounds-rows-start c in
    omega (arith, inside at.In-Some (sized at.After-table_size-size))

pub bounds-rows-start : goal.bounds-rows-start
bounds-rows-start c =
    let at = goal.at.bounds-rows-start c in
    inside at.In-Some (sized at.After-table_size-size)

pub put_number-requires : goal.put_number-requires
put_number-requires c =
    let at = goal.at.put_number-requires c in
    let size = sized at.After-table_size-size in
    let t = turn at.In-Some in
    begun_room (row_grows c.args.rows.now c.args.c size) c.loop-index.invariant t.more (number_listed c.args.rows.now c.args.c size t)

pub loop-index-preserved : goal.loop-index-preserved
loop-index-preserved c =
    let at = goal.at.loop-index-preserved c in
    let size = sized at.After-table_size-size in
    let t = turn at.In-Some in
    begun_more (row_grows c.args.rows.now c.args.c size) c.loop-index.invariant (length-append c.loop-index.yielded _) t.more
    (number_listed c.args.rows.now c.args.c size t) c.put_number.ensures

pub returns : goal.returns
returns c =
    let zip = c.zip-index-items.ensures in
    let start = c.into_iter-index-iterator in
    begun_all (row_grows c.args.rows.now c.args.c (sized (goal.at.returns c).After-table_size-size)) c.loop-index.invariant
    (listed_all c.args.rows.now start.result c.loop-index.index-iterator c.next.new.self c.loop-index.yielded start.ensures.into_iter_gives zip.first
    c.iter.ensures.rest zip.second.0 c.loop-index.yielded_by c.next.ensures.steps c.in-None.is)
