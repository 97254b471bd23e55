-- `report_text::Writer::put_entries` meets its contract.
use lib.ListN.{length, length-append}
use Rattle.report_text.proofs.Pieces.{Listed, listed, listed_all, entry_listed, begun_none, begun_room, begun_more, begun_all, entries_grow}
use Rattle.report_text.proofs.Writer.put_entries.Goals as goal
use Rattle.report_text.proofs.Writer.put_entries.Goals.{In-Some}

pub loop-index-init : goal.loop-index-init
loop-index-init c = begun_none (entries_grow c.args.rows.now) c.args.self.now c.requires

turn : (c : In-Some) → Listed c.args.rows.now (length c.loop-index.yielded) c.in-Some.index.now c.in-Some.output.now
turn c =
    let zip = c.zip-index-items.ensures in
    let start = c.into_iter-index-iterator in
    listed c.args.rows.now start.result c.loop-index.index-iterator c.next.new.self c.loop-index.yielded start.ensures.into_iter_gives zip.first
    c.iter.ensures.rest zip.second.0 c.loop-index.yielded_by c.next.ensures.steps c.in-Some.is

pub put_entry-requires : goal.put_entry-requires
put_entry-requires c =
    let t = turn (goal.at.put_entry-requires c).In-Some in
    begun_room (entries_grow c.args.rows.now) c.loop-index.invariant t.more (entry_listed c.args.rows.now t)

pub loop-index-preserved : goal.loop-index-preserved
loop-index-preserved c =
    let t = turn (goal.at.loop-index-preserved c).In-Some in
    begun_more (entries_grow c.args.rows.now) c.loop-index.invariant (length-append c.loop-index.yielded _) t.more (entry_listed c.args.rows.now t) c.put_entry.ensures

pub returns : goal.returns
returns c =
    let zip = c.zip-index-items.ensures in
    let start = c.into_iter-index-iterator in
    begun_all (entries_grow c.args.rows.now) c.loop-index.invariant
    (listed_all c.args.rows.now start.result c.loop-index.index-iterator c.next.new.self c.loop-index.yielded start.ensures.into_iter_gives zip.first
    c.iter.ensures.rest zip.second.0 c.loop-index.yielded_by c.next.ensures.steps c.in-None.is)
