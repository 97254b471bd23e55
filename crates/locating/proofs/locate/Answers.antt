-- `locate` meets its contract: the tables are delivered, or reading refuses.
use Prim.Native.Nat.{ℕ}
use mathlib.Core.Path.{◌∙◌}
use mathlib.Core.List.{List}
use lib.ListN.{replicate, length-replicate}
use Rattle.std.proofs.lemmas.Result.{err_from_is_err_and}
use Rattle.job.specs.Layout.{max_outputs, max_faults}
use Rattle.tables.specs.Work.{max_table_bytes}
use Rattle.tables.proofs.Families.{Delivers, tables_deliver, delivery_unread}
use Rattle.locating.proofs.Families.{located_unread, located_delivered}
use Rattle.locating.proofs.locate.Goals as goal
use Rattle.locating.proofs.locate.Goals.{In_ok-delivery}

-- the memory that is lent for the tables
abbrev zeros : List ℕ
zeros = replicate 8192 0

pub returns-in_err-delivery : goal.returns-in_err-delivery
unfolding max_faults max_outputs max_table_bytes
returns-in_err-delivery c =
    let p = err_from_is_err_and c.from_residual.result c.from_residual.ensures.1 in
    let a = c.args in
    rw (p.1, p.2)
    (located_unread a.bytes.now a.kind a.polarity a.indices.now a.outputs.now a.readings.now a.work.now
    (delivery_unread a.bytes.now zeros c.tables.new.out c.in_err-delivery.ensures (length-replicate {A = ℕ} 8192 0)))

delivers : (c : In_ok-delivery) → Delivers c.args.bytes.now c.in_ok-delivery.delivery c.tables.new.out
delivers c = tables_deliver c.args.bytes.now zeros c.tables.new.out c.in_ok-delivery.ensures

pub returns : goal.returns
returns c =
    let a = c.args in
    c.locate_tables.ensures
    ∙ located_delivered a.bytes.now a.kind a.polarity a.indices.now a.outputs.now a.readings.now a.work.now (delivers (goal.at.returns c).In_ok-delivery)
