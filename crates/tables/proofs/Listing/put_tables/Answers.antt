-- `tables::Listing::put_tables` meets its contract: the good circuit's tables, and behind them those of the faulty circuits.
use native.Mathlib.Omega.{arith}
use mathlib.Core.Path.{refl}
use Rattle.job.specs.Layout.{max_inputs, max_gates}
use Rattle.tables.specs.Work.{max_table_bytes, block_bytes, all_row_bytes}
use Rattle.tables.proofs.Copies.{tables_put}
use Rattle.tables.proofs.Space.{rows_fewer}
use Rattle.tables.proofs.WrittenTables.{rows_block}
use Rattle.tables.proofs.Listing.put_tables.Goals as goal

pub put_good-requires : goal.put_good-requires
unfolding all_row_bytes block_bytes max_inputs max_gates max_table_bytes
put_good-requires c =
    let s = c.args.self.now in (rows_fewer (rows_block s.circuits.job.now _ s.circuits.valid refl) (omega arith), grind (arith, c.requires))

pub put_faults-requires : goal.put_faults-requires
unfolding all_row_bytes block_bytes max_inputs max_gates max_table_bytes
put_faults-requires c =
    let s = c.args.self.now in (
      rows_block s.circuits.job.now _ s.circuits.valid c.put_good.auto.rows,
      c.put_good.ensures.0,
      grind (arith, c.requires),
    )

pub returns : goal.returns
returns c = let s = c.args.self.now in tables_put s.circuits.job.now s.asked.now c.args.out.now c.requires c.put_good.ensures.1 c.put_faults.ensures
