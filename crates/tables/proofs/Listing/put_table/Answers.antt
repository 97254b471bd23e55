-- `tables::Listing::put_table` meets its contract: the good circuit's tables, or those of a batch of one circuit.
use Prim.Native.Nat.{◌≤◌}
use native.Mathlib.Omega.{arith}
use mathlib.Core.Path.{refl}
use Rattle.job.specs.Layout.{max_inputs, max_gates}
use Rattle.tables.specs.Work.{max_table_bytes, row_bytes}
use Rattle.tables.proofs.Copies.{single_put}
use Rattle.tables.proofs.Space.{rows_fewer, faulty_stands}
use Rattle.tables.proofs.WrittenTables.{rows_one}
use Rattle.tables.proofs.Listing.put_table.Goals as goal

pub put_good-requires : goal.put_good-requires
unfolding row_bytes max_inputs max_gates max_table_bytes
put_good-requires c = let s = c.args.self.now in (rows_fewer (rows_one s.circuits.job.now _ s.circuits.valid refl) (omega arith), c.requires.1)

pub put_batch-requires : goal.put_batch-requires
unfolding row_bytes max_inputs max_gates max_table_bytes
put_batch-requires c =
    let s = c.args.self.now in
    let some : 1 ≤ c.args.circuit = omega (arith, c.if-circuit-ne0.true) in
    rw c.faulty.ensures (
      faulty_stands (rows_one s.circuits.job.now _ s.circuits.valid c.put_good.auto.rows) some (omega (arith, c.requires.0)),
      (λ _. c.put_good.ensures.0),
      grind (arith, c.requires),
    )

pub returns-then-circuit-ne0 : goal.returns-then-circuit-ne0
returns-then-circuit-ne0 c = let s = c.args.self.now in single_put s.circuits.job.now s.asked.now c.args.circuit c.args.out.now c.put_good.ensures.1 (rw c.faulty.ensures at c.put_batch.ensures.1)
