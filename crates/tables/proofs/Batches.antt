-- Circuits worked out side by side, line after line (specs/Work.antt).
--
--   side_kept      rows before a line's block that are as they were
--   side_next      the lines before, and one more
--   gate_inside    the number of the gate that drives a line is an index of the record's gates
--   gate_first, gate_second   the gate reads lines before
--   input_blocked, gate_blocked   what the code puts for an input's line and for a gate's is the line's block
--   made_line      the block of a line is made, but for the columns that fix it
use Prim.Native.Nat.{ℕ, ◌+◌, ◌-◌, ◌*◌, ◌^◌, ◌≤◌, ◌<◌}
use native.Mathlib.Omega.{arith}
use mathlib.Core.Path.{◌≡◌, sym, ap, subst, ◌∙◌}
use mathlib.Core.Bool.{Bool, false, ◌&&◌}
use mathlib.Core.List.{List}
use borrow.Author.Count.{below_more}
use borrow.Author.Tests.{lt-ltb}
use lib.ListN.{length, get_or}
use Rattle.bits.specs.Packed.{tabulate, packed}
use Rattle.bits.specs.Sets.{has}
use Rattle.bits.proofs.Packed.{length_tabulate, length_packed}
use Rattle.job.specs.Check.{Valid}
use Rattle.job.specs.Layout.{max_gates}
use Rattle.job.specs.Record.{gate_kind, gate_a, gate_b, gate_at, lines}
use Rattle.job.specs.declared.Gate.{Gate}
use Rattle.job.specs.declared.Job.{Job}
use Rattle.gates.specs.Polynomial.{combined, kind_polynomial}
use Rattle.bits.specs.Sizes.{table_bytes}
use Rattle.bits.specs.Slices.{splice}
use Rattle.gates.specs.Values.{input_value}
use Rattle.gates.proofs.Answers.{kind_lt}
use Rattle.tables.specs.Circuit.{fixing_of}
use Rattle.bits.specs.Blocks.{block}
use Rattle.tables.specs.Sizes.{shape_of}
use Rattle.tables.specs.Work.{row_at, row_of, fixes_line, FixedIn, Unfixed, side_table, Side, Blocked, Made}
use Rattle.tables.specs.declared.evaluator.Batch.{Batch}
use Rattle.tables.specs.declared.rows.Shape.{Shape}
use Rattle.tables.proofs.Blocks.{tabulate_block, block_row, block_kept}
use Rattle.tables.proofs.Faults.{fixing_bits, fixing_other}
use Rattle.tables.proofs.LineTables.{input_table, gate_table}
use Rattle.tables.proofs.ShapedRows.{gate_columns}
use Rattle.tables.proofs.Space.{Sound, line_index, row_before, block_inside}
use Rattle.tables.proofs.Values.{first_below, second_below}

pub side_kept : (j : Job) (b : Batch) (l : ℕ) (rows after : List ℕ) → (1 ≤ b.first → lines j ≤ b.base) → Side j b l rows
    → ((k : ℕ) → k < row_of b l → row_at j k after ≡ row_at j k rows) → Side j b l after
side_kept j b l rows after behind side kept =
    record {
      good = λ h. record { line = λ k less. kept k (omega (arith, behind h)) ∙ (side.good h).line k less };
      line = λ k i less within. kept (row_of b k + i) (row_before b k l i less within) ∙ side.line k i less within;
    }

pub side_next : (j : Job) (b : Batch) (l : ℕ) (rows : List ℕ) → Side j b l rows
    → ((i : ℕ) → i < b.count → row_at j (row_of b l + i) rows ≡ side_table j b i l) → Side j b (l + 1) rows
side_next j b l rows side here =
    record {
      good = side.good;
      line = λ k i less within.
          below_more (λ (k : ℕ). row_at j (row_of b k + i) rows ≡ side_table j b i k) l (λ k before. side.line k i before within) (here i within) k less;
    }

-- the gate that drives a line
module _ {j : Job} (valid : Valid j) {l : ℕ} (h : l < lines j) (k : j.inputs ≤ l) where
  drives : j.inputs + (l - j.inputs) ≡ l
  drives = omega arith

  driver : l - j.inputs < j.gate_count
  driver = omega (arith, drives)

  pub gate_inside : l - j.inputs < max_gates
  gate_inside = omega (arith, driver, valid.gates_few)

  pub gate_first : gate_a (gate_at j (l - j.inputs)) < l
  gate_first = omega (arith, drives, first_below j valid (l - j.inputs) driver)

  pub gate_second : gate_b (gate_at j (l - j.inputs)) < l
  gate_second = omega (arith, drives, second_below j valid (l - j.inputs) driver)

-- the bytes that the gate step puts
abbrev gate_bytes : Batch → List ℕ → Gate → Shape → ℕ → ℕ
gate_bytes b rows g s = combined (kind_polynomial (gate_kind g) s.mask) (row_of b (gate_a g) * s.bytes) (row_of b (gate_b g) * s.bytes) rows

-- a block of tables of which those are right that belong to circuits that leave the line as it is
module _ {j : Job} {shape : Shape} {b : Batch} {rows : List ℕ} (sound : Sound j shape b rows) where
  blocked : {after : List ℕ} (l : ℕ) → l < lines j → (f : ℕ → List ℕ) → ((i : ℕ) → length (f i) ≡ table_bytes j.inputs) → after ≡ splice rows (row_of b l * table_bytes j.inputs) (block b.count f)
      → ((i : ℕ) → i < b.count → Unfixed (fixing_of j (b.first + i)) l → f i ≡ side_table j b i l) → Blocked j b l rows after
  blocked {after} l below f long put right =
      record {
        kept = λ k less.
            ap (row_at j k) put
            ∙ block_kept rows (row_of b l) (table_bytes j.inputs) f long b.count (block_inside sound below) k (λ i h e. omega arith);
        right = λ i h free.
            ap (row_at j (row_of b l + i)) put
            ∙ block_row rows (row_of b l) (table_bytes j.inputs) f long b.count (block_inside sound below) i h ∙ right i h free;
      }

  pub input_blocked : {l : ℕ} {after : List ℕ} → l < lines j → l < j.inputs → {to : ℕ} → to ≡ row_of b l * shape.bytes
      → after ≡ splice rows to (block b.count (λ i. packed (2 ^ shape.inputs) (λ m. input_value m l))) → Blocked j b l rows after
  input_blocked {l} below h at e =
      blocked l below (λ i. packed (2 ^ j.inputs) (λ m. input_value m l)) (λ i. length_packed (2 ^ j.inputs) (λ m. input_value m l))
      (e ∙ ap (λ (k : ℕ). splice rows k (block b.count (λ i. packed (2 ^ shape.inputs) (λ m. input_value m l)))) at
      ∙ ap (λ (s : Shape). splice rows (row_of b l * s.bytes) (block b.count (λ i. packed (2 ^ s.inputs) (λ m. input_value m l)))) sound.shaped)
      (λ i less free. input_table (fixing_of j (b.first + i)) j l h free)

  module _ (q : ℕ) (h : q < j.gate_count) (side : Side j b (j.inputs + q) rows) where
    -- table i of them
    abbrev column : ℕ → List ℕ
    column i = tabulate (table_bytes j.inputs) (λ t. gate_bytes b rows (gate_at j q) (shape_of j.inputs) (i * table_bytes j.inputs + t))

    column_right : (i : ℕ) → i < b.count → Unfixed (fixing_of j (b.first + i)) (j.inputs + q) → column i ≡ side_table j b i (j.inputs + q)
    column_right i less free =
        gate_columns j.inputs (gate_kind (gate_at j q)) (row_of b (gate_a (gate_at j q))) (row_of b (gate_b (gate_at j q))) i rows (kind_lt (gate_at j q))
        ∙ gate_table (fixing_of j (b.first + i)) (fixing_bits j (b.first + i)) j sound.valid q h free
        (row_at j (row_of b (gate_a (gate_at j q)) + i) rows) (row_at j (row_of b (gate_b (gate_at j q)) + i) rows)
        (side.line (gate_a (gate_at j q)) i (first_below j sound.valid q h) less)
        (side.line (gate_b (gate_at j q)) i (second_below j sound.valid q h) less)

    put_gate : {after : List ℕ} → after ≡ splice rows (row_of b (j.inputs + q) * shape.bytes) (tabulate (b.count * shape.bytes) (gate_bytes b rows (gate_at j q) shape)) → Blocked j b (j.inputs + q) rows after
    put_gate e =
        blocked (j.inputs + q) (omega arith) column (λ i. length_tabulate (table_bytes j.inputs) _)
        (e ∙ ap (λ (s : Shape). splice rows (row_of b (j.inputs + q) * s.bytes) (tabulate (b.count * s.bytes) (gate_bytes b rows (gate_at j q) s))) sound.shaped
        ∙ ap (splice rows (row_of b (j.inputs + q) * table_bytes j.inputs)) (tabulate_block b.count (table_bytes j.inputs) _))
        column_right

  pub gate_blocked : {l : ℕ} {after : List ℕ} → l < lines j → j.inputs ≤ l → Side j b l rows
      → after ≡ splice rows (row_of b l * shape.bytes) (tabulate (b.count * shape.bytes) (combined (kind_polynomial (gate_kind (gate_at j (l - j.inputs))) shape.mask) (row_of b (gate_a (gate_at j (l - j.inputs))) * shape.bytes) (row_of b (gate_b (gate_at j (l - j.inputs))) * shape.bytes) rows))
      → Blocked j b l rows after
  gate_blocked {l} {after} below k =
      subst (λ (n : ℕ). Side j b n rows → after ≡ splice rows (row_of b n * shape.bytes) (tabulate (b.count * shape.bytes) (gate_bytes b rows (gate_at j (l - j.inputs)) shape)) → Blocked j b n rows after)
      (drives sound.valid below k) (λ side. put_gate (l - j.inputs) (driver sound.valid below k) side)

  -- but for the columns that fix it, the block of a line is made
  pub made_line : {l : ℕ} {after : List ℕ} → l < lines j → Side j b l rows → Blocked j b l rows after → {of : List ℕ} → FixedIn j b of → Made j b l (get_or of l 0) after
  made_line {l} {after} below side put {of} fixed =
      record {
        before = side_kept j b l rows after sound.stands.behind side put.kept;
        fixed = λ i h. sym (fixed.columns l i (line_index sound.valid below)) ∙ h;
        done = λ i h none. put.right i h (unfixed i h none);
      }
    where
      unfixed : (i : ℕ) → i < b.count → has (get_or of l 0) i ≡ false → Unfixed (fixing_of j (b.first + i)) l
      unfixed i h none =
          fixing_other j (b.first + i) l
          (sym (ap (λ (t : Bool). t && fixes_line j (b.first + i) l) (lt-ltb i b.count h)) ∙ sym (fixed.columns l i (line_index sound.valid below)) ∙ none)
