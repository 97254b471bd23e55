-- Laws of the room that the rows have (specs/Work.antt): what the functions that fill rows require, and that the places of rows fit a word.
--
--   lines_most        the lines of a valid job are no more than those of the largest circuit
--   line_index        so each of them is an index of an array of lines
--   fault_number      the circuits of a batch without the good one have faults of the job
--   fault_index       a fault's number is an index of the record's faults
--   table_bytes_most  no table has more bytes than that of the most inputs
--   bytes_some        each has one
--   row_order         a row before another ends before it
--   Sound             a valid job's shape, and rows for a batch of circuits
--   faulty_stands     where there are rows for a batch, a batch has its rows
--   stands_kept       so have rows of the same length
--   rows_kept, rows_fewer   there are rows where rows have the same length, and for fewer circuits
--   shape_bytes, sound_bytes   the shape has the table's bytes, one or more (shape_some, sound_some)
--   sound_kept       rows of the same length stay sound
--   sound_inputs, sound_few, sound_shaped   the shape is that of the job's inputs, which are few
--   block_before     a line's block ends before those of later lines
--   row_before       the rows of a line's block are before those of later lines
--   row_inside       a row of a line's block lies within the rows, and so does the block (block_inside, block_room)
--   place_small      the block's place fits a word, and so do the place and the bytes of a row in it (column_fits, offset_fits)
--   block_space      there is room for an input's block
--   column_below     the good circuit's rows are before a row of a faulty circuit
use Prim.Native.Nat.{ℕ, ◌+◌, ◌-◌, ◌*◌, ◌^◌, ◌≤◌, ◌<◌}
use native.Mathlib.Nat.{le_trans, mul-le-mul_left, mul-le-mul_right, suc-mul, add-mul}
use native.Mathlib.Omega.{arith}
use mathlib.Core.Path.{◌≡◌, sym, ap, subst, ◌∙◌}
use mathlib.Core.List.{List}
use lib.ListN.{length}
use lib.Pow.{pow_mono, pow_pos}
use mir.Syntax.{w64}
use mir.Val.{Fits}
use Rattle.job.specs.Check.{Valid}
use Rattle.job.specs.Layout.{max_inputs, max_faults}
use Rattle.job.specs.Record.{fault_a, fault_b, lines}
use Rattle.job.specs.declared.Fault.{Fault}
use Rattle.job.specs.declared.Job.{Job}
use Rattle.bits.specs.Sizes.{table_bytes}
use Rattle.tables.specs.Sizes.{shape_of, Space, Below}
use Rattle.tables.specs.Work.{max_table_bytes, max_lines, row_of, RowsFor, Stands, Fixes}
use Rattle.tables.specs.declared.evaluator.Batch.{Batch}
use Rattle.tables.specs.declared.rows.Shape.{Shape}
use Rattle.tables.proofs.Sizes.{table_fits, byte_inputs}

pub lines_most : {j : Job} → Valid j → lines j ≤ max_lines
lines_most valid = omega (arith, valid.few, valid.gates_few)

pub line_index : {j : Job} → Valid j → {l : ℕ} → l < lines j → l < max_lines
line_index {j} valid h = omega (arith, lines_most valid)

pub fault_number : {first count faults i : ℕ} → 1 ≤ first → first + count ≤ faults + 1 → i < count → first - 1 + i < faults
fault_number h within l = omega arith

pub fault_index : {j : Job} → Valid j → {k : ℕ} → k < j.fault_count → k < max_faults
fault_index valid h = omega (arith, valid.faults_few)

pub table_bytes_most : (n : ℕ) → n ≤ max_inputs → table_bytes n ≤ max_table_bytes
table_bytes_most n h = let p : 2 ^ n ≤ 2 ^ max_inputs = pow_mono h in le_trans (omega arith) table_fits

pub bytes_some : (n : ℕ) → 1 ≤ table_bytes n
bytes_some n = omega (arith, pow_pos n)

pub row_order : (r s w : ℕ) → r < s → r * w + w ≤ s * w
row_order r s w h = omega (arith, mul-le-mul_right w h, suc-mul r w)

-- a valid job, its shape, and rows for a batch of its circuits
pub record Sound (j : Job) (shape : Shape) (b : Batch) (rows : List ℕ) : Type 0 where
  pub valid : Valid j
  pub shaped : shape ≡ shape_of j.inputs
  pub stands : Stands j b rows

pub stands_kept : {j : Job} {b : Batch} {rows after : List ℕ} → length after ≡ length rows → Stands j b rows → Stands j b after
stands_kept {j} {b} e s =
    record {
      room = subst (λ (k : ℕ). (b.base + lines j * b.count) * table_bytes j.inputs ≤ k) (sym e) s.room;
      behind = s.behind;
      within = s.within;
      alone = s.alone;
    }

module _ {j : Job} {width : ℕ} {rows : List ℕ} (r : RowsFor j width rows) where
  pub faulty_stands : {first : ℕ} → 1 ≤ first → first + width ≤ j.fault_count + 1 → Stands j (record { base = lines j; first = first; count = width }) rows
  faulty_stands some h = record { room = r.room; behind = λ _. omega arith; within = h; alone = λ none. absurd (omega (arith, none)) }

  pub rows_kept : {after : List ℕ} → length after ≡ length rows → RowsFor j width after
  rows_kept e = record { room = subst (λ (k : ℕ). (lines j + lines j * width) * table_bytes j.inputs ≤ k) (sym e) r.room }

  pub rows_fewer : {count : ℕ} → count ≤ width → RowsFor j count rows
  rows_fewer {count} h =
      let few : lines j + lines j * count ≤ lines j + lines j * width = omega (arith, mul-le-mul_left (lines j) h) in
      record { room = le_trans (mul-le-mul_right (table_bytes j.inputs) few) r.room }

module _ (j : Job) {shape : Shape} (shaped : shape ≡ shape_of j.inputs) where
  pub shape_bytes : shape.bytes ≡ table_bytes j.inputs
  shape_bytes = ap (λ (s : Shape). s.bytes) shaped

  pub shape_some : 1 ≤ shape.bytes
  shape_some = subst (λ (k : ℕ). 1 ≤ k) (sym shape_bytes) (bytes_some j.inputs)

pub block_before : (b : Batch) (k l bytes : ℕ) → k < l → row_of b k * bytes + b.count * bytes ≤ row_of b l * bytes
block_before b k l bytes h =
    let e : row_of b k + b.count ≤ row_of b l = omega (arith, mul-le-mul_right b.count h, suc-mul k b.count) in
    omega (arith, mul-le-mul_right bytes e, add-mul (row_of b k) b.count bytes)

pub row_before : (b : Batch) (k l i : ℕ) → k < l → i < b.count → row_of b k + i < row_of b l
row_before b k l i h less = omega (arith, mul-le-mul_right b.count h, suc-mul k b.count)

module _ {j : Job} {shape : Shape} {b : Batch} {rows : List ℕ} (sound : Sound j shape b rows) where
  pub sound_bytes : shape.bytes ≡ table_bytes j.inputs
  sound_bytes = shape_bytes j sound.shaped

  pub sound_some : 1 ≤ shape.bytes
  sound_some = shape_some j sound.shaped

  pub sound_kept : {after : List ℕ} → length after ≡ length rows → Sound j shape b after
  sound_kept e = record { valid = sound.valid; shaped = sound.shaped; stands = stands_kept e sound.stands }

  pub sound_inputs : shape.inputs ≡ j.inputs
  sound_inputs = ap (λ (s : Shape). s.inputs) sound.shaped

  pub sound_few : shape.inputs ≤ 11
  sound_few = omega (arith, sound_inputs, sound.valid.few, byte_inputs)

  pub sound_shaped : shape ≡ shape_of shape.inputs
  sound_shaped = sound.shaped ∙ ap (λ (s : Shape). shape_of s.inputs) (sym sound.shaped)

  module _ {l : ℕ} (h : l < lines j) where
    pub block_inside : (row_of b l + b.count) * table_bytes j.inputs ≤ length rows
    block_inside =
        let e : row_of b l + b.count ≤ b.base + lines j * b.count = omega (arith, mul-le-mul_right b.count h, suc-mul l b.count) in
        le_trans (mul-le-mul_right (table_bytes j.inputs) e) sound.stands.room

    pub block_room : row_of b l * shape.bytes + b.count * shape.bytes ≤ length rows
    block_room =
        subst (λ (w : ℕ). row_of b l * w + b.count * w ≤ length rows) (sym sound_bytes)
        (omega (arith, add-mul (row_of b l) b.count (table_bytes j.inputs), block_inside))

    pub place_small : length rows < 2 ^ 64 → row_of b l * shape.bytes < 2 ^ 64
    place_small short = omega (arith, block_room)

    pub block_space : {to : ℕ} → to ≡ row_of b l * shape.bytes → Space shape to b.count rows
    block_space e = record { shaped = sound_shaped; few = sound_few; room = subst (λ (k : ℕ). k + b.count * shape.bytes ≤ length rows) (sym e) block_room }

    module _ {i : ℕ} (less : i < b.count) where
      pub row_inside : (row_of b l + i) * table_bytes j.inputs + table_bytes j.inputs ≤ length rows
      row_inside = le_trans (row_order (row_of b l + i) (row_of b l + b.count) (table_bytes j.inputs) (omega arith)) block_inside

      column_inside : row_of b l * shape.bytes + i * shape.bytes + shape.bytes ≤ length rows
      column_inside =
          subst (λ (w : ℕ). row_of b l * w + i * w + w ≤ length rows) (sym sound_bytes)
          (omega (arith, add-mul (row_of b l) i (table_bytes j.inputs), row_inside))

      pub column_fits : length rows < 2 ^ 64 → {to : ℕ} → to ≡ row_of b l * shape.bytes → Fits w64 (to + i * shape.bytes)
      column_fits short e = record { fits = omega (arith, column_inside) }

      pub offset_fits : length rows < 2 ^ 64 → Fits w64 (i * shape.bytes)
      offset_fits short = record { fits = omega (arith, column_inside) }

      pub column_below : {x : Fault} → Fixes j x → 1 ≤ b.first → {to : ℕ} → to ≡ row_of b l * shape.bytes
          → Below shape (fault_a x * shape.bytes) (fault_b x * shape.bytes) (to + i * shape.bytes) rows
      column_below {x} fixes some {to} e =
          record {
            at = record { shaped = sound_shaped; room = subst (λ (k : ℕ). k + i * shape.bytes + shape.bytes ≤ length rows) (sym e) column_inside };
            first = before (fault_a x) fixes.low;
            second = before (fault_b x) fixes.high;
          }
        where
          before : (a : ℕ) → a < lines j → a * shape.bytes + shape.bytes ≤ to + i * shape.bytes
          before a less =
              omega (
                arith,
                row_order a (row_of b l + i) shape.bytes (omega (arith, sound.stands.behind some)),
                add-mul (row_of b l) i shape.bytes,
              )
