-- Tables worked out in rows, and put into lent memory (specs/Work.antt, specs/Operations.antt).
--
--   length_table         a circuit's table at an output has table_bytes bytes
--   length_circuit       its tables have as many for each output
--   length_tables_to     the tables of c circuits have c times as many
--   rows_one, rows_block   the lent rows have room for the good circuit and one more, or as many as fit a block
--   all_tables_room     all tables of a valid job are no more bytes than those of the most circuits at the most outputs
--   table_count_fits    so they fit a usize
--   side_good           a batch leaves the good circuit's rows, whether it is the good circuit or stands behind it
--   side_tables         the rows of a batch at some lines are the tables of its circuits there
--   length_tables       so many tables of a circuit have table_bytes bytes each
--   one_asked, one_room, one_put   one output is asked for: a line of the circuit, room for one table, and the circuit's table there is put
--   all_room, all_put   so for all outputs
--   tables_single       a batch of one circuit
--   tables_all          the good circuit's tables, and then those of the faulty circuits
use Prim.Native.Nat.{ℕ, ◌+◌, ◌-◌, ◌*◌, ◌/◌, ◌^◌, ◌≤◌, ◌<◌}
use native.Mathlib.Omega.{arith}
use native.Mathlib.Nat.{lt_of_le_of_lt, zero-add, add-zero, add-le-add, add-mul, mul-add, mul_assoc, mul-one, one-mul, mul-le-mul, div-mul-le_self}
use mathlib.Core.Path.{◌≡◌, refl, sym, ap, subst, ◌∙◌}
use mathlib.Core.List.{List}
use mathlib.Core.Logic.{⊎_elim}
use mir.Syntax.{w64}
use mir.Val.{Fits}
use lib.ListN.{length, get_or, take, drop}
use lib.Seq.{length-take-le, get_or-take, get_or-drop}
use Rattle.bits.proofs.Below.{lt_or_ge}
use Rattle.bits.proofs.Packed.{length_packed}
use Rattle.job.specs.Check.{Valid}
use Rattle.job.specs.Layout.{max_inputs, max_gates, max_outputs, max_faults}
use Rattle.job.specs.Record.{output_at, lines}
use Rattle.job.specs.declared.Job.{Job}
use Rattle.bits.specs.Sizes.{table_bytes}
use Rattle.bits.specs.Slices.{slice, splice}
use Rattle.tables.specs.Circuit.{circuit_entry, circuit_table, fixing_of}
use Rattle.tables.specs.Operations.{tables_to, tables_bytes}
use Rattle.bits.specs.Blocks.{block}
use Rattle.tables.specs.Work.{max_table_bytes, block_bytes, row_bytes, all_row_bytes, line_value, line_table, row_at, row_of, RowsFor, Stands, Good, side_table, Side, Asked, tables_at, tables_from, rows_at}
use Rattle.tables.specs.declared.evaluator.Batch.{Batch}
use Rattle.bits.proofs.Blocks.{block_ext, block_append, length_block}
use Rattle.tables.proofs.Blocks.{length_slice, splice_append}
use Rattle.tables.proofs.Sizes.{all_tables_fit}
use Rattle.tables.proofs.Space.{lines_most, table_bytes_most}

-- a row and a block a line
side_by_side : (lines width bytes : ℕ) → (lines + lines * width) * bytes ≡ lines * (bytes + width * bytes)
side_by_side lines width bytes = add-mul lines (lines * width) bytes ∙ ap (λ (k : ℕ). lines * bytes + k) (mul_assoc lines width bytes) ∙ sym (mul-add lines bytes (width * bytes))

pub length_table : (j : Job) (c o : ℕ) → length (circuit_table j c o) ≡ table_bytes j.inputs
unfolding circuit_table
length_table j c o = length_packed (2 ^ j.inputs) (circuit_entry j c o)

pub length_circuit : (j : Job) (c : ℕ) → length (block j.output_count (circuit_table j c)) ≡ j.output_count * table_bytes j.inputs
length_circuit j c = length_block (table_bytes j.inputs) (circuit_table j c) (length_table j c) j.output_count

pub length_tables_to : (j : Job) (c : ℕ) → length (tables_to j c) ≡ c * j.output_count * table_bytes j.inputs
length_tables_to j c =
    length_block (j.output_count * table_bytes j.inputs) (λ i. block j.output_count (circuit_table j i)) (length_circuit j) c
    ∙ sym (mul_assoc c j.output_count (table_bytes j.inputs))

module _ (j : Job) (rows : List ℕ) (v : Valid j) where
  pub rows_one : length rows ≡ row_bytes → RowsFor j 1 rows
  unfolding row_bytes
  rows_one h =
      let few : lines j + lines j * 1 ≤ 2 * (max_inputs + max_gates) = omega (arith, v.few, v.gates_few, mul-one (lines j)) in
      record { room = subst (λ (k : ℕ). (lines j + lines j * 1) * table_bytes j.inputs ≤ k) (sym h) (mul-le-mul few (table_bytes_most j.inputs v.few)) }

  pub rows_block : length rows ≡ all_row_bytes → RowsFor j (block_bytes / table_bytes j.inputs) rows
  unfolding all_row_bytes
  rows_block h =
      record {
        room =
            subst (λ (k : ℕ). (lines j + lines j * (block_bytes / table_bytes j.inputs)) * table_bytes j.inputs ≤ k) (sym h)
            (subst (λ (k : ℕ). k ≤ (max_inputs + max_gates) * (max_table_bytes + block_bytes)) (sym (side_by_side (lines j) (block_bytes / table_bytes j.inputs) (table_bytes j.inputs)))
            (mul-le-mul (lines_most v) (add-le-add (table_bytes_most j.inputs v.few) (div-mul-le_self block_bytes (table_bytes j.inputs)))));
      }

module _ (j : Job) (v : Valid j) where
  pub all_tables_room : tables_bytes j ≤ (max_faults + 1) * max_outputs * max_table_bytes
  all_tables_room =
      let f : j.fault_count + 1 ≤ max_faults + 1 = omega (arith, v.faults_few) in
      mul-le-mul (mul-le-mul f v.outputs_few) (table_bytes_most j.inputs v.few)

  pub table_count_fits : Fits w64 (tables_bytes j)
  table_count_fits = record { fits = lt_of_le_of_lt all_tables_room all_tables_fit }

-- the good circuit is the batch of circuit 0
alone_good : (j : Job) (b : Batch) (rows : List ℕ) → b.first ≡ 0 → b.base ≡ 0 → b.count ≡ 1 → Side j b (lines j) rows → Good j rows
unfolding fixing_of
alone_good j b rows first base count side =
    record {
      line = λ l h.
          let e : row_of b l + 0 ≡ l = (λ i. base i + l * count i + 0) ∙ omega (arith, mul-one l) in
          let c : b.first + 0 ≡ 0 = omega (arith, first) in
          ap (λ (r : ℕ). row_at j r rows) (sym e) ∙ side.line l 0 h (omega (arith, count)) ∙ ap (λ (n : ℕ). line_table (fixing_of j n) j l) c;
    }

pub side_good : {j : Job} {b : Batch} {start rows : List ℕ} → Stands j b start → Side j b (lines j) rows → Good j rows
side_good {j} {b} {start} {rows} stands side =
    ⊎_elim (λ h. let none : b.first ≡ 0 = omega arith in alone_good j b rows none (stands.alone none).0 (stands.alone none).1 side)
    (λ h. side.good h) (lt_or_ge b.first 1)

pub side_tables : {j : Job} {b : Batch} {rows : List ℕ} → Side j b (lines j) rows → (asked : List ℕ) → Asked j asked
    → block b.count (rows_at b (table_bytes j.inputs) asked rows) ≡ tables_from j asked b.first b.count
side_tables {j} {b} {rows} side asked lie =
    block_ext b.count (rows_at b (table_bytes j.inputs) asked rows) (λ i. tables_at j asked (b.first + i)) (λ i h.
    block_ext (length asked) (λ p. row_at j (row_of b (get_or asked p 0) + i) rows) (λ p. side_table j b i (get_or asked p 0)) (λ p l.
    side.line (get_or asked p 0) i (lie p l) h))

pub length_tables : (j : Job) (asked : List ℕ) (c : ℕ) → length (tables_at j asked c) ≡ length asked * table_bytes j.inputs
length_tables j asked c =
    length_block (table_bytes j.inputs) (λ p. line_table (fixing_of j c) j (get_or asked p 0))
    (λ p. length_packed (2 ^ j.inputs) (line_value (fixing_of j c) j (get_or asked p 0))) (length asked)

output_table : (j : Job) (c o : ℕ) → line_table (fixing_of j c) j (output_at j o) ≡ circuit_table j c o
unfolding circuit_table circuit_entry line_value
output_table j c o = refl

-- outputs that follow each other are asked for
module _ (j : Job) (first count : ℕ) (h : first + count ≤ length j.outputs) where
  asked_line : (p : ℕ) → p < count → get_or (slice first count j.outputs) p 0 ≡ output_at j (first + p)
  asked_line p l = get_or-take count (drop first j.outputs) p 0 l ∙ get_or-drop first j.outputs p 0

  asked_valid : Valid j → first + count ≤ j.output_count → Asked j (slice first count j.outputs)
  asked_valid v few p l =
      let less : p < count = omega (arith, length_slice first count j.outputs h) in
      subst (λ (k : ℕ). k < lines j) (sym (asked_line p less)) (v.output (first + p) (omega arith))

  asked_tables : (c : ℕ) → tables_at j (slice first count j.outputs) c ≡ block count (λ p. circuit_table j c (first + p))
  asked_tables c =
      ap (λ (k : ℕ). block k (λ p. line_table (fixing_of j c) j (get_or (slice first count j.outputs) p 0))) (length_slice first count j.outputs h)
      ∙ block_ext count (λ p. line_table (fixing_of j c) j (get_or (slice first count j.outputs) p 0)) (λ p. circuit_table j c (first + p))
      (λ p l. ap (line_table (fixing_of j c) j) (asked_line p l) ∙ output_table j c (first + p))

module _ (j : Job) (v : Valid j) (inside : j.output_count ≤ length j.outputs) where
  module _ (o : ℕ) (h : o < j.output_count) where
    -- the code's count of the one output
    one : o + 1 - o ≡ 1
    one = omega arith

    one_inside : o + (o + 1 - o) ≤ length j.outputs
    one_inside = omega arith

    pub one_asked : Asked j (slice o (o + 1 - o) j.outputs)
    one_asked = asked_valid j o (o + 1 - o) one_inside v (omega arith)

    pub one_room : {size : ℕ} → table_bytes j.inputs ≤ size → length (slice o (o + 1 - o) j.outputs) * table_bytes j.inputs ≤ size
    one_room {size} room =
        subst (λ (k : ℕ). k ≤ size)
        (sym (ap (λ (k : ℕ). k * table_bytes j.inputs) (length_slice o (o + 1 - o) j.outputs one_inside ∙ one) ∙ one-mul (table_bytes j.inputs))) room

    pub one_put : (c : ℕ) (out : List ℕ) {put : List ℕ} → put ≡ splice out 0 (tables_at j (slice o (o + 1 - o) j.outputs) c) → put ≡ splice out 0 (circuit_table j c o)
    unfolding block
    one_put c out e =
        e
        ∙ ap (splice out 0)
        (asked_tables j o (o + 1 - o) one_inside c ∙ ap (λ (k : ℕ). block k (λ p. circuit_table j c (o + p))) one ∙ ap (circuit_table j c) (add-zero o))

  pub all_room : {size : ℕ} → tables_bytes j ≤ size → (j.fault_count + 1) * (length (take j.output_count j.outputs) * table_bytes j.inputs) ≤ size
  all_room {size} room =
      subst (λ (k : ℕ). k ≤ size)
      (mul_assoc (j.fault_count + 1) j.output_count (table_bytes j.inputs)
      ∙ ap (λ (k : ℕ). (j.fault_count + 1) * (k * table_bytes j.inputs)) (sym (length-take-le j.output_count j.outputs inside))) room

  pub all_put : (n : ℕ) (out : List ℕ) {put : List ℕ} → put ≡ splice out 0 (tables_from j (take j.output_count j.outputs) 0 n) → put ≡ splice out 0 (tables_to j n)
  all_put n out e =
      e
      ∙ ap (splice out 0)
      (block_ext n (λ i. tables_at j (take j.output_count j.outputs) (0 + i)) (λ i. block j.output_count (circuit_table j i)) (λ i _.
      ap (tables_at j (take j.output_count j.outputs)) (zero-add i) ∙ asked_tables j 0 j.output_count (omega arith) i
      ∙ block_ext j.output_count (λ p. circuit_table j i (0 + p)) (circuit_table j i) (λ p _. ap (circuit_table j i) (zero-add p))))

pub tables_single : (j : Job) (asked : List ℕ) (c : ℕ) → tables_from j asked c 1 ≡ tables_at j asked c
unfolding block
tables_single j asked c = ap (tables_at j asked) (add-zero c)

-- the good circuit's tables, and then those of the faulty circuits
pub tables_all : (j : Job) (asked out : List ℕ) (faults : ℕ) → length asked * table_bytes j.inputs ≤ length out
    → splice (splice out 0 (tables_at j asked 0)) (length asked * table_bytes j.inputs) (tables_from j asked 1 faults)
    ≡ splice out 0 (tables_from j asked 0 (faults + 1))
unfolding block
tables_all j asked out faults h =
    let e : 1 + faults ≡ faults + 1 = omega arith in
    splice_append out 0 (tables_at j asked 0) (tables_from j asked 1 faults) (length asked * table_bytes j.inputs)
    (zero-add (length (tables_at j asked 0)) ∙ length_tables j asked 0) h
    ∙ ap (splice out 0) (block_append 1 faults (tables_at j asked) ∙ ap (λ (k : ℕ). block k (tables_at j asked)) e
    ∙ block_ext (faults + 1) (tables_at j asked) (λ i. tables_at j asked (0 + i)) (λ i _. ap (tables_at j asked) (sym (zero-add i))))
