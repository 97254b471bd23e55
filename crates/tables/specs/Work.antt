-- Kept by the code: what stands in the rows of bytes while a job's circuits are worked out.
--
--   max_table_bytes, block_bytes   the bytes of the largest table, and of a block of tables side by side
--   row_bytes, all_row_bytes       the bytes of rows for the good circuit and one more, or a batch
--   max_lines     the lines of the largest circuit
--   line_value, line_table   the value of a line for one input number, and its packed table
--   row_at        the bytes of a row
--   row_of        the row where the block of a line's tables starts
--   is_fixed      whether a fault fixes a line
--   fixes_line    whether a circuit's fault does
--   FixedIn       for each line the set of the columns whose faults fix it
--   good_fix, fault_fix   the fixings of the good circuit and of a fault
--   Unfixed       a fixing leaves a line as it is
--   Fixes         the lines that a fault fixes are lines of the circuit
--   RowsFor       there are rows for the good circuit and so many circuits side by side
--   Stands        there are rows for a batch of circuits, which stands behind the good circuit's rows if it is not the good circuit itself
--   Good          the first rows are the good circuit's tables
--   side_table    the table of a line in a column of the batch
--   Side          the blocks of the first lines are their tables in each circuit of the batch, and the good circuit's rows stand
--   Blocked       a line's block is its tables in the columns that leave the line as it is, and the rows before it stand
--   Made          so for the lines before one; its own block has its tables in the columns that are not in a set, and those of the set fix it
--   Asked         lines of the circuit, as those whose tables are asked for
--   circuit_bytes   how many bytes the tables of a circuit at some lines have
--   tables_at     the tables of a circuit at some lines, one after the other
--   tables_from   so for a batch of circuits
--   asked_row     the row of a batch's column at one of some lines
--   rows_at       its rows at these lines, one after the other
--   RowsThere     a batch's rows at these lines lie within so many bytes
use Rattle.std.specs.Prelude.{ℕ, zero, suc, ◌+◌, ◌*◌, ◌^◌, ◌≤◌, ◌<◌, ◌≡◌, Bool, true, false, ◌&&◌, ◌||◌, List, eqb, ltb, length, get_or}
use Rattle.bits.specs.Packed.{packed}
use Rattle.bits.specs.Sets.{has}
use Rattle.job.specs.Layout.{max_inputs, max_gates}
use Rattle.job.specs.Record.{fault_a, fault_b, fault_at, lines}
use Rattle.job.specs.declared.Fault.{Fault}
use Rattle.job.specs.declared.Job.{Job}
use Rattle.bits.specs.Sizes.{table_bytes}
use Rattle.bits.specs.Slices.{slice}
use Rattle.tables.specs.Circuit.{Fixing, free, values_to, fixed_by, fixing_of}
use Rattle.bits.specs.Blocks.{block}
use Rattle.tables.specs.declared.evaluator.Batch.{Batch}

unfoldable pub max_table_bytes : ℕ
max_table_bytes = 32

unfoldable pub block_bytes : ℕ
block_bytes = 512

abbrev pub max_lines : ℕ
max_lines = max_inputs + max_gates

-- a row for each line of the largest good circuit, and one for each line of a faulty one
unfoldable pub row_bytes : ℕ
row_bytes = 2 * max_lines * max_table_bytes

-- a row for each line of the largest good circuit, and a block for each line of a batch
unfoldable pub all_row_bytes : ℕ
all_row_bytes = max_lines * (max_table_bytes + block_bytes)

unfoldable pub line_value : (ℕ → Fixing) → Job → ℕ → ℕ → ℕ
line_value fix j l m = get_or (values_to (fix m) j m (lines j)) l 0

abbrev pub line_table : (ℕ → Fixing) → Job → ℕ → List ℕ
line_table fix j l = packed (2 ^ j.inputs) (line_value fix j l)

abbrev pub row_at : Job → ℕ → List ℕ → List ℕ
row_at j r rows = slice (r * table_bytes j.inputs) (table_bytes j.inputs) rows

abbrev pub row_of : Batch → ℕ → ℕ
row_of b l = b.base + l * b.count

abbrev pub is_fixed : Fault → ℕ → Bool
is_fixed x l = eqb l (fault_a x) || eqb l (fault_b x)

-- circuit 0 has no fault
abbrev pub fixes_line : Job → ℕ → ℕ → Bool
fixes_line j zero l = false
fixes_line j (suc c) l = is_fixed (fault_at j c) l

pub record FixedIn (j : Job) (b : Batch) (of : List ℕ) : Type 0 where
  pub columns : (l i : ℕ) → l < max_lines → has (get_or of l 0) i ≡ ltb i b.count && fixes_line j (b.first + i) l

abbrev pub good_fix : ℕ → Fixing
good_fix m = free

abbrev pub fault_fix : Job → Fault → ℕ → Fixing
fault_fix j x m = fixed_by x (values_to free j m (lines j))

abbrev pub Unfixed : (ℕ → Fixing) → ℕ → Type 0
Unfixed fix l = (m v : ℕ) → fix m l v ≡ v

pub record Fixes (j : Job) (x : Fault) : Type 0 where
  pub low : fault_a x < lines j
  pub high : fault_b x < lines j

-- rows for the good circuit and so many circuits side by side
pub record RowsFor (j : Job) (width : ℕ) (rows : List ℕ) : Type 0 where
  pub room : (lines j + lines j * width) * table_bytes j.inputs ≤ length rows

pub record Stands (j : Job) (b : Batch) (rows : List ℕ) : Type 0 where
  pub room : (b.base + lines j * b.count) * table_bytes j.inputs ≤ length rows
  pub behind : 1 ≤ b.first → lines j ≤ b.base
  pub within : b.first + b.count ≤ j.fault_count + 1
  pub alone : b.first ≡ 0 → (b.base ≡ 0) × (b.count ≡ 1)

pub record Good (j : Job) (rows : List ℕ) : Type 0 where
  pub line : (l : ℕ) → l < lines j → row_at j l rows ≡ line_table good_fix j l

-- the tables of circuit first + i
abbrev pub side_table : Job → Batch → ℕ → ℕ → List ℕ
side_table j b i l = line_table (fixing_of j (b.first + i)) j l

pub record Side (j : Job) (b : Batch) (next : ℕ) (rows : List ℕ) : Type 0 where
  pub good : 1 ≤ b.first → Good j rows
  pub line : (l i : ℕ) → l < next → i < b.count → row_at j (row_of b l + i) rows ≡ side_table j b i l

pub record Blocked (j : Job) (b : Batch) (l : ℕ) (rows after : List ℕ) : Type 0 where
  pub kept : (k : ℕ) → k < row_of b l → row_at j k after ≡ row_at j k rows
  pub right : (i : ℕ) → i < b.count → Unfixed (fixing_of j (b.first + i)) l → row_at j (row_of b l + i) after ≡ side_table j b i l

pub record Made (j : Job) (b : Batch) (l left : ℕ) (rows : List ℕ) : Type 0 where
  pub before : Side j b l rows
  pub fixed : (i : ℕ) → has left i ≡ true → ltb i b.count && fixes_line j (b.first + i) l ≡ true
  pub done : (i : ℕ) → i < b.count → has left i ≡ false → row_at j (row_of b l + i) rows ≡ side_table j b i l

abbrev pub Asked : Job → List ℕ → Type 0
Asked j asked = (p : ℕ) → p < length asked → get_or asked p 0 < lines j

abbrev pub circuit_bytes : Job → List ℕ → ℕ
circuit_bytes j asked = length asked * table_bytes j.inputs

abbrev pub tables_at : Job → List ℕ → ℕ → List ℕ
tables_at j asked c = block (length asked) (λ p. line_table (fixing_of j c) j (get_or asked p 0))

abbrev pub tables_from : Job → List ℕ → ℕ → ℕ → List ℕ
tables_from j asked first count = block count (λ i. tables_at j asked (first + i))

abbrev pub asked_row : Batch → ℕ → List ℕ → List ℕ → ℕ → ℕ → List ℕ
asked_row b bytes asked rows i p = slice ((row_of b (get_or asked p 0) + i) * bytes) bytes rows

abbrev pub rows_at : Batch → ℕ → List ℕ → List ℕ → ℕ → List ℕ
rows_at b bytes asked rows i = block (length asked) (asked_row b bytes asked rows i)

pub record RowsThere (b : Batch) (bytes : ℕ) (asked : List ℕ) (room : ℕ) : Type 0 where
  pub some : 1 ≤ bytes
  pub there : (p : ℕ) → p < length asked → row_of b (get_or asked p 0) * bytes + b.count * bytes ≤ room
