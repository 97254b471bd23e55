-- Rows that are packed tables of a shape (specs/Sizes.antt): what the byte functions of the crate gates leave, where there is room for a table.
--
--   few_shape           the shape of few inputs has a table's bytes
--   alternating_anew    bytes that alternate start anew behind each table
--   level_spliced       bytes of the mask, or of 0, are the table of a level
--   pattern_block, alternate_block   what the code puts for an input is tables of the input, side by side
--   gate_spliced        the gate step leaves the table of a kind's answers
--   bridge_spliced      so for a bridge
--   gate_columns        the gate step over blocks, table by table
--   fixed_stuck, fixed_bridge   what the code puts for a fault is the table that the fault gives its lines
--   gate_stepped        the gate step over blocks finds its places
use Prim.Native.Nat.{ℕ, ◌+◌, ◌-◌, ◌*◌, ◌^◌, ◌≤◌, ◌<◌}
use native.Mathlib.Nat.{add_assoc, add-mul}
use native.Mathlib.Omega.{arith}
use mathlib.Core.Path.{◌≡◌, refl, sym, ap, ◌∙◌, subst}
use mathlib.Core.Bool.{Bool, true, false, cond}
use mathlib.Core.List.{List}
use lib.Bits.{bit_and}
use lib.ListN.{length, get_or}
use lib.Pow.{pow-add}
use Rattle.bits.specs.Packed.{tabulate, packed, entry}
use Rattle.bits.proofs.Digits.{digit_above}
use Rattle.bits.proofs.Packed.{tabulate_ext}
use Rattle.job.specs.Record.{level_number, fault_a, fault_b}
use Rattle.job.specs.declared.Fault.{Fault}
use Rattle.job.specs.declared.Fault.TheVariants.{Stuck, Bridge}
use Rattle.gates.specs.Answers.{answer}
use Rattle.gates.specs.Polynomial.{mask_of, step, combined, kind_polynomial, pattern_of, alternating}
use Rattle.bits.specs.Sizes.{table_bytes, table_bytes_of}
use Rattle.gates.specs.Rows.{step_fits, alternate_fits}
use Rattle.bits.specs.Slices.{slice, splice, has_room}
use Rattle.gates.specs.Values.{input_value, bridged}
use Rattle.gates.specs.declared.Polynomial.{Polynomial}
use Rattle.gates.proofs.StepTests.{step_fits_lem, bit_inside}
use Rattle.bits.proofs.Room.{fitted, room_fits}
use Rattle.bits.proofs.TableSizes.{table_bytes_exact}
use Rattle.gates.proofs.Tables.{gate_packed, level_packed, pattern_packed, alternate_packed}
use Rattle.bits.specs.Blocks.{block}
use Rattle.tables.specs.Sizes.{shape_of, shape_within, Room, Space, Below, fixed_row}
use Rattle.tables.specs.Work.{row_of}
use Rattle.tables.specs.declared.evaluator.Batch.{Batch}
use Rattle.tables.specs.declared.rows.Shape.{Shape}
use Rattle.bits.proofs.Blocks.{block_ext}
use Rattle.tables.proofs.Blocks.{tabulate_block}
use Rattle.tables.proofs.Space.{block_before}

pub few_shape : {n : ℕ} → n < 64 → shape_within n ≡ shape_of n
few_shape {n} h = let p : table_bytes_of n ≡ table_bytes n = table_bytes_exact h refl in (λ i. record { inputs = n; bytes = p i; mask = mask_of n })

-- from three inputs on a table has a power of two of bytes
whole : (n : ℕ) → 3 ≤ n → table_bytes n ≡ 2 ^ (n - 3)
whole n h =
    let e : n - 3 + 3 ≡ n = omega arith in let p : 2 ^ n ≡ 2 ^ (n - 3) * 8 = rw e at (pow-add 2 (n - 3) 3) in omega arith

alternating_anew : (n line i t : ℕ) → 3 ≤ line → line < n → alternating (line - 3) (i * table_bytes n + t) ≡ alternating (line - 3) t
alternating_anew n line i t h l =
    ap (λ (w : ℕ). alternating (line - 3) (i * w + t)) (whole n (omega arith))
    ∙ ap (λ (b : ℕ). 255 * b) (digit_above (n - 3) (line - 3) i t (omega arith))

module _ (shape : Shape) (to : ℕ) (rows : List ℕ) (room : Room shape to rows) where
  -- a table that is the right one at its shape is spliced
  spliced : (table : Shape → List ℕ) (right : Shape → List ℕ) → table (shape_of shape.inputs) ≡ right (shape_of shape.inputs) → {out : List ℕ}
      → out ≡ splice rows to (table shape) → out ≡ splice rows to (right shape)
  spliced table right same e = e ∙ ap (splice rows to) (subst (λ (s : Shape). table s ≡ right s) (sym room.shaped) same)

  level_spliced : (level : Bool) (byte : ℕ) → byte ≡ cond level shape.mask 0 → {out : List ℕ}
      → out ≡ cond (has_room (length rows) to shape.bytes) (splice rows to (tabulate shape.bytes (λ i. byte))) rows
      → out ≡ splice rows to (packed (2 ^ shape.inputs) (λ m. level_number level))
  level_spliced level byte b e =
      spliced (λ s. tabulate s.bytes (λ i. cond level s.mask 0)) (λ s. packed (2 ^ s.inputs) (λ m. level_number level))
      (level_packed shape.inputs level)
      (fitted _ rows (room_fits (length rows) to shape.bytes room.room) e ∙ ap (λ (v : ℕ). splice rows to (tabulate shape.bytes (λ i. v))) b)

-- a block of one table, from bytes of which each table has its own
module _ (shape : Shape) (to count : ℕ) (rows : List ℕ) (space : Space shape to count rows) where
  blocked : (bytes : Shape → ℕ → ℕ) (right : Shape → List ℕ)
      → ((i : ℕ) → tabulate (table_bytes shape.inputs) (λ t. bytes (shape_of shape.inputs) (i * table_bytes shape.inputs + t)) ≡ right (shape_of shape.inputs))
      → {out : List ℕ} → out ≡ splice rows to (tabulate (count * shape.bytes) (bytes shape)) → out ≡ splice rows to (block count (λ i. right shape))
  blocked bytes right same e =
      e
      ∙ ap (splice rows to)
      (subst (λ (s : Shape). tabulate (count * s.bytes) (bytes s) ≡ block count (λ i. right s)) (sym space.shaped)
      (tabulate_block count (table_bytes shape.inputs) (bytes (shape_of shape.inputs))
      ∙ block_ext count (λ i. tabulate (table_bytes shape.inputs) (λ t. bytes (shape_of shape.inputs) (i * table_bytes shape.inputs + t)))
      (λ i. right (shape_of shape.inputs)) (λ i l. same i)))

  pub pattern_block : (line pattern : ℕ) → line < 3 → pattern ≡ pattern_of line → {out : List ℕ}
      → out ≡ cond (has_room (length rows) to (count * shape.bytes)) (splice rows to (tabulate (count * shape.bytes) (λ i. bit_and pattern shape.mask))) rows
      → out ≡ splice rows to (block count (λ i. packed (2 ^ shape.inputs) (λ m. input_value m line)))
  pattern_block line pattern h p e =
      blocked (λ s t. bit_and (pattern_of line) s.mask) (λ s. packed (2 ^ s.inputs) (λ m. input_value m line))
      (λ i. pattern_packed shape.inputs line h)
      (fitted _ rows (room_fits (length rows) to (count * shape.bytes) space.room) e
      ∙ ap (λ (v : ℕ). splice rows to (tabulate (count * shape.bytes) (λ i. bit_and v shape.mask))) p)

  pub alternate_block : (line : ℕ) → 3 ≤ line → line < shape.inputs → {out : List ℕ}
      → out ≡ cond (alternate_fits to (count * shape.bytes) (line - 3) (length rows)) (splice rows to (tabulate (count * shape.bytes) (alternating (line - 3)))) rows
      → out ≡ splice rows to (block count (λ i. packed (2 ^ shape.inputs) (λ m. input_value m line)))
  alternate_block line h l e =
      blocked (λ s t. alternating (line - 3) t) (λ s. packed (2 ^ s.inputs) (λ m. input_value m line))
      (λ i. tabulate_ext (table_bytes shape.inputs) (λ t. alternating (line - 3) (i * table_bytes shape.inputs + t)) (alternating (line - 3))
      (λ t m. alternating_anew shape.inputs line i t h l)
      ∙ alternate_packed shape.inputs line h l)
      (fitted _ rows
      (bit_inside to (count * shape.bytes) (line - 3) (length rows) (room_fits (length rows) to (count * shape.bytes) space.room) (omega (arith, space.few))) e)

gate_spliced : (shape : Shape) (x y to : ℕ) (rows : List ℕ) → Below shape x y to rows → (kind : ℕ) (polynomial : Polynomial) → kind < 8 → polynomial ≡ kind_polynomial kind shape.mask
    → {out : List ℕ} → out ≡ cond (step_fits x y to shape.bytes (length rows)) (splice rows to (tabulate shape.bytes (combined polynomial x y rows))) rows
    → out ≡ splice rows to (packed (2 ^ shape.inputs) (λ m. answer kind (entry (slice x shape.bytes rows) m) (entry (slice y shape.bytes rows) m)))
gate_spliced shape x y to rows below kind polynomial h formed e =
    spliced shape to rows below.at (λ s. tabulate s.bytes (combined (kind_polynomial kind s.mask) x y rows))
    (λ s. packed (2 ^ s.inputs) (λ m. answer kind (entry (slice x s.bytes rows) m) (entry (slice y s.bytes rows) m)))
    (gate_packed shape.inputs kind x y rows h)
    (fitted _ rows (step_fits_lem x y to shape.bytes (length rows) below.at.room below.first below.second) e
    ∙ ap (λ (f : Polynomial). splice rows to (tabulate shape.bytes (combined f x y rows))) formed)

bridge_kind : (is_and : Bool) → cond is_and 0 1 < 8
bridge_kind true = omega arith
bridge_kind false = omega arith

bridge_spliced : (shape : Shape) (x y to : ℕ) (rows : List ℕ) → Below shape x y to rows → (is_and : Bool) (polynomial : Polynomial) → polynomial ≡ kind_polynomial (cond is_and 0 1) shape.mask
    → {out : List ℕ} → out ≡ cond (step_fits x y to shape.bytes (length rows)) (splice rows to (tabulate shape.bytes (combined polynomial x y rows))) rows
    → out ≡ splice rows to (packed (2 ^ shape.inputs) (λ m. bridged is_and (entry (slice x shape.bytes rows) m) (entry (slice y shape.bytes rows) m)))
unfolding bridged
bridge_spliced shape x y to rows below is_and polynomial = gate_spliced shape x y to rows below (cond is_and 0 1) polynomial (bridge_kind is_and)

pub gate_columns : (n kind r s i : ℕ) (rows : List ℕ) → kind < 8
    → tabulate (table_bytes n) (λ t. combined (kind_polynomial kind (mask_of n)) (r * table_bytes n) (s * table_bytes n) rows (i * table_bytes n + t))
    ≡ packed (2 ^ n) (λ m. answer kind (entry (slice ((r + i) * table_bytes n) (table_bytes n) rows) m) (entry (slice ((s + i) * table_bytes n) (table_bytes n) rows) m))
gate_columns n kind r s i rows h =
    tabulate_ext (table_bytes n) (λ t. combined (kind_polynomial kind (mask_of n)) (r * table_bytes n) (s * table_bytes n) rows (i * table_bytes n + t))
    (combined (kind_polynomial kind (mask_of n)) ((r + i) * table_bytes n) ((s + i) * table_bytes n) rows)
    (λ t m. (λ k. step (kind_polynomial kind (mask_of n)) (get_or rows (place r t k) 0) (get_or rows (place s t k) 0)))
    ∙ gate_packed n kind ((r + i) * table_bytes n) ((s + i) * table_bytes n) rows h
  where
    place : (a t : ℕ) → a * table_bytes n + (i * table_bytes n + t) ≡ (a + i) * table_bytes n + t
    place a t = sym (add_assoc (a * table_bytes n) (i * table_bytes n) t) ∙ ap (λ (k : ℕ). k + t) (sym (add-mul a i (table_bytes n)))

-- the table that a fault gives its lines
module _ (shape : Shape) (to : ℕ) (rows : List ℕ) (x : Fault) (below : Below shape (fault_a x * shape.bytes) (fault_b x * shape.bytes) to rows) where
  pub fixed_stuck : (l : ℕ) (level : Bool) → x ≡ Stuck l level → {byte : ℕ} → byte ≡ cond level shape.mask 0 → {out : List ℕ}
      → out ≡ cond (has_room (length rows) to shape.bytes) (splice rows to (tabulate shape.bytes (λ i. byte))) rows
      → out ≡ splice rows to (fixed_row shape x rows)
  unfolding fixed_row
  fixed_stuck l level is {byte} b e =
      level_spliced shape to rows below.at level byte b e ∙ ap (λ (y : Fault). splice rows to (fixed_row shape y rows)) (sym is)

  pub fixed_bridge : (a b : ℕ) (is_and : Bool) → x ≡ Bridge a b is_and → (polynomial : Polynomial) → polynomial ≡ kind_polynomial (cond is_and 0 1) shape.mask → {out : List ℕ}
      → out ≡ cond (step_fits (a * shape.bytes) (b * shape.bytes) to shape.bytes (length rows))
      (splice rows to (tabulate shape.bytes (combined polynomial (a * shape.bytes) (b * shape.bytes) rows))) rows
      → out ≡ splice rows to (fixed_row shape x rows)
  unfolding fixed_row
  fixed_bridge a b is_and is polynomial formed e =
      bridge_spliced shape (a * shape.bytes) (b * shape.bytes) to rows
      (subst (λ (y : Fault). Below shape (fault_a y * shape.bytes) (fault_b y * shape.bytes) to rows) is below) is_and polynomial formed e
      ∙ ap (λ (y : Fault). splice rows to (fixed_row shape y rows)) (sym is)

-- the gate step over the blocks of a gate's line and of the lines that it reads
pub gate_stepped : (b : Batch) (line p q bytes : ℕ) (rows : List ℕ) → p < line → q < line → row_of b line * bytes + b.count * bytes ≤ length rows
    → {x y to : ℕ} → x ≡ row_of b p * bytes → y ≡ row_of b q * bytes → to ≡ row_of b line * bytes → {given polynomial : Polynomial} → given ≡ polynomial → {out : List ℕ}
    → out ≡ cond (step_fits x y to (b.count * bytes) (length rows)) (splice rows to (tabulate (b.count * bytes) (combined given x y rows))) rows
    → out ≡ splice rows (row_of b line * bytes) (tabulate (b.count * bytes) (combined polynomial (row_of b p * bytes) (row_of b q * bytes) rows))
gate_stepped b line p q bytes rows hp hq room {x} {y} {to} ex ey eto formed e =
    fitted _ rows
    (step_fits_lem x y to (b.count * bytes) (length rows) (omega arith) (omega (arith, block_before b p line bytes hp)) (omega (arith, block_before b q line bytes hq))) e
    ∙ (λ i. splice rows (eto i) (tabulate (b.count * bytes) (combined (formed i) (ex i) (ey i) rows)))
