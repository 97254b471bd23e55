-- The columns of a line's block in which the line is fixed, put one after the other (specs/Work.antt).
--
--   made_done        no column is left: the line is done
--   Mending          a line's block is made but for the columns that are left
--   mending_column   the lowest column that is left is one of the batch, and its place fits a word (mending_offset, mending_place)
--   mending_faulty   the batch's circuits are faulty
--   mending_index    the column's fault is one of the record's
--   mending_below    the good circuit's rows are before the column's
--   mending_next     its table is put
use Prim.Native.Nat.{ℕ, zero, suc, ◌+◌, ◌-◌, ◌*◌, ◌^◌, ◌≤◌, ◌<◌}
use native.Mathlib.Omega.{arith}
use native.Mathlib.Nat.{add-mul}
use native.Mathlib.Decide.{ℕ_discrete}
use mathlib.Core.Path.{◌≡◌, sym, ap, subst, ◌∙◌}
use mathlib.Core.Bool.{Bool, true, false, not, ◌&&◌, and-true, true≢false}
use mathlib.Core.List.{List}
use mathlib.Core.Logic.{⊎_elim}
use borrow.Author.Tests.{ne_eqb, ltb-true}
use lib.Dec.{eqb, ltb}
use lib.ListN.{length}
use mir.Syntax.{w64}
use mir.Val.{Fits}
use Rattle.bits.specs.Sets.{has, lowest, later, First}
use Rattle.bits.proofs.Below.{lt_or_ge}
use Rattle.bits.proofs.Membership.{has_none, set_lowest, set_later, later_word}
use Rattle.bits.proofs.Packed.{length_packed}
use Rattle.bits.proofs.Tests.{and_l, and_r}
use Rattle.job.specs.Layout.{max_faults}
use Rattle.job.specs.Record.{fault_a, fault_b, fault_at, lines}
use Rattle.job.specs.declared.Job.{Job}
use Rattle.bits.specs.Sizes.{table_bytes}
use Rattle.bits.specs.Slices.{splice}
use Rattle.tables.specs.Circuit.{fixing_of}
use Rattle.tables.specs.Sizes.{shape_of, Below, fixed_row}
use Rattle.tables.specs.Work.{line_value, line_table, row_at, row_of, fixes_line, Fixes, side_table, Side, Made}
use Rattle.tables.specs.declared.evaluator.Batch.{Batch}
use Rattle.tables.specs.declared.rows.Shape.{Shape}
use Rattle.tables.proofs.Batches.{side_kept, side_next}
use Rattle.tables.proofs.Faults.{fixes, fixed_table}
use Rattle.tables.proofs.LineTables.{Puts, row_puts}
use Rattle.tables.proofs.Space.{Sound, fault_number, fault_index, sound_kept, row_inside, column_fits, offset_fits, column_below}

pub made_done : {j : Job} {b : Batch} {l left : ℕ} {rows : List ℕ} → Made j b l left rows → left ≡ 0 → Side j b (l + 1) rows
made_done {j} {b} {l} {left} {rows} made none =
    side_next j b l rows made.before (λ i h. made.done i h (ap (λ (s : ℕ). has s i) none ∙ has_none i))

-- a circuit that fixes a line is not the good one
fixes_some : (j : Job) (c l : ℕ) → fixes_line j c l ≡ true → 1 ≤ c
fixes_some j zero l e = absurd (true≢false (sym e))
fixes_some j (suc c) l e = omega arith

pub record Mending (j : Job) (b : Batch) (l : ℕ) (start : List ℕ) (left : ℕ) (rows : List ℕ) : Type 0 where
  pub long : length rows ≡ length start
  pub word : left < 2 ^ 64
  pub made : Made j b l left rows

module _ {j : Job} {shape : Shape} {b : Batch} {l left : ℕ} {start rows : List ℕ} (sound : Sound j shape b start) (below : l < lines j)
    (m : Mending j b l start left rows) {i rest : ℕ} (f : First left i rest) where
  now_sound : Sound j shape b rows
  now_sound = sound_kept sound m.long

  here : ltb (lowest left) b.count && fixes_line j (b.first + lowest left) l ≡ true
  here = m.made.fixed (lowest left) (set_lowest left m.word (omega (arith, f.some))).member

  column : lowest left < b.count
  column = ltb-true (lowest left) b.count (and_l (ltb (lowest left) b.count) (fixes_line j (b.first + lowest left) l) here)

  fixed_here : fixes_line j (b.first + lowest left) l ≡ true
  fixed_here = and_r (ltb (lowest left) b.count) (fixes_line j (b.first + lowest left) l) here

  pub mending_faulty : 1 ≤ b.first
  mending_faulty =
      ⊎_elim
      (λ h. let none : b.first ≡ 0 = omega arith in
      absurd (omega (arith, column, (sound.stands.alone none).1, fixes_some j (b.first + lowest left) l fixed_here)))
      (λ h. h) (lt_or_ge b.first 1)

  fault : b.first - 1 + lowest left < j.fault_count
  fault = fault_number mending_faulty sound.stands.within column

  number : b.first + lowest left ≡ suc (b.first - 1 + lowest left)
  number = omega (arith, mending_faulty)

  pub mending_index : b.first - 1 + i < max_faults
  mending_index = subst (λ (n : ℕ). b.first - 1 + n < max_faults) (sym f.least) (fault_index sound.valid fault)

  mending_column : i < b.count
  mending_column = subst (λ (n : ℕ). n < b.count) (sym f.least) column

  pub mending_offset : length start < 2 ^ 64 → Fits w64 (i * shape.bytes)
  mending_offset = offset_fits sound below mending_column

  module _ {to : ℕ} (at : to ≡ row_of b l * shape.bytes) where
    pub mending_place : length start < 2 ^ 64 → Fits w64 (to + i * shape.bytes)
    mending_place short = column_fits sound below mending_column short at

    pub mending_below : Below shape (fault_a (fault_at j (b.first - 1 + i)) * shape.bytes) (fault_b (fault_at j (b.first - 1 + i)) * shape.bytes) (to + i * shape.bytes) rows
    mending_below =
        column_below now_sound below mending_column (subst (λ (n : ℕ). Fixes j (fault_at j (b.first - 1 + n))) (sym f.least) (fixes sound.valid fault)) mending_faulty at

  -- where one column is put, a column that has its table still has it
  module _ (after : List ℕ) (puts : Puts j (row_of b l + lowest left) (side_table j b (lowest left) l) rows after) where
    other : (i : ℕ) → (i ≡ lowest left → ⊥) → i < b.count → has (later left) i ≡ false → row_at j (row_of b l + i) after ≡ side_table j b i l
    other i n h none =
        puts.kept (row_of b l + i) (λ e. n (omega arith))
        ∙ m.made.done i h
        (sym (and-true (has left i)) ∙ sym (ap (λ (t : Bool). has left i && not t) (ne_eqb (lowest left) i (λ e. n (sym e)))) ∙ sym (set_later left i m.word) ∙ none)

    put_next : Made j b l (later left) after
    put_next =
        record {
          before = side_kept j b l rows after sound.stands.behind m.made.before (λ k before. puts.kept k (λ e. omega arith));
          fixed = λ i h. m.made.fixed i (and_l (has left i) (not (eqb (lowest left) i)) (sym (set_later left i m.word) ∙ h));
          done = λ i h none. go i h none (ℕ_discrete i (lowest left));
        }
      where
        go : (i : ℕ) → i < b.count → has (later left) i ≡ false → Dec (i ≡ lowest left) → row_at j (row_of b l + i) after ≡ side_table j b i l
        go i h none (yes e) = subst (λ (n : ℕ). row_at j (row_of b l + n) after ≡ side_table j b n l) (sym e) puts.row
        go i h none (no n) = other i n h none

  -- the table that the column's fault gives the line
  table : fixed_row (shape_of j.inputs) (fault_at j (b.first - 1 + lowest left)) rows ≡ side_table j b (lowest left) l
  unfolding fixing_of
  table =
      fixed_table j rows (m.made.before.good mending_faulty) (fault_at j (b.first - 1 + lowest left)) (fixes sound.valid fault) l below
      (ap (λ (c : ℕ). fixes_line j c l) (sym number) ∙ fixed_here)
      ∙ ap (λ (c : ℕ). line_table (fixing_of j c) j l) (sym number)

  pub mending_next : {to : ℕ} → to ≡ row_of b l * shape.bytes → {after : List ℕ} → length after ≡ length rows
      → after ≡ splice rows (to + i * shape.bytes) (fixed_row shape (fault_at j (b.first - 1 + i)) rows) → Mending j b l start rest after
  mending_next {to} at {after} long e =
      record {
        long = long ∙ m.long;
        word = subst (λ (s : ℕ). s < 2 ^ 64) (sym f.rest) (later_word m.word);
        made =
            subst (λ (s : ℕ). Made j b l s after) (sym f.rest)
            (put_next after
            (row_puts j (row_of b l + lowest left) (side_table j b (lowest left) l) rows after
            (length_packed (2 ^ j.inputs) (line_value (fixing_of j (b.first + lowest left)) j l)) (row_inside now_sound below column) put));
      }
    where
      put : after ≡ splice rows ((row_of b l + lowest left) * table_bytes j.inputs) (side_table j b (lowest left) l)
      put =
          e ∙ (λ t. splice rows (at t + f.least t * shape.bytes) (fixed_row shape (fault_at j (b.first - 1 + f.least t)) rows))
          ∙ ap (λ (n : ℕ). splice rows n (fixed_row shape (fault_at j (b.first - 1 + lowest left)) rows)) (sym (add-mul (row_of b l) (lowest left) shape.bytes))
          ∙ ap (λ (s : Shape). splice rows ((row_of b l + lowest left) * s.bytes) (fixed_row s (fault_at j (b.first - 1 + lowest left)) rows)) sound.shaped
          ∙ ap (splice rows ((row_of b l + lowest left) * table_bytes j.inputs)) table
