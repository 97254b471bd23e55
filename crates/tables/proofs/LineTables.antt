-- The tables of a circuit's lines, and rows that hold them, for any fixing.
--
--   Bits          a fixing keeps bits
--   entry_table   an entry of bytes that are a packed table
--   line_read     an entry of bytes that are a line's table is the line's value
--   Puts          a row is put, and the others are as they were
--   row_puts      so where a row is spliced
--   input_table   the table of an input that is not fixed
--   gate_table    the table of a gate that is not fixed, from the tables that it reads
use Prim.Native.Nat.{ℕ, ◌+◌, ◌*◌, ◌^◌, ◌≤◌, ◌<◌}
use native.Mathlib.Omega.{arith}
use mathlib.Core.Path.{◌≡◌, sym, ap, ◌∙◌}
use mathlib.Core.List.{List}
use lib.ListN.{length}
use Rattle.bits.specs.Packed.{packed, entry}
use Rattle.bits.proofs.Packed.{packed_ext, entry_packed}
use Rattle.job.specs.Check.{Valid}
use Rattle.job.specs.Record.{gate_kind, gate_a, gate_b, gate_at, lines}
use Rattle.job.specs.declared.Job.{Job}
use Rattle.gates.specs.Answers.{answer}
use Rattle.bits.specs.Sizes.{table_bytes}
use Rattle.bits.specs.Slices.{splice}
use Rattle.gates.specs.Values.{input_value}
use Rattle.bits.proofs.Slices.{slice_same, slice_other}
use Rattle.tables.specs.Circuit.{Fixing}
use Rattle.tables.specs.Work.{line_value, line_table, row_at, Unfixed}
use Rattle.tables.proofs.Values.{line_bit, line_input, line_gate, first_below, second_below}

abbrev pub Bits : (ℕ → Fixing) → Type 0
Bits fix = (m l v : ℕ) → v < 2 → fix m l v < 2

entry_table : (s : List ℕ) (n : ℕ) (f : ℕ → ℕ) → s ≡ packed n f → ((m : ℕ) → m < n → f m < 2) → (m : ℕ) → m < n → entry s m ≡ f m
entry_table s n f e bits m h = ap (λ (t : List ℕ). entry t m) e ∙ entry_packed n f bits m h

pub record Puts (j : Job) (r : ℕ) (table rows after : List ℕ) : Type 0 where
  pub row : row_at j r after ≡ table
  pub kept : (k : ℕ) → (k ≡ r → ⊥) → row_at j k after ≡ row_at j k rows

module _ (j : Job) (r : ℕ) (table rows after : List ℕ) where
  pub row_puts : length table ≡ table_bytes j.inputs → r * table_bytes j.inputs + table_bytes j.inputs ≤ length rows
      → after ≡ splice rows (r * table_bytes j.inputs) table → Puts j r table rows after
  row_puts long inside put =
      record {
        row = ap (row_at j r) put ∙ slice_same rows (r * table_bytes j.inputs) (table_bytes j.inputs) table long inside;
        kept = λ k ne. ap (row_at j k) put ∙ slice_other rows k r (table_bytes j.inputs) table long inside ne;
      }

module _ (fix : ℕ → Fixing) (bits : Bits fix) (j : Job) where
  pub line_read : (l : ℕ) → l < lines j → (s : List ℕ) → s ≡ line_table fix j l → (m : ℕ) → m < 2 ^ j.inputs → entry s m ≡ line_value fix j l m
  line_read l h s e = entry_table s (2 ^ j.inputs) (line_value fix j l) e (λ m k. line_bit fix j m (bits m) l h)

  pub gate_table : Valid j → (q : ℕ) → q < j.gate_count → Unfixed fix (j.inputs + q) → (x y : List ℕ)
      → x ≡ line_table fix j (gate_a (gate_at j q)) → y ≡ line_table fix j (gate_b (gate_at j q))
      → packed (2 ^ j.inputs) (λ m. answer (gate_kind (gate_at j q)) (entry x m) (entry y m)) ≡ line_table fix j (j.inputs + q)
  gate_table valid q below unfixed x y first second =
      packed_ext (2 ^ j.inputs) (λ m. answer (gate_kind (gate_at j q)) (entry x m) (entry y m)) (line_value fix j (j.inputs + q))
      (λ m h.
      (λ i. answer (gate_kind (gate_at j q))
      (line_read (gate_a (gate_at j q)) (omega (arith, first_below j valid q below)) x first m h i)
      (line_read (gate_b (gate_at j q)) (omega (arith, second_below j valid q below)) y second m h i))
      ∙ sym (line_gate fix j m q (unfixed m) below (first_below j valid q below) (second_below j valid q below)))

pub input_table : (fix : ℕ → Fixing) (j : Job) (l : ℕ) → l < j.inputs → Unfixed fix l → packed (2 ^ j.inputs) (λ m. input_value m l) ≡ line_table fix j l
input_table fix j l h unfixed =
    packed_ext (2 ^ j.inputs) (λ m. input_value m l) (line_value fix j l) (λ m _. sym (line_input fix j m l (unfixed m) h))
