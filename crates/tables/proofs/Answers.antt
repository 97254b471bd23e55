-- What the two operations answer and leave, case by case (specs/Operations.antt).
--
--   kept, put                                              of any operation: a refusal leaves the memory as it was, success fills it from the start
--   table_unread, table_number, table_output, table_memory, table_done   the table of one circuit at one output: reading's refusals, 11, 20, 10, success
--   tables_unread, tables_memory, tables_done              the tables of all circuits: reading's refusals, 10, success
use Prim.Native.Nat.{ℕ, ◌+◌, ◌≤◌, ◌<◌}
use mathlib.Core.Path.{◌≡◌, sym, ap, ap₂, subst, ◌∙◌}
use mathlib.Core.List.{List}
use borrow.Author.Tests.{lt-ltb, le-ltb, le-leb, lt-leb}
use lib.ListN.{length}
use Rattle.bits.specs.Answer.{Answer, Fills, leaves}
use Rattle.bits.specs.Answer.Answer.{gives, refused}
use Rattle.job.specs.declared.Job.{Job}
use Rattle.reading.specs.Reading.{reading}
use Rattle.bits.specs.Sizes.{table_bytes}
use Rattle.bits.specs.Slices.{splice}
use Rattle.tables.specs.Circuit.{circuit_table}
use Rattle.tables.specs.Operations.{table_of, tables_of, tables_to, tables_bytes, counts_of, delivered}
use Rattle.tables.specs.declared.Counts.{Counts}
use Rattle.tables.proofs.WrittenTables.{length_tables_to}
use Rattle.bits.proofs.Splice.{splice_start}

-- a refusal leaves the memory as it was
pub kept : {A : Type 0} (a : Answer (Fills A)) (k : ℕ) (out : List ℕ) → a ≡ refused k → record { answer = refused k; memory = out } ≡ leaves a out
kept {A} a k out e = ap (λ (x : Answer (Fills A)). leaves x out) (sym e)

-- success fills the memory from the start
pub put : {A : Type 0} (a : Answer (Fills A)) (v : A) (new out after : List ℕ) → a ≡ gives (record { value = v; filled = new }) → after ≡ splice out 0 new
    → record { answer = gives v; memory = after } ≡ leaves a out
put {A} a v new out after e p =
    ap (λ (m : List ℕ). record { answer = gives v; memory = m }) (p ∙ splice_start out new) ∙ ap (λ (x : Answer (Fills A)). leaves x out) (sym e)

module _ (s out : List ℕ) (c o : ℕ) where
  pub table_unread : {k : ℕ} → reading s ≡ refused k → record { answer = refused k; memory = out } ≡ leaves (table_of s c o (length out)) out
  unfolding table_of
  table_unread {k} e = kept (table_of s c o (length out)) k out (rw e)

  module _ (j : Job) (e : reading s ≡ gives j) where
    pub table_number : j.fault_count < c → record { answer = refused 11; memory = out } ≡ leaves (table_of s c o (length out)) out
    unfolding table_of
    table_number h = kept (table_of s c o (length out)) 11 out (simp (e, lt-leb c j.fault_count h))

    pub table_output : c ≤ j.fault_count → j.output_count ≤ o → record { answer = refused 20; memory = out } ≡ leaves (table_of s c o (length out)) out
    unfolding table_of
    table_output h k = kept (table_of s c o (length out)) 20 out (simp (e, le-leb c j.fault_count h, le-ltb o j.output_count k))

    module _ (h : c ≤ j.fault_count) (k : o < j.output_count) where
      pub table_memory : length out < table_bytes j.inputs → record { answer = refused 10; memory = out } ≡ leaves (table_of s c o (length out)) out
      unfolding table_of
      table_memory l =
          kept (table_of s c o (length out)) 10 out
          (simp (e, le-leb c j.fault_count h, lt-ltb o j.output_count k, lt-leb (table_bytes j.inputs) (length out) l))

      pub table_done : (after : List ℕ) → table_bytes j.inputs ≤ length out → after ≡ splice out 0 (circuit_table j c o)
          → record { answer = gives tt; memory = after } ≡ leaves (table_of s c o (length out)) out
      unfolding table_of
      table_done after l p =
          put (table_of s c o (length out)) tt (circuit_table j c o) out after
          (simp (e, le-leb c j.fault_count h, lt-ltb o j.output_count k, le-leb (table_bytes j.inputs) (length out) l)) p

module _ (s out : List ℕ) where
  -- a refusal leaves the memory as it was
  refuses : {k : ℕ} → tables_of s (length out) ≡ refused k → record { answer = refused k; memory = out } ≡ delivered (tables_of s (length out)) out
  refuses e = ap (λ (x : Answer (Fills Counts)). delivered x out) (sym e)

  pub tables_unread : {k : ℕ} → reading s ≡ refused k → record { answer = refused k; memory = out } ≡ delivered (tables_of s (length out)) out
  unfolding tables_of
  tables_unread e = refuses (rw e)

  pub tables_memory : (j : Job) → reading s ≡ gives j → length out < tables_bytes j → record { answer = refused 10; memory = out } ≡ delivered (tables_of s (length out)) out
  unfolding tables_of
  tables_memory j e l = refuses (simp (e, lt-leb (tables_bytes j) (length out) l))

  pub tables_done : (j : Job) → reading s ≡ gives j → {counts : Counts} {bytes : ℕ} (after : List ℕ) → counts ≡ counts_of j → bytes ≡ tables_bytes j
      → bytes ≤ length out → after ≡ splice out 0 (tables_to j (j.fault_count + 1))
      → record { answer = gives (record { counts = counts; bytes = bytes }); memory = after } ≡ delivered (tables_of s (length out)) out
  unfolding tables_of
  tables_done j e {counts} {bytes} after counted size l p =
      let room : tables_bytes j ≤ length out = subst (λ (k : ℕ). k ≤ length out) size l in
      let gave : tables_of s (length out) ≡ gives (record { value = counts_of j; filled = tables_to j (j.fault_count + 1) }) =
      simp (e, le-leb (tables_bytes j) (length out) room) in
      ap (λ (x : Counts). record { answer = gives (record { counts = x; bytes = bytes }); memory = after }) counted
      ∙ ap₂ (λ (n : ℕ) (m : List ℕ). record { answer = gives (record { counts = counts_of j; bytes = n }); memory = m })
      (size ∙ sym (length_tables_to j (j.fault_count + 1))) (p ∙ splice_start out (tables_to j (j.fault_count + 1)))
      ∙ ap (λ (x : Answer (Fills Counts)). delivered x out) (sym gave)
