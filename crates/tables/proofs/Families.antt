-- Laws of the listed circuits as tables (specs/Family.antt), and what a call of `tables` delivers.
--
--   tables_entries       circuits with equal tables have equal entries
--   entries_tables       and conversely
--   ValidFamily          what the laws of spectra and signatures ask of a family
--   SameFamily           families with an output whose parts and entries are the same
--   entry_bit            an entry of a circuit's table is 0 or 1
--   family_valid         the family of a valid job is valid
--   Delivers             the bytes give a job with these counts, and its tables stand at the start
--   tables_deliver       what a successful call of `tables` delivers
--   delivery_unread      with room for the most tables it refuses only what reading refuses
use Prim.Native.Nat.{ℕ, zero, suc, ◌+◌, ◌*◌, ◌^◌, ◌≤◌, ◌<◌}
use native.Mathlib.Omega.{arith}
use mathlib.Core.Path.{◌≡◌, refl, sym, ap, ◌∙◌}
use mathlib.Core.Bool.{Bool, true}
use mathlib.Core.List.{List, ◌++◌}
use borrow.Author.Tests.{eq-eqb, eqb-true, le-leb}
use lib.Dec.{eqb, leb}
use lib.ListN.{length, take, drop, length-append}
use lib.Seq.{take_at}
use Rattle.bits.specs.Answer.{Answer, Fills, Leaves}
use Rattle.bits.specs.Answer.Answer.{gives, refused}
use Rattle.bits.specs.Bounds.{each_below}
use Rattle.bits.proofs.Bounds.{each_all, all_each}
use Rattle.bits.proofs.Answers.{gives_same, never_gives, refused_same, unless_gives, onward_gives}
use Rattle.job.specs.Check.{Valid}
use Rattle.job.specs.Layout.{max_inputs, max_outputs, max_faults}
use Rattle.job.specs.Record.{output_at, fault_at, lines}
use Rattle.job.specs.declared.Job.{Job}
use Rattle.reading.specs.Reading.{reading}
use Rattle.reading.proofs.Validity.{reading_valid}
use Rattle.tables.specs.Circuit.{circuit_entry, fixing_of, values_to, free}
use Rattle.tables.specs.Family.{Family, family_of, same_tables}
use Rattle.tables.specs.Operations.{tables_of, tables_to, tables_bytes, counts_of, delivered}
use Rattle.tables.specs.Work.{max_table_bytes, line_value}
use Rattle.tables.specs.declared.Counts.{Counts}
use Rattle.tables.specs.declared.Delivery.{Delivery}
use Rattle.tables.proofs.Faults.{fixed_by_bit}
use Rattle.tables.proofs.Values.{line_bit}
use Rattle.tables.proofs.WrittenTables.{all_tables_room}

-- ---- equal tables

module _ (F : Family) (a b : ℕ) where
  abbrev same_output : ℕ → Bool
  same_output o = each_below (2 ^ F.inputs) (λ m. eqb (F.entry a o m) (F.entry b o m))

  pub tables_entries : same_tables F a b ≡ true → (o m : ℕ) → o < F.outputs → m < 2 ^ F.inputs → F.entry a o m ≡ F.entry b o m
  tables_entries t o m h l =
      eqb-true (F.entry a o m) (F.entry b o m)
      (each_all (2 ^ F.inputs) (λ m. eqb (F.entry a o m) (F.entry b o m)) (each_all F.outputs same_output t o h) m l)

  pub entries_tables : ((o m : ℕ) → o < F.outputs → m < 2 ^ F.inputs → F.entry a o m ≡ F.entry b o m) → same_tables F a b ≡ true
  entries_tables h =
      all_each F.outputs same_output (λ o l. all_each (2 ^ F.inputs) (λ m. eqb (F.entry a o m) (F.entry b o m))
      (λ m k. eq-eqb (F.entry a o m) (F.entry b o m) (h o m l k)))

-- ---- what is asked of a family

pub record ValidFamily (F : Family) : Type 0 where
  pub some : 1 ≤ F.inputs
  pub few : F.inputs ≤ max_inputs
  pub good : 1 ≤ F.circuits
  pub circuits_few : F.circuits ≤ max_faults + 1
  pub one : 1 ≤ F.outputs
  pub outputs_few : F.outputs ≤ max_outputs
  pub bit : (c o m : ℕ) → o < F.outputs → F.entry c o m < 2

pub record SameFamily (F G : Family) : Type 0 where
  pub inputs : F.inputs ≡ G.inputs
  pub circuits : F.circuits ≡ G.circuits
  pub outputs : F.outputs ≡ G.outputs
  pub one : 1 ≤ F.outputs
  pub part : (c : ℕ) → F.part c ≡ G.part c
  pub entry : (c o m : ℕ) → c < F.circuits → o < F.outputs → m < 2 ^ F.inputs → F.entry c o m ≡ G.entry c o m

fixing_bit : (j : Job) (c m l v : ℕ) → v < 2 → fixing_of j c m l v < 2
unfolding fixing_of
fixing_bit j zero m l v h = h
fixing_bit j (suc i) m l v h = fixed_by_bit (fault_at j i) (values_to free j m (lines j)) l v h

pub entry_bit : (j : Job) (c o m : ℕ) → Valid j → o < j.output_count → circuit_entry j c o m < 2
unfolding circuit_entry line_value
entry_bit j c o m v h = line_bit (fixing_of j c) j m (fixing_bit j c m) (output_at j o) (v.output o h)

pub family_valid : (j : Job) → Valid j → ValidFamily (family_of j)
family_valid j v =
    record {
      some = v.some;
      few = v.few;
      good = omega arith;
      circuits_few = omega (arith, v.faults_few);
      one = v.outputs_some;
      outputs_few = v.outputs_few;
      bit = λ c o m h. entry_bit j c o m v h;
    }

-- ---- what a call of `tables` delivers

pub record Delivers (s : List ℕ) (r : Delivery) (after : List ℕ) : Type 0 where
  pub job : Job
  pub read : reading s ≡ gives job
  pub counted : r.counts ≡ counts_of job
  pub inside : r.bytes ≤ length after
  pub stands : take r.bytes after ≡ tables_to job (job.fault_count + 1)

module _ (s out after : List ℕ) where
  delivers : (d : Delivery) (a : Answer (Fills Counts)) → tables_of s (length out) ≡ a → record { answer = gives d; memory = after } ≡ delivered a out → Delivers s d after
  unfolding tables_of
  delivers d (refused k) e q = absurd (never_gives (sym (ap (λ (x : Leaves Delivery). x.answer) q)))
  delivers d (gives w) e q =
      let read = onward_gives (reading s) _ e in
      let j = read.0 in
      let room = unless_gives (leb (tables_bytes j) (length out)) 10 _ read.2 in
      let same = gives_same room.1 in
      let text : after ≡ w.filled ++ drop (length w.filled) out = ap (λ (x : Leaves Delivery). x.memory) q in
      let told : d ≡ record { counts = w.value; bytes = length w.filled } = gives_same (ap (λ (x : Leaves Delivery). x.answer) q) in
      let size : d.bytes ≡ length w.filled = ap (λ (x : Delivery). x.bytes) told in
      record {
        job = j;
        read = read.1;
        counted = ap (λ (x : Delivery). x.counts) told ∙ sym (ap (λ (x : Fills Counts). x.value) same);
        inside =
            let long : length after ≡ length w.filled + length (drop (length w.filled) out) = ap length text ∙ length-append w.filled _ in
            omega arith;
        stands =
            ap (take d.bytes) text ∙ take_at w.filled (drop (length w.filled) out) d.bytes (sym size)
            ∙ sym (ap (λ (x : Fills Counts). x.filled) same);
      }

  pub tables_deliver : {d : Delivery} → record { answer = gives d; memory = after } ≡ delivered (tables_of s (length out)) out → Delivers s d after
  tables_deliver {d} = delivers d (tables_of s (length out)) refl

  module _ {k : ℕ} (p : record { answer = refused k; memory = after } ≡ delivered (tables_of s (length out)) out) where
    unread : (a : Answer Job) → reading s ≡ a → length out ≡ (max_faults + 1) * max_outputs * max_table_bytes → reading s ≡ refused k
    unfolding tables_of
    unread (refused i) e size =
        let same : tables_of s (length out) ≡ refused i = rw e in
        e ∙ ap refused (sym (refused_same {A = Delivery} (ap (λ (x : Leaves Delivery). x.answer) (p ∙ ap (λ (x : Answer (Fills Counts)). delivered x out) same))))
    unread (gives j) e size =
        let room : tables_bytes j ≤ length out = rw size (all_tables_room j (reading_valid s j e)) in
        let gave : tables_of s (length out) ≡ gives (record { value = counts_of j; filled = tables_to j (j.fault_count + 1) }) =
        simp (e, le-leb (tables_bytes j) (length out) room) in
        absurd (never_gives (ap (λ (x : Leaves Delivery). x.answer) (p ∙ ap (λ (x : Answer (Fills Counts)). delivered x out) gave)))

    pub delivery_unread : length out ≡ (max_faults + 1) * max_outputs * max_table_bytes → reading s ≡ refused k
    delivery_unread = unread (reading s) refl
