-- What holds of every record that reading gives (specs/Reading.antt).
--
--   reading_valid     it is as the checks of a record demand
--   reading_tight     so it has no loose gate
--   reading_lengths   its lists have their fixed lengths
--   reading_checked   the checks of a record, which writing makes, do not refuse it
use Prim.Native.Nat.{ℕ, zero, suc, ◌+◌, ◌≤◌, ◌<◌}
use native.Mathlib.Nat.{zero-add}
use native.Mathlib.Omega.{arith}
use mathlib.Core.Path.{◌≡◌, refl, sym, ap, ◌∙◌}
use mathlib.Core.Bool.{Bool, true, false, cond}
use mathlib.Core.List.{List}
use borrow.Author.Tests.{leb-true, ltb-true, le-ltb}
use lib.Dec.{leb, ltb, eqb}
use lib.ListN.{length, get_or}
use lib.Seq.{length-sets}
use Rattle.bits.specs.Answer.Answer.{gives}
use Rattle.bits.specs.Bits.{string_of}
use Rattle.bits.proofs.Tests.{and_l, and_r}
use Rattle.job.specs.Check.{Valid, checked, gate_ok, output_ok, fault_line_ok, fault_order_ok, part_ok}
use Rattle.job.specs.Dependence.{no_loose}
use Rattle.job.specs.Layout.{max_inputs, max_gates, max_outputs, max_faults}
use Rattle.job.specs.Record.{fault_of, output_at, lines, unused_gate, unused_fault, no_gates, no_outputs, no_faults}
use Rattle.job.specs.declared.FaultEntry.{FaultEntry}
use Rattle.job.specs.declared.GateEntry.{GateEntry}
use Rattle.job.specs.declared.Job.{Job}
use Rattle.job.proofs.Acceptance.{checked_valid}
use Rattle.job.proofs.Unused.{length_no_gates, length_no_outputs, length_no_faults}
use Rattle.job.proofs.Numbers.{gate_of_ok}
use Rattle.job.proofs.Sizes.{counts_of_outputs, counts_of_faults}
use Rattle.reading.specs.Reading.{reading, fault_lines_ok}
use Rattle.reading.proofs.Inversion.{GateTaken, OutputTaken, FaultTaken, EntriesTaken, chain_each, sets_at, Parts, reading_parts}

-- an entry that was taken stands in the list that is left
entry_left : {A : Type 0} (R : ℕ → List ℕ → A → List ℕ → Type 0) (Good : ℕ → A → Type 0)
    → ((i : ℕ) (bits : List ℕ) (e : A) (rest : List ℕ) → R i bits e rest → Good i e)
    → (count : ℕ) (entries : List A) (bits : List ℕ) (left : List A) (rest : List ℕ) → EntriesTaken R count 0 entries bits left rest → count ≤ length entries
    → (d : A) (k : ℕ) → k < count → Good k (get_or left k d)
entry_left R Good good count entries bits left rest t room d k h =
    let many = t.many in
    let inside : k < length t.taken = omega arith in
    rw (t.same, sets_at t.taken entries (omega arith) d k inside)
    (rw zero-add at (chain_each R Good good t.taken 0 bits rest t.chain d k inside))

gate_good : (n : ℕ) (q : ℕ) (bits : List ℕ) (e : GateEntry) (rest : List ℕ) → GateTaken (n + q) bits e rest → gate_ok (n + q) e.gate ≡ true
gate_good n q bits e rest t =
    ap (λ (x : GateEntry). gate_ok (n + q) x.gate) t.same ∙ gate_of_ok (n + q) t.entry.kind t.entry.a t.entry.b t.below

fault_order : (k a b : ℕ) → fault_lines_ok k a b ≡ true → fault_order_ok (fault_of k a b) ≡ true
fault_order zero a b e = refl
fault_order (suc zero) a b e = refl
fault_order (suc (suc zero)) a b e = e
fault_order (suc (suc (suc k))) a b e =
    let late : ltb (suc (suc (suc k))) 2 ≡ false = le-ltb (suc (suc (suc k))) 2 (omega arith) in
    sym (ap (λ (t : Bool). cond t (eqb b a) (ltb a b)) late) ∙ e

fault_good : (n count : ℕ) (i : ℕ) (bits : List ℕ) (e : FaultEntry) (rest : List ℕ) → FaultTaken n count bits e rest
    → (fault_line_ok n count e.fault ≡ true) × (fault_order_ok e.fault ≡ true) × (part_ok e.part ≡ true)
fault_good n count i bits e rest t = (
  ap (fault_line_ok n count) t.same ∙ t.below,
  ap fault_order_ok t.same ∙ fault_order t.entry.kind t.entry.a t.entry.b t.lines_ok,
  t.part_ok_lem,
)

parts_valid : (bits : List ℕ) (j : Job) → Parts bits j → Valid j
parts_valid bits j p =
    let gates_few : j.gate_count ≤ max_gates = leb-true j.gate_count max_gates p.gates_ok in
    let outputs_few : j.output_count ≤ max_outputs = let h = p.output_count_fits in let e = counts_of_outputs in omega arith in
    let faults_few : j.fault_count ≤ max_faults = let h = p.fault_count_fits in let l = counts_of_faults in omega arith in
    let fault =
    entry_left (λ _. FaultTaken j.inputs (lines j)) (λ i x. (fault_line_ok j.inputs (lines j) x.fault ≡ true) × (fault_order_ok x.fault ≡ true) × (part_ok x.part ≡ true))
    (fault_good j.inputs (lines j)) j.fault_count no_faults p.before_faults j.faults p.spare_bits p.faults
    (rw length_no_faults faults_few) unused_fault
    in
    record {
      some = leb-true 1 j.inputs (and_l (leb 1 j.inputs) (leb j.inputs max_inputs) p.inputs_ok_lem);
      few = leb-true j.inputs max_inputs (and_r (leb 1 j.inputs) (leb j.inputs max_inputs) p.inputs_ok_lem);
      gates_few = gates_few;
      gate =
          entry_left (λ q. GateTaken (j.inputs + q)) (λ q x. gate_ok (j.inputs + q) x.gate ≡ true)
          (gate_good j.inputs) j.gate_count no_gates p.before_gates j.gates p.after_gates p.gates
          (rw length_no_gates gates_few) unused_gate;
      outputs_some = p.outputs_some;
      outputs_few = outputs_few;
      output = λ o h.
          ltb-true (output_at j o) (lines j)
          (entry_left (λ _. OutputTaken (lines j)) (λ _ line. output_ok (lines j) line ≡ true) (λ _ bits line rest t. t.below)
          j.output_count no_outputs p.before_outputs j.outputs p.after_outputs p.outputs
          (rw length_no_outputs outputs_few) 0 o h);
      tight = p.tight;
      faults_few = faults_few;
      fault_line = λ i h. (fault i h).0;
      fault_order = λ i h. (fault i h).1;
      fault_part = λ i h. (fault i h).2;
    }

pub reading_valid : (s : List ℕ) (j : Job) → reading s ≡ gives j → Valid j
reading_valid s j e = parts_valid (string_of s) j (reading_parts s j e)

pub reading_tight : (s : List ℕ) (j : Job) → reading s ≡ gives j → no_loose j ≡ true
reading_tight s j e = (reading_valid s j e).tight

pub reading_lengths : (s : List ℕ) (j : Job) → reading s ≡ gives j
    → (length j.gates ≡ max_gates) × (length j.outputs ≡ max_outputs) × (length j.faults ≡ max_faults)
reading_lengths s j e =
    let p = reading_parts s j e in (
      ap length p.gates.same ∙ length-sets no_gates 0 p.gates.taken ∙ length_no_gates,
      ap length p.outputs.same ∙ length-sets no_outputs 0 p.outputs.taken ∙ length_no_outputs,
      ap length p.faults.same ∙ length-sets no_faults 0 p.faults.taken ∙ length_no_faults,
    )

pub reading_checked : (s : List ℕ) (j : Job) → reading s ≡ gives j → checked j ≡ gives tt
reading_checked s j e = checked_valid j (reading_valid s j e)
