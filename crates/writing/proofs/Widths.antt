-- What a valid record says of the widths of its fields (job's specs/Check.antt).
--
--   line_fits                             a line fits its field
--   inputs_fit, gates_fit, outputs_fit, faults_fit   the counts fit theirs, the outputs' less 1
--   part_lt                               a part that passes its test fits its field
--   all_gates_fit, all_lines_fit, all_faults_fit   the gates, the output lines and the faults in use fit theirs
use Prim.Native.Nat.{ℕ, ◌+◌, ◌-◌, ◌^◌, ◌≤◌, ◌<◌}
use mathlib.Core.Path.{◌≡◌}
use mathlib.Core.Bool.{true}
use native.Mathlib.Omega.{arith}
use borrow.Author.Tests.{leb-true, ltb-true}
use lib.Dec.{leb, ltb}
use lib.ListN.{get_or, take, length-take}
use lib.Seq.{get_or-take}
use mathlib.Core.List.{List}
use Rattle.std.proofs.Common.{All}
use Rattle.std.proofs.lemmas.List.Elements.{All-from_get_or}
use Rattle.bits.proofs.Tests.{and_l, and_r}
use Rattle.job.specs.Check.{fault_line_ok, part_ok, Valid}
use Rattle.job.specs.Layout.{max_part, input_count_bits, gate_count_bits, gate_kind_bits, line_bits, output_count_bits, fault_count_bits, fault_kind_bits, part_bits}
use Rattle.job.specs.Record.{gate_kind, gate_a, gate_b, gate_at, unused_gate, fault_kind, fault_a, fault_b, fault_at, part_at, unused_fault, lines}
use Rattle.job.specs.declared.Fault.{Fault}
use Rattle.job.specs.declared.Fault.TheVariants.{Stuck, Bridge}
use Rattle.job.specs.declared.Job.{Job}
use Rattle.job.proofs.Numbers.{gate_kind_lt, fault_kind_lt}
use Rattle.job.proofs.Sizes.{all_lines, all_inputs, all_gates, counts_of_outputs, all_faults, all_parts}
use Rattle.writing.specs.Pen.{EntryFits, GateFits, LineFits, FaultFits}

fault_lines : (n count : ℕ) (x : Fault) → n ≤ count → fault_line_ok n count x ≡ true → (fault_a x < count) × (fault_b x < count)
fault_lines n count (Stuck l level) h e = (ltb-true l count e, ltb-true l count e)
fault_lines n count (Bridge a b is_and) h e =
    let low = ltb-true a n (and_l (ltb a n) (ltb b n) e) in
    let high = ltb-true b n (and_r (ltb a n) (ltb b n) e) in
    (omega arith, omega arith)

pub part_lt : (part : ℕ) → part_ok part ≡ true → part < 2 ^ part_bits
part_lt part ok =
    let few = leb-true part max_part (and_r (leb 1 part) (leb part max_part) ok) in
    let e = all_parts in
    omega arith

front_all : {A : Type 0} (P : A → Type 0) (count : ℕ) (entries : List A) (d : A) → ((i : ℕ) → i < count → P (get_or entries i d)) → All P (take count entries)
front_all P count entries d h =
    All-from_get_or P (take count entries) d
    (λ i l. let inside : i < count = omega (arith, length-take count entries) in rw (get_or-take count entries i d inside) (h i inside))

module _ {j : Job} (v : Valid j) where
  pub line_fits : {l : ℕ} → l < lines j → l < 2 ^ line_bits
  line_fits h = let e = all_lines in omega arith

  pub inputs_fit : j.inputs < 2 ^ input_count_bits
  inputs_fit = let e = all_inputs in omega arith

  pub gates_fit : j.gate_count < 2 ^ gate_count_bits
  gates_fit = let e = all_gates in omega arith

  pub outputs_fit : j.output_count - 1 < 2 ^ output_count_bits
  outputs_fit = let e = counts_of_outputs in omega (arith, v.outputs_some, v.outputs_few)

  pub faults_fit : j.fault_count < 2 ^ fault_count_bits
  faults_fit = let e = all_faults in omega arith

  gate_fits : (q : ℕ) → q < j.gate_count → EntryFits gate_kind_bits (gate_kind (gate_at j q)) (gate_a (gate_at j q)) (gate_b (gate_at j q))
  gate_fits q h =
      let own = j.inputs + q in
      let a = ltb-true (gate_a (gate_at j q)) own (and_l (ltb (gate_a (gate_at j q)) own) (ltb (gate_b (gate_at j q)) own) (v.gate q h)) in
      let b = ltb-true (gate_b (gate_at j q)) own (and_r (ltb (gate_a (gate_at j q)) own) (ltb (gate_b (gate_at j q)) own) (v.gate q h)) in
      record { kind_fits = gate_kind_lt (gate_at j q); a_fits = line_fits (omega arith); b_fits = line_fits (omega arith) }

  fault_fits : (i : ℕ) → i < j.fault_count → EntryFits fault_kind_bits (fault_kind (fault_at j i)) (fault_a (fault_at j i)) (fault_b (fault_at j i))
  fault_fits i h =
      let in_range = fault_lines j.inputs (lines j) (fault_at j i) (omega arith) (v.fault_line i h) in
      record { kind_fits = fault_kind_lt (fault_at j i); a_fits = line_fits in_range.0; b_fits = line_fits in_range.1 }

  part_fits : (i : ℕ) → i < j.fault_count → part_at j i < 2 ^ part_bits
  part_fits i h = part_lt (part_at j i) (v.fault_part i h)

  pub all_gates_fit : All GateFits (take j.gate_count j.gates)
  all_gates_fit = front_all GateFits j.gate_count j.gates unused_gate gate_fits

  pub all_lines_fit : All LineFits (take j.output_count j.outputs)
  all_lines_fit = front_all LineFits j.output_count j.outputs 0 (λ o h. line_fits (v.output o h))

  pub all_faults_fit : All FaultFits (take j.fault_count j.faults)
  all_faults_fit = front_all FaultFits j.fault_count j.faults unused_fault (λ i h. (fault_fits i h, part_fits i h))
