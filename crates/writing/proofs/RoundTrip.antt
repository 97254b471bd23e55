-- Reading and writing a job undo each other (document 01, "Job layout").
--
--   bits_job_bits     the string of a job has bits alone
--   written_read      writing a record that was read gives the very bytes
--   written_room      writing such a record is refused for want of memory alone, and else fills in the very bytes
--   read_written      reading the bytes of a record gives the record, its unused entries reset
--   read_filled       so reading what writing filled in gives that
--   reset_read        a record that was read has its unused entries reset
use Prim.Native.Nat.{ℕ, suc, ◌+◌, ◌-◌, ◌^◌, ◌≤◌, ◌<◌, suc-le-suc}
use native.Mathlib.Nat.{add-zero, zero-add, le_trans}
use native.Mathlib.Omega.{arith}
use mathlib.Core.Path.{◌≡◌, refl, sym, ap, ap₂, ◌∙◌}
use mathlib.Core.Bool.{true, false}
use mathlib.Core.List.{List, [], ◌∷◌, ◌++◌, append_assoc}
use borrow.Author.Tests.{ltb-true, le-leb, lt-ltb, eq-eqb}
use lib.Dec.{leb, ltb}
use lib.ListN.{length, get_or, take, set, replicate}
use lib.Seq.{sets, length-take-le, get_or-take}
use Rattle.bits.specs.Answer.{Answer, Fills, unless}
use Rattle.bits.specs.Answer.Answer.{gives}
use Rattle.bits.specs.Bits.{bits_of, string_of, bytes_of}
use Rattle.bits.specs.Field.{spare_only}
use Rattle.bits.specs.Parser.{Parser, Parsed, parsed, and_then}
use Rattle.bits.proofs.Answers.{gives_same, unless_gives, onward_gives, field_takes}
use Rattle.bits.proofs.Bits.{AllBits, bits_append, bits_bits_of}
use Rattle.bits.proofs.Packed.{Bytes}
use Rattle.bits.proofs.Tests.{and_l, and_r}
use Rattle.bits.proofs.SpareBits.{spare_count, string_of_bytes_of, zeros_spare, bytes_of_spare}
use Rattle.job.specs.Check.{Valid, checked, gate_ok, fault_line_ok, fault_order_ok, part_ok}
use Rattle.job.specs.Dependence.{gates_of, none_loose, output_lines}
use Rattle.job.specs.Layout.{max_inputs, max_gates, max_outputs, max_faults, input_count_bits, gate_count_bits, gate_kind_bits, line_bits, output_count_bits, fault_count_bits, fault_kind_bits, part_bits}
use Rattle.job.specs.Record.{gate_kind, gate_a, gate_b, fault_kind, fault_a, fault_b, lines, empty_job, reset, no_gates, no_outputs, no_faults, unused_gate, unused_fault}
use Rattle.job.specs.declared.BinaryKind.TheVariants.{And, Or, Nand, Nor, Xor, Xnor}
use Rattle.job.specs.declared.UnaryKind.TheVariants.{Buf, Not}
use Rattle.job.specs.declared.Gate.{Gate}
use Rattle.job.specs.declared.Gate.TheVariants.{Unary, Binary}
use Rattle.job.specs.declared.Fault.{Fault}
use Rattle.job.specs.declared.Fault.TheVariants.{Stuck, Bridge}
use Rattle.job.specs.declared.FaultEntry.{FaultEntry}
use Rattle.job.specs.declared.GateEntry.{GateEntry}
use Rattle.job.specs.declared.Job.{Job}
use Rattle.job.proofs.Sizes.{all_lines}
use Rattle.job.proofs.Unused.{length_no_gates, length_no_outputs, length_no_faults}
use Rattle.job.proofs.Validity.{valid}
use Rattle.job.proofs.Numbers.{gate_kind_of, gate_a_of, gate_b_of, fault_kind_of, fault_a_of, fault_b_of, gate_of_parts, fault_of_parts, gate_kind_lt, fault_kind_lt}
use Rattle.reading.specs.Reading.{entry_fields, unary_lines_ok, gate, output_line, fault_lines_ok, fault, entries_from, spare, from_end, from_faults, from_fault_count, from_outputs, from_output_count, from_gates, whole_job, value_read, reading}
use Rattle.reading.proofs.Inversion.{GateTaken, OutputTaken, FaultTaken, Chain, EntriesTaken, sets_taken, Parts, reading_parts}
use Rattle.reading.proofs.Validity.{reading_checked, reading_lengths, reading_valid}
use Rattle.writing.specs.Writing.{entry_bits, gate_bits, fault_bits, all_bits, job_bits, written}
use Rattle.writing.proofs.Widths.{line_fits, inputs_fit, gates_fit, outputs_fit, faults_fit, part_lt}

-- ---- the string of a job

entry_bits_append : (w kind a b : ℕ) (rest : List ℕ) → entry_bits w kind a b ++ rest ≡ bits_of w kind ++ (bits_of line_bits a ++ (bits_of line_bits b ++ rest))
unfolding entry_bits
entry_bits_append w kind a b rest = simp append_assoc

job_bits_append : (j : Job) (rest : List ℕ) → job_bits j ++ rest
    ≡ bits_of input_count_bits j.inputs
    ++ (bits_of gate_count_bits j.gate_count
    ++ (all_bits gate_bits (take j.gate_count j.gates)
    ++ (bits_of output_count_bits (j.output_count - 1)
    ++ (all_bits (bits_of line_bits) (take j.output_count j.outputs)
    ++ (bits_of fault_count_bits j.fault_count
    ++ (all_bits fault_bits (take j.fault_count j.faults) ++ rest))))))
unfolding job_bits
job_bits_append j rest = simp append_assoc

bits_entry_bits : (w kind a b : ℕ) → AllBits (entry_bits w kind a b)
unfolding entry_bits
bits_entry_bits w kind a b =
    bits_append (bits_of w kind) (bits_of line_bits a ++ bits_of line_bits b) (bits_bits_of w kind)
    (bits_append (bits_of line_bits a) (bits_of line_bits b) (bits_bits_of line_bits a) (bits_bits_of line_bits b))

bits_fault_bits : (e : FaultEntry) → AllBits (fault_bits e)
bits_fault_bits e =
    bits_append (entry_bits fault_kind_bits (fault_kind e.fault) (fault_a e.fault) (fault_b e.fault)) _
    (bits_entry_bits fault_kind_bits (fault_kind e.fault) (fault_a e.fault) (fault_b e.fault)) (bits_bits_of part_bits _)

bits_all_bits : {A : Type 0} (print : A → List ℕ) → ((e : A) → AllBits (print e)) → (es : List A) → AllBits (all_bits print es)
bits_all_bits print h [] = tt
bits_all_bits print h (e ∷ es) = bits_append (print e) (all_bits print es) (h e) (bits_all_bits print h es)

pub bits_job_bits : (j : Job) → AllBits (job_bits j)
unfolding job_bits
bits_job_bits j =
    bits_append (bits_of input_count_bits j.inputs) _ (bits_bits_of input_count_bits j.inputs)
    (bits_append (bits_of gate_count_bits j.gate_count) _ (bits_bits_of gate_count_bits j.gate_count)
    (bits_append (all_bits gate_bits (take j.gate_count j.gates)) _ (bits_all_bits gate_bits (λ e. bits_entry_bits gate_kind_bits (gate_kind e.gate) (gate_a e.gate) (gate_b e.gate)) (take j.gate_count j.gates))
    (bits_append (bits_of output_count_bits (j.output_count - 1)) _ (bits_bits_of output_count_bits (j.output_count - 1))
    (bits_append (all_bits (bits_of line_bits) (take j.output_count j.outputs)) _ (bits_all_bits (bits_of line_bits) (bits_bits_of line_bits) (take j.output_count j.outputs))
    (bits_append (bits_of fault_count_bits j.fault_count) _ (bits_bits_of fault_count_bits j.fault_count)
    (bits_all_bits fault_bits bits_fault_bits (take j.fault_count j.faults)))))))

-- ---- from bytes to a record and back

-- what entries took is what they are written as
chain_text : {A : Type 0} (R : ℕ → List ℕ → A → List ℕ → Type 0) (print : A → List ℕ)
    → ((i : ℕ) (bits : List ℕ) (e : A) (rest : List ℕ) → R i bits e rest → bits ≡ print e ++ rest)
    → (es : List A) (i : ℕ) (bits rest : List ℕ) → Chain R i bits es rest → bits ≡ all_bits print es ++ rest
chain_text R print text [] i bits rest c = c
chain_text R print text (e ∷ es) i bits rest c =
    text i bits e c.0 c.1
    ∙ ap (λ (x : List ℕ). print e ++ x) (chain_text R print text es (suc i) c.0 rest c.2)
    ∙ sym (append_assoc (print e) (all_bits print es) rest)

entries_text_lem : {A : Type 0} (R : ℕ → List ℕ → A → List ℕ → Type 0) (print : A → List ℕ)
    → ((i : ℕ) (bits : List ℕ) (e : A) (rest : List ℕ) → R i bits e rest → bits ≡ print e ++ rest)
    → (count : ℕ) (entries : List A) (bits : List ℕ) (left : List A) (rest : List ℕ) → EntriesTaken R count 0 entries bits left rest → count ≤ length entries
    → bits ≡ all_bits print (take count left) ++ rest
entries_text_lem R print text count entries bits left rest t room =
    let many = t.many in
    chain_text R print text t.taken 0 bits rest t.chain
    ∙ ap (λ (es : List _). all_bits print es ++ rest)
    (sym (ap₂ take (sym many) t.same ∙ sets_taken t.taken entries (omega arith)))

gate_text : (n : ℕ) (i : ℕ) (bits : List ℕ) (e : GateEntry) (rest : List ℕ) → GateTaken (n + i) bits e rest → bits ≡ gate_bits e ++ rest
gate_text n i bits e rest t =
    let x = t.entry in
    let fits = t.taken.kind_fits in
    t.taken.text
    ∙ sym
    (ap (λ (y : GateEntry). gate_bits y ++ rest) t.same
    ∙ (λ i. entry_bits gate_kind_bits (gate_kind_of x.a x.b x.kind fits i) (gate_a_of x.a x.b x.kind fits i) (gate_b_of x.a x.b x.kind fits t.lines_ok i) ++ rest)
    ∙ entry_bits_append gate_kind_bits x.kind x.a x.b rest)

fault_text : (n count : ℕ) (i : ℕ) (bits : List ℕ) (e : FaultEntry) (rest : List ℕ) → FaultTaken n count bits e rest → bits ≡ fault_bits e ++ rest
fault_text n count i bits e rest t =
    let x = t.entry in
    let fits = t.taken.kind_fits in
    let entry = entry_bits fault_kind_bits x.kind x.a x.b in
    let part = bits_of part_bits e.part in
    t.taken.text
    ∙ sym (entry_bits_append fault_kind_bits x.kind x.a x.b t.behind)
    ∙ ap (λ (l : List ℕ). entry ++ l) t.part_taken.text
    ∙ sym
    (ap (λ (f : Fault). (entry_bits fault_kind_bits (fault_kind f) (fault_a f) (fault_b f) ++ part) ++ rest) t.same
    ∙ (λ i. (entry_bits fault_kind_bits (fault_kind_of x.a x.b x.kind fits i) (fault_a_of x.a x.b x.kind fits i) (fault_b_of x.a x.b x.kind fits t.lines_ok i) ++ part) ++ rest)
    ∙ append_assoc entry part rest)

parts_text : (bits : List ℕ) (j : Job) → Valid j → (p : Parts bits j) → bits ≡ job_bits j ++ p.spare_bits
parts_text bits j v p =
    p.counts_text
    ∙ ap (λ (x : List ℕ). bits_of input_count_bits j.inputs ++ (bits_of gate_count_bits j.gate_count ++ x))
    (entries_text_lem (λ q. GateTaken (j.inputs + q)) gate_bits (gate_text j.inputs) j.gate_count no_gates p.before_gates j.gates p.after_gates p.gates (rw length_no_gates v.gates_few)
    ∙ ap (λ (x : List ℕ). all_bits gate_bits (take j.gate_count j.gates) ++ x)
    (p.output_count_text
    ∙ ap (λ (x : List ℕ). bits_of output_count_bits (j.output_count - 1) ++ x)
    (entries_text_lem (λ _. OutputTaken (lines j)) (bits_of line_bits) (λ _ bits line rest t. t.taken.text) j.output_count no_outputs p.before_outputs j.outputs p.after_outputs p.outputs (rw length_no_outputs v.outputs_few)
    ∙ ap (λ (x : List ℕ). all_bits (bits_of line_bits) (take j.output_count j.outputs) ++ x)
    (p.fault_count_text
    ∙ ap (λ (x : List ℕ). bits_of fault_count_bits j.fault_count ++ x)
    (entries_text_lem (λ _. FaultTaken j.inputs (lines j)) fault_bits (fault_text j.inputs (lines j)) j.fault_count no_faults p.before_faults j.faults p.spare_bits p.faults (rw length_no_faults v.faults_few))))))
    ∙ sym (job_bits_append j p.spare_bits)

pub written_read : (s : List ℕ) (j : Job) → Bytes s → reading s ≡ gives j → bytes_of (job_bits j) ≡ s
written_read s j h e =
    let p = reading_parts s j e in
    bytes_of_spare s (job_bits j) p.spare_bits h (bits_job_bits j) p.faults.bits_left (parts_text (string_of s) j (reading_valid s j e) p) p.spare_ok

pub written_room : (s : List ℕ) (j : Job) → Bytes s → reading s ≡ gives j
    → (room : ℕ) → written j room ≡ unless (leb (length s) room) 10 (gives (record { value = length s; filled = s }))
unfolding written
written_room s j h e room = rw (reading_checked s j e, written_read s j h e)

-- ---- from a record to bytes and back

entry_fields_takes : (w kind a b : ℕ) (rest : List ℕ) → kind < 2 ^ w → a < 2 ^ line_bits → b < 2 ^ line_bits
    → entry_fields w (entry_bits w kind a b ++ rest) ≡ parsed (record { kind = kind; a = a; b = b }) rest
unfolding entry_fields
entry_fields_takes w kind a b rest hk ha hb =
    rw (
      entry_bits_append,
      field_takes w kind (bits_of line_bits a ++ (bits_of line_bits b ++ rest)) hk,
      field_takes line_bits a (bits_of line_bits b ++ rest) ha,
      field_takes line_bits b rest hb,
    )

unary_lines : (g : Gate) → unary_lines_ok (gate_kind g) (gate_a g) (gate_b g) ≡ true
unary_lines (Binary And a b) = refl
unary_lines (Binary Or a b) = refl
unary_lines (Binary Nand a b) = refl
unary_lines (Binary Nor a b) = refl
unary_lines (Binary Xor a b) = refl
unary_lines (Binary Xnor a b) = refl
unary_lines (Unary Not a) = eq-eqb a a refl
unary_lines (Unary Buf a) = eq-eqb a a refl

gate_takes : (own : ℕ) (e : GateEntry) (rest : List ℕ) → gate_ok own e.gate ≡ true → own ≤ 2 ^ line_bits → gate own (gate_bits e ++ rest) ≡ parsed e rest
unfolding gate
gate_takes own e rest ok fit =
    let g = e.gate in
    let a : gate_a g < 2 ^ line_bits = le_trans (ltb-true (gate_a g) own (and_l (ltb (gate_a g) own) (ltb (gate_b g) own) ok)) fit in
    let b : gate_b g < 2 ^ line_bits = le_trans (ltb-true (gate_b g) own (and_r (ltb (gate_a g) own) (ltb (gate_b g) own) ok)) fit in
    rw (entry_fields_takes gate_kind_bits (gate_kind g) (gate_a g) (gate_b g) rest (gate_kind_lt g) a b, ok, unary_lines g, gate_of_parts g)

output_takes : (count line : ℕ) (rest : List ℕ) → line < count → line < 2 ^ line_bits → output_line count (bits_of line_bits line ++ rest) ≡ parsed line rest
unfolding output_line
output_takes count line rest below fit = rw (field_takes line_bits line rest fit, lt-ltb line count below)

fault_lines : (x : Fault) → fault_order_ok x ≡ true → fault_lines_ok (fault_kind x) (fault_a x) (fault_b x) ≡ true
fault_lines (Stuck l false) o = eq-eqb l l refl
fault_lines (Stuck l true) o = eq-eqb l l refl
fault_lines (Bridge a b true) o = o
fault_lines (Bridge a b false) o = o

fault_fits : (n count m : ℕ) (x : Fault) → fault_line_ok n count x ≡ true → n ≤ m → count ≤ m → (fault_a x < m) × (fault_b x < m)
fault_fits n count m (Stuck l level) ok hn hc = let h = le_trans (ltb-true l count ok) hc in (h, h)
fault_fits n count m (Bridge a b is_and) ok hn hc =
    (le_trans (ltb-true a n (and_l (ltb a n) (ltb b n) ok)) hn, le_trans (ltb-true b n (and_r (ltb a n) (ltb b n) ok)) hn)

fault_takes : (n count : ℕ) (e : FaultEntry) (rest : List ℕ) → fault_line_ok n count e.fault ≡ true → fault_order_ok e.fault ≡ true → part_ok e.part ≡ true
    → n ≤ 2 ^ line_bits → count ≤ 2 ^ line_bits → fault n count (fault_bits e ++ rest) ≡ parsed e rest
unfolding fault
fault_takes n count e rest ok order part_ok_lem hn hc =
    let x = e.fault in
    let h = fault_fits n count (2 ^ line_bits) x ok hn hc in
    let part = bits_of part_bits e.part in
    rw (
      append_assoc (entry_bits fault_kind_bits (fault_kind x) (fault_a x) (fault_b x)) part rest,
      entry_fields_takes fault_kind_bits (fault_kind x) (fault_a x) (fault_b x) (part ++ rest) (fault_kind_lt x) h.0 h.1,
      field_takes part_bits e.part rest (part_lt e.part part_ok_lem),
      fault_of_parts x,
      ok,
      fault_lines x order,
      part_ok_lem,
    )

module _ {A : Type 0} (p : ℕ → Parser A) (print : A → List ℕ) (Good : ℕ → A → Type 0) (d : A)
    (step : (i : ℕ) (e : A) (rest : List ℕ) → Good i e → p i (print e ++ rest) ≡ parsed e rest) where
  entries_takes : (es : List A) (i : ℕ) (entries : List A) (rest : List ℕ) → ((k : ℕ) → k < length es → Good (i + k) (get_or es k d))
      → entries_from p (length es) i entries (all_bits print es ++ rest) ≡ parsed (sets entries i es) rest
  unfolding entries_from
  entries_takes [] i entries rest h = refl
  entries_takes (e ∷ es) i entries rest h =
      ap (λ (x : List ℕ). and_then (p i x) (λ a. entries_from p (length es) (suc i) (set entries i a))) (append_assoc (print e) (all_bits print es) rest)
      ∙ ap (λ (r : Answer (Parsed A)). and_then r (λ a. entries_from p (length es) (suc i) (set entries i a)))
      (step i e (all_bits print es ++ rest) (rw add-zero at (h 0 (omega arith))))
      ∙ entries_takes es (suc i) (set entries i e) rest
      (λ k l. let s : suc i + k ≡ i + suc k = omega arith in rw s (h (suc k) (suc-le-suc l)))

  -- the same of the first entries of a list
  front_takes : (count : ℕ) (es entries : List A) (rest : List ℕ) → count ≤ length es → ((k : ℕ) → k < count → Good k (get_or es k d))
      → entries_from p count 0 entries (all_bits print (take count es) ++ rest) ≡ parsed (sets entries 0 (take count es)) rest
  front_takes count es entries rest room h =
      let l : length (take count es) ≡ count = length-take-le count es room in
      ap (λ (k : ℕ). entries_from p k 0 entries (all_bits print (take count es) ++ rest)) (sym l)
      ∙ entries_takes (take count es) 0 entries rest
      (λ k m. let m' : k < count = omega arith in rw (zero-add, get_or-take count es k d m') (h k m'))

module _ (j : Job) (v : Valid j) (rest : List ℕ) where
  gates_taken : length j.gates ≡ max_gates
      → entries_from (λ q. gate (j.inputs + q)) j.gate_count 0 no_gates (all_bits gate_bits (take j.gate_count j.gates) ++ rest)
      ≡ parsed (sets no_gates 0 (take j.gate_count j.gates)) rest
  gates_taken lg =
      let few = v.few in
      let gates_few = v.gates_few in
      front_takes (λ q. gate (j.inputs + q)) gate_bits (λ q e. (gate_ok (j.inputs + q) e.gate ≡ true) × (j.inputs + q ≤ 2 ^ line_bits)) unused_gate
      (λ q e rest h. gate_takes (j.inputs + q) e rest h.0 h.1)
      j.gate_count j.gates no_gates rest (omega arith)
      (λ q h. (v.gate q h, le_trans (omega arith) all_lines))

  outputs_taken : length j.outputs ≡ max_outputs
      → entries_from (λ _. output_line (lines j)) j.output_count 0 no_outputs (all_bits (bits_of line_bits) (take j.output_count j.outputs) ++ rest)
      ≡ parsed (sets no_outputs 0 (take j.output_count j.outputs)) rest
  outputs_taken lo =
      let few = v.outputs_few in
      front_takes (λ _. output_line (lines j)) (bits_of line_bits) (λ _ line. line < lines j) 0
      (λ o line rest h. output_takes (lines j) line rest h (line_fits v h))
      j.output_count j.outputs no_outputs rest (omega arith) v.output

  faults_taken : length j.faults ≡ max_faults
      → entries_from (λ _. fault j.inputs (lines j)) j.fault_count 0 no_faults (all_bits fault_bits (take j.fault_count j.faults) ++ rest)
      ≡ parsed (sets no_faults 0 (take j.fault_count j.faults)) rest
  faults_taken lf =
      let few = v.few in
      let gates_few = v.gates_few in
      let faults_few = v.faults_few in
      front_takes (λ _. fault j.inputs (lines j)) fault_bits
      (λ i e. (fault_line_ok j.inputs (lines j) e.fault ≡ true) × (fault_order_ok e.fault ≡ true) × (part_ok e.part ≡ true)) unused_fault
      (λ i e rest h. fault_takes j.inputs (lines j) e rest h.0 h.1 h.2 (le_trans (omega arith) all_lines) (le_trans (omega arith) all_lines))
      j.fault_count j.faults no_faults rest (omega arith)
      (λ i h. (v.fault_line i h, v.fault_order i h, v.fault_part i h))

-- the first entries that are left are those that were taken
front_left : {A : Type 0} (count : ℕ) (es entries : List A) → count ≤ length es → count ≤ length entries → take count (sets entries 0 (take count es)) ≡ take count es
front_left count es entries room more =
    let many : length (take count es) ≡ count = length-take-le count es room in
    ap (λ (k : ℕ). take k (sets entries 0 (take count es))) (sym many) ∙ sets_taken (take count es) entries (omega arith)

-- so that what was written has no loose gate when it is read
tight_taken : (j : Job) → Valid j → length j.gates ≡ max_gates → length j.outputs ≡ max_outputs
    → none_loose j.inputs (take j.gate_count (sets no_gates 0 (gates_of j))) (take j.output_count (sets no_outputs 0 (output_lines j))) ≡ true
tight_taken j v lg lo =
    let gates_few = v.gates_few in
    let outputs_few = v.outputs_few in
    ap₂ (none_loose j.inputs)
    (front_left j.gate_count j.gates no_gates (omega arith) (omega (arith, length_no_gates)))
    (front_left j.output_count j.outputs no_outputs (omega arith) (omega (arith, length_no_outputs)))
    ∙ v.tight

whole_job_takes : (j : Job) (rest : List ℕ) → Valid j → length j.gates ≡ max_gates → length j.outputs ≡ max_outputs → length j.faults ≡ max_faults
    → spare_only rest ≡ true → whole_job (job_bits j ++ rest) ≡ parsed (reset j) []
unfolding whole_job from_gates from_output_count from_outputs from_fault_count from_faults from_end spare empty_job reset
whole_job_takes j rest v lg lo lf spare_ok =
    let faults = all_bits fault_bits (take j.fault_count j.faults) ++ rest in
    let from_fault_count_lem = bits_of fault_count_bits j.fault_count ++ faults in
    let outputs = all_bits (bits_of line_bits) (take j.output_count j.outputs) ++ from_fault_count_lem in
    let from_output_count_lem = bits_of output_count_bits (j.output_count - 1) ++ outputs in
    let gates = all_bits gate_bits (take j.gate_count j.gates) ++ from_output_count_lem in
    let one_more : j.output_count - 1 + 1 ≡ j.output_count = let some = v.outputs_some in omega arith in
    rw (
      job_bits_append j rest,
      field_takes input_count_bits j.inputs (bits_of gate_count_bits j.gate_count ++ gates) (inputs_fit v),
      le-leb 1 j.inputs v.some,
      le-leb j.inputs max_inputs v.few,
      field_takes gate_count_bits j.gate_count gates (gates_fit v),
      le-leb j.gate_count max_gates v.gates_few,
      gates_taken j v from_output_count_lem lg,
      field_takes output_count_bits (j.output_count - 1) outputs (outputs_fit v),
      one_more,
      outputs_taken j v from_fault_count_lem lo,
      tight_taken j v lg lo,
      field_takes fault_count_bits j.fault_count faults (faults_fit v),
      faults_taken j v rest lf,
      spare_ok,
    )

pub read_written : (j : Job) → checked j ≡ gives tt → length j.gates ≡ max_gates → length j.outputs ≡ max_outputs → length j.faults ≡ max_faults
    → reading (bytes_of (job_bits j)) ≡ gives (reset j)
unfolding reading
read_written j e lg lo lf =
    ap (λ (x : List ℕ). value_read (whole_job x)) (string_of_bytes_of (job_bits j) (bits_job_bits j))
    ∙ ap value_read
    (whole_job_takes j (replicate (spare_count (length (job_bits j))) 0) (valid j e) lg lo lf (zeros_spare (spare_count (length (job_bits j))) (omega arith)))

pub read_filled : (j : Job) (room : ℕ) (w : Fills ℕ) → length j.gates ≡ max_gates → length j.outputs ≡ max_outputs → length j.faults ≡ max_faults → written j room ≡ gives w
    → reading w.filled ≡ gives (reset j)
unfolding written
read_filled j room w lg lo lf e =
    let c = onward_gives (checked j) _ e in
    let f = unless_gives (leb (length (bytes_of (job_bits j))) room) 10 _ c.2 in
    ap (λ (x : Fills ℕ). reading x.filled) (sym (gives_same f.1)) ∙ read_written j c.1 lg lo lf

pub reset_read : (s : List ℕ) (j : Job) → Bytes s → reading s ≡ gives j → reset j ≡ j
reset_read s j h e =
    let l = reading_lengths s j e in
    gives_same (sym (read_written j (reading_checked s j e) l.0 l.1 l.2) ∙ ap reading (written_read s j h e) ∙ e)
