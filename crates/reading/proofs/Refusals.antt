-- Which numbers reading refuses with (specs/Reading.antt).
--
--   reading_refused   1 to 9, 19 and 21
--   refused_digits    so each has one or two digits, and is not 0
use Prim.Native.Nat.{ℕ, zero, suc, ◌+◌, ◌≤◌, ◌<◌}
use native.Mathlib.Omega.{arith}
use mathlib.Core.Path.{◌≡◌, refl, subst}
use mathlib.Core.Bool.{Bool, true, false, ◌&&◌, ◌||◌}
use mathlib.Core.Logic.{◌⊎◌, inl, inr, ⊎_elim}
use mathlib.Core.List.{List, []}
use borrow.Author.Tests.{leb-true, eqb-true}
use lib.Dec.{leb, ltb, eqb}
use lib.ListN.{length, take, drop, set}
use Rattle.bits.specs.Answer.{Answer, unless}
use Rattle.bits.specs.Answer.Answer.{gives, refused}
use Rattle.bits.specs.Bits.{string_of, value_of}
use Rattle.bits.specs.Field.{spare_only}
use Rattle.bits.specs.Parser.{Parser, Parsed, parsed, field, check, and_then}
use Rattle.bits.proofs.Tests.{and_l, and_r, or_cases}
use Rattle.job.specs.Check.{inputs_ok, gate_count_ok, output_ok, fault_line_ok, part_ok}
use Rattle.job.specs.Dependence.{no_loose}
use Rattle.job.specs.Layout.{input_count_bits, gate_count_bits, gate_kind_bits, line_bits, output_count_bits, fault_count_bits, fault_kind_bits, part_bits}
use Rattle.job.specs.Record.{fault_of, lines, empty_job}
use Rattle.job.specs.declared.Job.{Job}
use Rattle.reading.specs.Reading.{entry_fields, unary_lines_ok, gate, output_line, fault_lines_ok, fault, entries_from, spare, with_counts, with_gates, with_output_count, with_outputs, with_fault_count, with_faults, from_end, from_faults, from_fault_count, from_outputs, from_output_count, from_gates, whole_job, value_read, reading}

abbrev is_readings : ℕ → Bool
is_readings i = (leb 1 i && leb i 9) || (eqb i 19 || eqb i 21)

abbrev Number : ℕ → Type 0
Number i = is_readings i ≡ true

abbrev Known : {A : Type 0} → Answer A → Type 0
Known (gives a) = Unit {0}
Known (refused i) = Number i

known_then : {A B : Type 0} (r : Answer (Parsed A)) (f : A → Parser B) → Known r → ((a : A) (rest : List ℕ) → Known (f a rest)) → Known (and_then r f)
known_then (gives p) f h more = more p.value p.rest
known_then (refused i) f h more = h

known_unless : {A : Type 0} (t : Bool) (k : ℕ) (r : Answer A) → Number k → Known r → Known (unless t k r)
known_unless true k r h more = more
known_unless false k r h more = h

field_then : {B : Type 0} (w : ℕ) (bits : List ℕ) (f : ℕ → Parser B) → ((v : ℕ) (rest : List ℕ) → Known (f v rest)) → Known (and_then (field w bits) f)
unfolding field
field_then w bits f more =
    known_then (field w bits) f (known_unless (leb w (length bits)) 1 (parsed (value_of (take w bits)) (drop w bits)) refl tt) more

check_then : {B : Type 0} (t : Bool) (k : ℕ) (bits : List ℕ) (f : Parser B) → Number k → ((rest : List ℕ) → Known (f rest)) → Known (and_then (check t k bits) (λ _. f))
check_then t k bits f h more = known_then (check t k bits) (λ _. f) (known_unless t k (parsed tt bits) h tt) (λ _ rest. more rest)

entry_fields_known : (w : ℕ) (bits : List ℕ) → Known (entry_fields w bits)
unfolding entry_fields
entry_fields_known w bits = field_then w bits _ λ kind r₁. field_then line_bits r₁ _ λ a r₂. field_then line_bits r₂ _ λ b r₃. tt

gate_known : (own : ℕ) (bits : List ℕ) → Known (gate own bits)
unfolding gate
gate_known own bits =
    known_then (entry_fields gate_kind_bits bits) _ (entry_fields_known gate_kind_bits bits) λ e r₁.
    check_then (ltb e.a own && ltb e.b own) 4 r₁ _ refl λ r₂.
    check_then (unary_lines_ok e.kind e.a e.b) 5 r₂ _ refl λ r₃. tt

output_line_known : (count : ℕ) (bits : List ℕ) → Known (output_line count bits)
unfolding output_line
output_line_known count bits = field_then line_bits bits _ λ line r₁. check_then (output_ok count line) 6 r₁ _ refl λ r₂. tt

fault_known : (n count : ℕ) (bits : List ℕ) → Known (fault n count bits)
unfolding fault
fault_known n count bits =
    known_then (entry_fields fault_kind_bits bits) _ (entry_fields_known fault_kind_bits bits) λ e r₁.
    field_then part_bits r₁ _ λ part r₂.
    check_then (fault_line_ok n count (fault_of e.kind e.a e.b)) 7 r₂ _ refl λ r₃.
    check_then (fault_lines_ok e.kind e.a e.b) 8 r₃ _ refl λ r₄.
    check_then (part_ok part) 21 r₄ _ refl λ r₅. tt

entries_known : {A : Type 0} (p : ℕ → Parser A) → ((i : ℕ) (bits : List ℕ) → Known (p i bits)) → (left i : ℕ) (entries : List A) (bits : List ℕ)
    → Known (entries_from p left i entries bits)
unfolding entries_from
entries_known p each zero i entries bits = tt
entries_known p each (suc left) i entries bits =
    known_then (p i bits) _ (each i bits) λ e rest. entries_known p each left (suc i) (set entries i e) rest

from_end_known : (j : Job) (bits : List ℕ) → Known (from_end j bits)
unfolding from_end spare
from_end_known j bits =
    known_then (unless (spare_only bits) 9 (parsed tt [])) _ (known_unless (spare_only bits) 9 (parsed tt []) refl tt) λ _ rest. tt

from_faults_known : (j : Job) (bits : List ℕ) → Known (from_faults j bits)
unfolding from_faults
from_faults_known j bits =
    known_then (entries_from (λ i. fault j.inputs (lines j)) j.fault_count 0 j.faults bits) _
    (entries_known (λ i. fault j.inputs (lines j)) (λ i. fault_known j.inputs (lines j)) j.fault_count 0 j.faults bits) λ faults rest.
    from_end_known (with_faults j faults) rest

from_outputs_known : (j : Job) (bits : List ℕ) → Known (from_outputs j bits)
unfolding from_outputs from_fault_count
from_outputs_known j bits =
    known_then (entries_from (λ o. output_line (lines j)) j.output_count 0 j.outputs bits) _
    (entries_known (λ o. output_line (lines j)) (λ o. output_line_known (lines j)) j.output_count 0 j.outputs bits) λ outputs r₁.
    check_then (no_loose (with_outputs j outputs)) 19 r₁ _ refl λ r₂.
    field_then fault_count_bits r₂ _ λ f r₃.
    from_faults_known (with_fault_count (with_outputs j outputs) f) r₃

from_gates_known : (j : Job) (bits : List ℕ) → Known (from_gates j bits)
unfolding from_gates from_output_count
from_gates_known j bits =
    known_then (entries_from (λ q. gate (j.inputs + q)) j.gate_count 0 j.gates bits) _
    (entries_known (λ q. gate (j.inputs + q)) (λ q. gate_known (j.inputs + q)) j.gate_count 0 j.gates bits) λ gates r₁.
    field_then output_count_bits r₁ _ λ less r₂.
    from_outputs_known (with_output_count (with_gates j gates) (less + 1)) r₂

whole_job_known : (bits : List ℕ) → Known (whole_job bits)
unfolding whole_job
whole_job_known bits =
    field_then input_count_bits bits _ λ n r₁.
    check_then (inputs_ok n) 2 r₁ _ refl λ r₂.
    field_then gate_count_bits r₂ _ λ g r₃.
    check_then (gate_count_ok g) 3 r₃ _ refl λ r₄.
    from_gates_known (with_counts empty_job n g) r₄

value_known : {A : Type 0} (r : Answer (Parsed A)) → Known r → Known (value_read r)
value_known (gives p) h = tt
value_known (refused i) h = h

reading_known : (s : List ℕ) → Known (reading s)
unfolding reading
reading_known s = value_known (whole_job (string_of s)) (whole_job_known (string_of s))

pub reading_refused : (s : List ℕ) {i : ℕ} → reading s ≡ refused i → ((1 ≤ i) × (i ≤ 9)) ⊎ ((i ≡ 19) ⊎ (i ≡ 21))
reading_refused s {i} e =
    ⊎_elim (λ h. inl (leb-true 1 i (and_l (leb 1 i) (leb i 9) h), leb-true i 9 (and_r (leb 1 i) (leb i 9) h)))
    (λ h. inr (⊎_elim (λ t. inl (eqb-true i 19 t)) (λ t. inr (eqb-true i 21 t)) (or_cases (eqb i 19) (eqb i 21) h)))
    (or_cases (leb 1 i && leb i 9) (eqb i 19 || eqb i 21) (subst (λ (a : Answer Job). Known a) e (reading_known s)))

pub refused_digits : (s : List ℕ) {i : ℕ} → reading s ≡ refused i → (1 ≤ i) × (i < 100)
refused_digits s {i} e =
    ⊎_elim (λ h. let some = h.0 in let few = h.1 in (omega arith, omega arith))
    (⊎_elim (λ h. (omega arith, omega arith)) (λ h. (omega arith, omega arith))) (reading_refused s e)
