-- Laws of the bits of a job, entry by entry (specs/Writing.antt).
--
--   entry_same, fault_same   equal kinds and lines have equal bits, and so have those of a fault with its part
--   entries_room   where all entries have room, the next one has
--   entries_none, entries_next   no entry is put, one more is put
--   bytes_job_bits   the number of a job's bytes, as the code works it out
use Prim.Native.Nat.{ℕ, suc, ◌+◌, ◌*◌, ◌/◌, ◌≤◌, ◌<◌}
use mathlib.Core.Path.{◌≡◌, sym, ap, ap₂, ◌∙◌, subst}
use mathlib.Core.List.{List, [], ◌∷◌, ◌++◌}
use native.Mathlib.Nat.{suc-mul, add_comm}
use native.Mathlib.Numerals.{add-one}
use native.Mathlib.Omega.{arith}
use lib.ListN.{length, get_or, take, drop, length-append, take-append-drop}
use lib.Seq.{take-suc, length-take-le}
use Rattle.std.specs.Int.{div_ceil}
use Rattle.std.proofs.lemmas.List.{flat_map_more}
use Rattle.std.proofs.lemmas.Grind.{flat_map-append}
use Rattle.bits.specs.Bits.{bits_of, bytes_of}
use Rattle.bits.proofs.Bits.{length_bits_of}
use Rattle.bits.proofs.Bytes.{length_bytes_of}
use Rattle.job.specs.Layout.{input_count_bits, gate_count_bits, gate_kind_bits, line_bits, output_count_bits, fault_count_bits, fault_kind_bits, part_bits}
use Rattle.job.specs.Record.{gate_kind, gate_a, gate_b}
use Rattle.job.specs.declared.FaultEntry.{FaultEntry}
use Rattle.job.specs.declared.Job.{Job}
use Rattle.writing.specs.Pen.{HasRoom, Puts}
use Rattle.writing.specs.Writing.{entry_bits, gate_bits, fault_bits, all_bits, job_bits}
use Rattle.writing.specs.declared.pen.Pen.{Pen}
use Rattle.writing.proofs.PutBits.{puts_none, puts_then, room_front, room_after}

pub entry_same : (kind_bits : ℕ) {k l a x b y : ℕ} → k ≡ l → a ≡ x → b ≡ y → entry_bits kind_bits k a b ≡ entry_bits kind_bits l x y
entry_same kind_bits p q r = simp (p, q, r)

pub fault_same : (part : ℕ) {k l a x b y : ℕ} → k ≡ l → a ≡ x → b ≡ y
    → entry_bits fault_kind_bits k a b ++ bits_of part_bits part ≡ entry_bits fault_kind_bits l x y ++ bits_of part_bits part
fault_same part p q r = ap (λ (l : List ℕ). l ++ bits_of part_bits part) (entry_same fault_kind_bits p q r)

module _ {A : Type 0} (bits : A → List ℕ) where
  all_bits_next : (d : A) (entries : List A) (i : ℕ) → i < length entries → all_bits bits (take (suc i) entries) ≡ all_bits bits (take i entries) ++ bits (get_or entries i d)
  all_bits_next d entries i h = ap (all_bits bits) (take-suc entries i d h) ∙ sym (flat_map_more bits [] (take i entries) (get_or entries i d))

  length_all_bits : (w : ℕ) → ((e : A) → length (bits e) ≡ w) → (entries : List A) → length (all_bits bits entries) ≡ length entries * w
  length_all_bits w h [] = sym (omega arith)
  length_all_bits w h (e ∷ entries) = length-append (bits e) (all_bits bits entries) ∙ ap₂ ◌+◌ (h e) (length_all_bits w h entries) ∙ sym (suc-mul (length entries) w ∙ add_comm (length entries * w) w)

  length_used : (w : ℕ) → ((e : A) → length (bits e) ≡ w) → (entries : List A) {count : ℕ} → count ≤ length entries
      → length (all_bits bits (take count entries)) ≡ count * w
  length_used w h entries {count} room =
      length_all_bits w h (take count entries) ∙ ap (λ (n : ℕ). n * w) (length-take-le count entries room)

  module _ (entries : List A) {p : Pen} where
    pub entries_none : Puts p (all_bits bits (take 0 entries)) p
    entries_none = puts_none

    module _ (d : A) {i : ℕ} {q : Pen} (put : Puts p (all_bits bits (take i entries)) q) {next : List ℕ} (same : next ≡ bits (get_or entries i d)) where
      pub entries_room : i < length entries → HasRoom p (all_bits bits entries) → HasRoom q next
      entries_room h room =
          let split : all_bits bits entries ≡ (all_bits bits (take i entries) ++ next) ++ all_bits bits (drop (suc i) entries) =
          ap (all_bits bits) (sym (take-append-drop (suc i) entries))
          ∙ flat_map-append bits (take (suc i) entries) (drop (suc i) entries)
          ∙ ap (λ (l : List ℕ). l ++ all_bits bits (drop (suc i) entries)) (all_bits_next d entries i h ∙ ap (λ (l : List ℕ). all_bits bits (take i entries) ++ l) (sym same))
          in
          room_after next (room_front (all_bits bits (take i entries) ++ next) (all_bits bits (drop (suc i) entries)) (subst (HasRoom p) split room)) put

      pub entries_next : {r : Pen} → i < length entries → Puts q next r → Puts p (all_bits bits (take (i + 1) entries)) r
      entries_next {r} h x =
          subst (λ (l : List ℕ). Puts p l r)
          (ap (λ (l : List ℕ). all_bits bits (take i entries) ++ l) same ∙ sym (ap (λ (n : ℕ). all_bits bits (take n entries)) (add-one i) ∙ all_bits_next d entries i h))
          (puts_then put x)

length_entry_bits : (kind_bits kind a b : ℕ) → length (entry_bits kind_bits kind a b) ≡ kind_bits + 2 * line_bits
unfolding entry_bits
length_entry_bits kind_bits kind a b = simp (length-append, length_bits_of) (omega arith)

length_fault_bits : (e : FaultEntry) → length (fault_bits e) ≡ fault_kind_bits + 2 * line_bits + part_bits
length_fault_bits e = simp (length-append, length_entry_bits, length_bits_of)

pub bytes_job_bits : (j : Job) → j.gate_count ≤ length j.gates → j.output_count ≤ length j.outputs → j.fault_count ≤ length j.faults
    → div_ceil
    (input_count_bits + gate_count_bits + j.gate_count * (gate_kind_bits + 2 * line_bits) + output_count_bits + j.output_count * line_bits + fault_count_bits
    + j.fault_count * (fault_kind_bits + 2 * line_bits + part_bits))
    8
    ≡ length (bytes_of (job_bits j))
unfolding job_bits
bytes_job_bits j g o f =
    let gates : length (all_bits gate_bits (take j.gate_count j.gates)) ≡ j.gate_count * (gate_kind_bits + 2 * line_bits) =
    length_used gate_bits (gate_kind_bits + 2 * line_bits) (λ e. length_entry_bits gate_kind_bits (gate_kind e.gate) (gate_a e.gate) (gate_b e.gate)) j.gates g
    in
    let outputs : length (all_bits (bits_of line_bits) (take j.output_count j.outputs)) ≡ j.output_count * line_bits =
    length_used (bits_of line_bits) line_bits (length_bits_of line_bits) j.outputs o
    in
    let faults : length (all_bits fault_bits (take j.fault_count j.faults)) ≡ j.fault_count * (fault_kind_bits + 2 * line_bits + part_bits) =
    length_used fault_bits (fault_kind_bits + 2 * line_bits + part_bits) length_fault_bits j.faults f
    in
    sym
    (length_bytes_of (job_bits j)
    ∙ rounded_up (length (job_bits j))
    ∙ ap (λ (n : ℕ). div_ceil n 8)
    (simp (length-append, length_bits_of, gates, outputs, faults)
    (regroup input_count_bits gate_count_bits (j.gate_count * (gate_kind_bits + 2 * line_bits)) output_count_bits (j.output_count * line_bits) fault_count_bits
    (j.fault_count * (fault_kind_bits + 2 * line_bits + part_bits)))))
  where
    regroup : (a b c d e f g : ℕ) → a + (b + (c + (d + (e + (f + g))))) ≡ a + b + c + d + e + f + g
    regroup a b c d e f g = omega arith

    rounded_up : (n : ℕ) → (n + 7) / 8 ≡ div_ceil n 8
    rounded_up n = omega arith
