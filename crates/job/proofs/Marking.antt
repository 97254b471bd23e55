-- What the pass over the gates, from the last down, knows (specs/Marks.antt).
--
--   outputs_start, outputs_next   the outputs are marked one by one
--   outputs_used    those in use
--   Marking         the gates from q on are passed: their lines were marked, and the lines that they read are
--   marking_start   before the pass the outputs are marked
--   marking_next    a gate is passed, and the lines that it reads are marked
use Prim.Native.Nat.{ℕ, zero, suc, min, ◌+◌, ◌-◌, ◌≤◌, ◌<◌}
use native.Mathlib.Omega.{arith}
use mathlib.Core.Path.{◌≡◌, refl, sym, ap, ◌∙◌}
use mathlib.Core.Bool.{Bool, true, false, ◌&&◌, ◌||◌, and-true, or_assoc}
use mathlib.Core.List.{List, [], ◌∷◌, ◌++◌}
use borrow.Author.Tests.{eqb-true, eqb-false}
use lib.Dec.{eqb}
use lib.ListN.{length, get_or, take, drop, set, replicate, length-set, length-replicate}
use lib.Seq.{drop-length, drop-cons, get_or-take}
use Rattle.std.proofs.lemmas.Grind.{elements}
use Rattle.std.proofs.lemmas.List.{take_min, take_more, length-take}
use Rattle.bits.proofs.Tests.{by_test}
use Rattle.job.specs.Dependence.{gates_of, output_lines, no_loose}
use Rattle.job.specs.Layout.{max_gates, max_outputs}
use Rattle.job.specs.Marks.{is_output, is_marked, has_line, each_read, OutputsMarked}
use Rattle.job.specs.Record.{gate_at, gate_a, gate_b, unused_gate}
use Rattle.job.specs.declared.GateEntry.{GateEntry}
use Rattle.job.specs.declared.Job.{Job}
use Rattle.job.proofs.Tightness.{tight_read}

-- a mark more
set_mark : (used : List Bool) (k l : ℕ) → k < length used → get_or (set used k true) l false ≡ eqb l k || get_or used l false
set_mark used k l h =
    by_test (eqb l k) (λ e. grind (arith, elements, eqb-true)) (λ e. grind (arith, elements, eqb-false))

-- two marks more, one after the other
both : (x y z : Bool) → y || (x || z) ≡ (x || y) || z
both true true z = refl
both true false z = refl
both false y z = refl

blank : (count l : ℕ) → get_or (replicate count false) l false ≡ false
blank zero l = refl
blank (suc count) zero = refl
blank (suc count) (suc l) = blank count l

-- ---- the outputs

is_output_last : (outputs : List ℕ) (x l : ℕ) → is_output (outputs ++ (x ∷ [])) l ≡ eqb l x || is_output outputs l
is_output_last [] x l = refl
is_output_last (y ∷ outputs) x l =
    ap (λ (t : Bool). eqb l y || t) (is_output_last outputs x l) ∙ both (eqb l x) (eqb l y) (is_output outputs l) ∙ or_assoc (eqb l x) (eqb l y) (is_output outputs l)

pub outputs_start : (outputs : List ℕ) → OutputsMarked (take 0 outputs) (replicate (256 + max_gates) false)
outputs_start outputs = record { long = length-replicate (256 + max_gates) false; each = λ l. blank (256 + max_gates) l }

pub outputs_next : (outputs : List ℕ) {marks : List Bool} {o : ℕ} → OutputsMarked (take o outputs) marks → o < length outputs → get_or outputs o 0 < 256
    → OutputsMarked (take (o + 1) outputs) (set marks (get_or outputs o 0) true)
outputs_next outputs {marks} {o} m h small =
    let wide = m.long in
    record {
      long = length-set marks (get_or outputs o 0) true ∙ m.long;
      each = λ l.
          set_mark marks (get_or outputs o 0) l (omega arith)
          ∙ ap (λ (t : Bool). eqb l (get_or outputs o 0) || t) (m.each l)
          ∙ sym
          (ap (λ (s : List ℕ). is_output s l) (take_more outputs o 0 h)
          ∙ is_output_last (take o outputs) (get_or outputs o 0) l);
    }

pub outputs_used : (j : Job) {count : ℕ} → length j.outputs ≡ max_outputs → count ≡ min j.output_count max_outputs → take count j.outputs ≡ output_lines j
outputs_used j long least = rw (least, ← long, take_min)

-- ---- the gates

pub record Marking (j : Job) (used : List Bool) (q : ℕ) : Type 0 where
  pub within : q ≤ length (gates_of j)
  pub long : length used ≡ 256 + max_gates
  pub marks : (l : ℕ) → get_or used l false ≡ is_marked (output_lines j) (drop q (gates_of j)) l
  pub rest : no_loose j ≡ each_read j.inputs (gates_of j) (output_lines j) q

pub marking_start : (j : Job) {q : ℕ} → length j.gates ≡ max_gates → q ≡ min j.gate_count max_gates → {marks : List Bool} → OutputsMarked (output_lines j) marks
    → Marking j marks q
marking_start j {q} long least m =
    let gates = gates_of j in
    let all : length gates ≡ q = rw (length-take, long, least) in
    record {
      within = omega arith;
      long = m.long;
      marks = λ l.
          m.each l
          ∙ sym (ap (λ (rest : List GateEntry). is_marked (output_lines j) rest l) (ap (λ (i : ℕ). drop i gates) (sym all) ∙ drop-length gates));
      rest = tight_read j.inputs gates (output_lines j) ∙ ap (each_read j.inputs gates (output_lines j)) all;
    }

module _ {j : Job} {used : List Bool} {q : ℕ} (m : Marking j used q) (some : 0 < q) where
  abbrev n : ℕ
  n = j.inputs

  abbrev gates : List GateEntry
  gates = gates_of j

  back : q ≡ suc (q - 1)
  back = omega arith

  step : no_loose j ≡ each_read n gates (output_lines j) (q - 1) && get_or used (n + (q - 1)) false
  step =
      m.rest ∙ ap (each_read n gates (output_lines j)) back
      ∙ ap (λ (t : Bool). each_read n gates (output_lines j) (q - 1) && t)
      (sym (m.marks (n + (q - 1)) ∙ ap (λ (i : ℕ). is_marked (output_lines j) (drop i gates) (n + (q - 1))) back))

  pub marking_next : get_or used (n + (q - 1)) false ≡ true → {lines : ℕ × ℕ} → lines ≡ (gate_a (gate_at j (q - 1)), gate_b (gate_at j (q - 1)))
      → lines.0 < 256 → lines.1 < 256 → Marking j (set (set used lines.0 true) lines.1 true) (q - 1)
  marking_next marked {lines} e h k =
      let within = m.within in
      let first = set used lines.0 true in
      let long : length first ≡ 256 + max_gates = length-set used lines.0 true ∙ m.long in
      record {
        within = omega arith;
        long = length-set first lines.1 true ∙ long;
        marks = λ l.
            set_mark first lines.1 l (omega arith) ∙ ap (λ (t : Bool). eqb l lines.1 || t) (set_mark used lines.0 l (omega (arith, m.long)))
            ∙ both (eqb l lines.0) (eqb l lines.1) (get_or used l false)
            ∙ ap (λ (p : ℕ × ℕ). (eqb l p.0 || eqb l p.1) || get_or used l false) e
            ∙ ap (λ (t : Bool). has_line (gate_at j (q - 1)) l || t) (m.marks l ∙ ap (λ (i : ℕ). is_marked (output_lines j) (drop i gates) l) back)
            ∙ sym
            (ap (λ (rest : List GateEntry). is_marked (output_lines j) rest l) (drop-cons gates (q - 1) unused_gate (omega arith))
            ∙ ap (λ (e : GateEntry). has_line e.gate l || is_marked (output_lines j) (drop (suc (q - 1)) gates) l)
            (get_or-take j.gate_count j.gates (q - 1) unused_gate (omega (arith, length-take j.gate_count j.gates))));
        rest = step ∙ ap (λ (t : Bool). each_read n gates (output_lines j) (q - 1) && t) marked ∙ and-true (each_read n gates (output_lines j) (q - 1));
      }
