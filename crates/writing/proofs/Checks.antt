-- Laws of checking a list entry by entry (specs/Checks.antt; job's specs/Check.antt).
--
--   judged_from                        the checks of a list from an entry on
--   each_end, each_stop, each_next     where none is left, where the next is refused, and where it passes
--   gate_first, gate_second, gate_passed   a gate whose first line is not below its own, whose second is not, and one that passes
--   fault_part                         a fault that 21 refuses
--   gates_lent, outputs_lent, faults_lent   the checks of the entries in use are those of the list of them
--   behind_gates, behind_outputs       what is left to check once the gates have passed, and the outputs
--   past_gates, past_outputs           so a record whose gates, and whose outputs, have passed is refused or not by these
use Rattle.std.proofs.Common.{◌≡◌, ℕ, zero, suc, ◌+◌, ◌-◌, ◌≤◌, ◌<◌, Bool, true, false, ◌&&◌, List, length, get_or, take, drop, drop-cons, refl, sym, ap, ◌∙◌, add-one, arith, lt-ltb, le-ltb, le-leb}
use mathlib.Core.Path.{ap₂}
use lib.Seq.{length-take-le, get_or-take}
use Rattle.std.proofs.lemmas.List.{drop_all}
use Rattle.std.specs.List.{list_all}
use Rattle.bits.specs.Answer.{Answer, unless, onward}
use Rattle.bits.specs.Answer.Answer.{gives, refused}
use Rattle.job.specs.Check.{fault_line_ok, fault_order_ok, part_ok, fault_judged, in_turn, output_ok, output_count_ok, fault_count_ok, gates_checked, outputs_checked, faults_checked, checked}
use Rattle.job.specs.Dependence.{no_loose}
use Rattle.job.specs.Layout.{max_inputs, max_gates, max_outputs}
use Rattle.job.specs.Record.{fault_at, part_at, gate_a, gate_b, unused_gate, unused_fault, lines}
use Rattle.job.specs.declared.GateEntry.{GateEntry}
use Rattle.job.specs.declared.Job.{Job}
use Rattle.writing.specs.Checks.{each_judged, gate_judged, entry_judged, gates_judged, faults_judged}

abbrev pub judged_from : {A : Type 0} → (ℕ → A → Answer (Unit {0})) → A → List A → ℕ → Answer (Unit {0})
judged_from judged d entries i = in_turn (λ k. judged k (get_or entries k d)) (length entries - i) i

module _ {A : Type 0} (judged : ℕ → A → Answer (Unit {0})) (d : A) (entries : List A) where
  abbrev at : ℕ → Answer (Unit {0})
  at i = judged i (get_or entries i d)

  module _ {i : ℕ} (so_far : each_judged judged d entries ≡ judged_from judged d entries i) where
    pub each_end : length entries ≤ i → gives tt ≡ each_judged judged d entries
    unfolding in_turn
    each_end h = let e : length entries - i ≡ 0 = omega arith in sym (so_far ∙ ap (λ (n : ℕ). in_turn at n i) e)

    step : i < length entries → each_judged judged d entries ≡ onward (at i) (λ _. judged_from judged d entries (i + 1))
    unfolding in_turn
    step h =
        let e : length entries - i ≡ suc (length entries - (i + 1)) = omega arith in
        so_far ∙ ap (λ (n : ℕ). in_turn at n i) e ∙ simp add-one

    pub each_stop : {k : ℕ} → i < length entries → at i ≡ refused k → refused k ≡ each_judged judged d entries
    each_stop h e = sym (step h ∙ ap (λ (x : Answer (Unit {0})). onward x (λ _. judged_from judged d entries (i + 1))) e)

    pub each_next : i < length entries → at i ≡ gives tt → each_judged judged d entries ≡ judged_from judged d entries (i + 1)
    each_next h e = step h ∙ ap (λ (x : Answer (Unit {0})). onward x (λ _. judged_from judged d entries (i + 1))) e

-- a gate with a line that is not below its own, and one that passes
module _ (inputs q : ℕ) (e : GateEntry) {a : ℕ} (first : a ≡ gate_a e.gate) where
  pub gate_first : inputs + q ≤ a → gate_judged inputs q e ≡ refused 4
  gate_first h = simp (le-ltb _ _ (rw first at h))

  module _ {b : ℕ} (second : b ≡ gate_b e.gate) (below : a < inputs + q) where
    pub gate_second : inputs + q ≤ b → gate_judged inputs q e ≡ refused 4
    gate_second h = simp (lt-ltb _ _ (rw first at below), le-ltb _ _ (rw second at h))

    pub gate_passed : b < inputs + q → gate_judged inputs q e ≡ gives tt
    gate_passed h = simp (lt-ltb _ _ (rw first at below), lt-ltb _ _ (rw second at h))

turn_same : (judged other : ℕ → Answer (Unit {0})) (left i : ℕ) → ((k : ℕ) → k < i + left → judged k ≡ other k)
    → in_turn judged left i ≡ in_turn other left i
unfolding in_turn
turn_same judged other zero i h = refl
turn_same judged other (suc left) i h =
    ap₂ (λ (x r : Answer (Unit {0})). onward x (λ _. r)) (h i (omega arith)) (turn_same judged other left (suc i) (λ k l. h k (omega arith)))

-- a list's first entries judged are these entries of the list
lent : {A : Type 0} (judged : ℕ → A → Answer (Unit {0})) (d : A) (count : ℕ) (entries : List A) → count ≤ length entries
    → each_judged judged d (take count entries) ≡ in_turn (λ i. judged i (get_or entries i d)) count 0
lent judged d count entries room =
    ap (λ (n : ℕ). in_turn (λ i. judged i (get_or (take count entries) i d)) n 0) (length-take-le count entries room)
    ∙ turn_same (λ i. judged i (get_or (take count entries) i d)) (λ i. judged i (get_or entries i d)) count 0
    (λ k h. ap (judged k) (get_or-take count entries k d (omega arith)))

abbrev passed : Answer (Unit {0})
passed = gives tt

both : (number : ℕ) (t u : Bool) → onward (unless t number passed) (λ _. unless u number passed) ≡ unless (t && u) number passed
both number true u = refl
both number false u = refl

-- a test of each entry alone
module _ {A : Type 0} (p : A → Bool) (number : ℕ) (d : A) (entries : List A) where
  turns_from : (left i : ℕ) → i + left ≡ length entries
      → in_turn (λ k. unless (p (get_or entries k d)) number passed) left i ≡ unless (list_all p (drop i entries)) number passed
  unfolding in_turn
  turns_from zero i e = rw (drop_all i entries (omega arith)) refl
  turns_from (suc left) i e =
      rw (drop-cons entries i d (omega arith), turns_from left (suc i) (omega arith))
      (both number (p (get_or entries i d)) (list_all p (drop (suc i) entries)))

  all_turns : each_judged (λ _ e. unless (p e) number passed) d entries ≡ unless (list_all p entries) number passed
  all_turns = turns_from (length entries) 0 (omega arith)

module _ (j : Job) where
  pub gates_lent : j.gate_count ≤ length j.gates → gates_judged j.inputs (take j.gate_count j.gates) ≡ gates_checked j j.gate_count 0
  gates_lent = lent (gate_judged j.inputs) unused_gate j.gate_count j.gates

  pub outputs_lent : j.output_count ≤ length j.outputs
      → unless (list_all (output_ok (lines j)) (take j.output_count j.outputs)) 6 (gives tt) ≡ outputs_checked j j.output_count 0
  outputs_lent room =
      sym (all_turns (output_ok (lines j)) 6 0 (take j.output_count j.outputs))
      ∙ lent (λ _ line. unless (output_ok (lines j) line) 6 (gives tt)) 0 j.output_count j.outputs room

  pub faults_lent : j.fault_count ≤ length j.faults → faults_judged j.inputs (lines j) (take j.fault_count j.faults) ≡ faults_checked j j.fault_count 0
  faults_lent = lent (λ _. entry_judged j.inputs (lines j)) unused_fault j.fault_count j.faults

-- what is left to check once the outputs have passed, and the gates
abbrev pub behind_outputs : Job → Answer (Unit {0})
behind_outputs j = unless (no_loose j) 19 (unless (fault_count_ok j.fault_count) 18 (faults_checked j j.fault_count 0))

abbrev pub behind_gates : Job → Answer (Unit {0})
behind_gates j = unless (output_count_ok j.output_count) 20 (onward (outputs_checked j j.output_count 0) (λ _. behind_outputs j))

module _ (j : Job) where
  pub past_gates : 1 ≤ j.inputs → j.inputs ≤ max_inputs → j.gate_count ≤ max_gates → gives tt ≡ gates_checked j j.gate_count 0 → checked j ≡ behind_gates j
  unfolding checked
  past_gates some few gates_few gates = simp (le-leb 1 j.inputs some, le-leb j.inputs max_inputs few, le-leb j.gate_count max_gates gates_few, sym gates)

  pub past_outputs : checked j ≡ behind_gates j → 1 ≤ j.output_count → j.output_count ≤ max_outputs → gives tt ≡ outputs_checked j j.output_count 0
      → checked j ≡ behind_outputs j
  past_outputs so_far some few outputs = so_far ∙ simp (le-leb 1 j.output_count some, le-leb j.output_count max_outputs few, sym outputs)

pub fault_part : (j : Job) (i : ℕ) → fault_line_ok j.inputs (lines j) (fault_at j i) ≡ true → fault_order_ok (fault_at j i) ≡ true → part_ok (part_at j i) ≡ false
    → fault_judged j i ≡ refused 21
fault_part j i line order part = simp (line, order, part)
