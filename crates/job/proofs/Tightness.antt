-- No gate is loose exactly where every gate's line is an output or read by a later gate (specs/Dependence.antt, specs/Marks.antt).
--
--   tight_read   the two tests are equal, whatever the gates read
use Prim.Native.Nat.{ℕ, zero, suc, ◌+◌, ◌≤◌, ◌<◌}
use native.Mathlib.Nat.{not-suc-le-zero, le_of_suc-le-suc}
use native.Mathlib.Omega.{arith}
use mathlib.Core.Path.{◌≡◌, refl, sym, ap, subst, ◌∙◌}
use mathlib.Core.Bool.{Bool, true, not, ◌&&◌, true≢false}
use mathlib.Core.Logic.{◌⊎◌, inl, inr, ⊎_elim}
use mathlib.Core.List.{List, [], ◌∷◌}
use borrow.Author.Tests.{eqb-true, eq-eqb}
use lib.Dec.{eqb}
use lib.ListN.{length, drop}
use Rattle.bits.proofs.Bounds.{each_all, all_each}
use Rattle.bits.proofs.Tests.{and_i, or_cases, or_l, or_r, by_test, same_test}
use Rattle.job.specs.Dependence.{depends, loose, none_loose}
use Rattle.job.specs.Marks.{is_output, has_line, is_marked, each_read}
use Rattle.job.specs.Record.{gate_a, gate_b}
use Rattle.job.specs.declared.Gate.{Gate}
use Rattle.job.specs.declared.GateEntry.{GateEntry}
use Rattle.job.proofs.Dependence.{gate_in, HasLine, Reads, Depends, depends_rule, rule_depends, last_read, reads_on}

-- ---- marked lines

has_line_lem : (g : Gate) (l : ℕ) → has_line g l ≡ true → HasLine g l
has_line_lem g l e =
    ⊎_elim (λ a. inl (sym (eqb-true l (gate_a g) a))) (λ b. inr (sym (eqb-true l (gate_b g) b))) (or_cases (eqb l (gate_a g)) (eqb l (gate_b g)) e)

line_has : (g : Gate) (l : ℕ) → HasLine g l → has_line g l ≡ true
line_has g l h =
    ⊎_elim (λ a. or_l (eqb l (gate_b g)) (eq-eqb l (gate_a g) (sym a))) (λ b. or_r (eqb l (gate_a g)) (eq-eqb l (gate_b g) (sym b))) h

module _ (outputs : List ℕ) (l : ℕ) where
  abbrev Reader : List GateEntry → ℕ → Type 0
  Reader gates r = (q : ℕ) × (r ≤ q) × (q < length gates) × HasLine (gate_in gates q) l

  marked_output : (gates : List GateEntry) → is_output outputs l ≡ true → is_marked outputs gates l ≡ true
  marked_output [] e = e
  marked_output (x ∷ gates) e = or_r (has_line x.gate l) (marked_output gates e)

  marked_gate : (gates : List GateEntry) (r : ℕ) → Reader gates r → is_marked outputs (drop r gates) l ≡ true
  marked_gate [] r (q, h, few, line) = absurd (not-suc-le-zero few)
  marked_gate (x ∷ gates) zero (zero, h, few, line) = or_l (is_marked outputs gates l) (line_has x.gate l line)
  marked_gate (x ∷ gates) zero (suc q, h, few, line) =
      or_r (has_line x.gate l) (marked_gate gates zero (q, omega arith, le_of_suc-le-suc few, line))
  marked_gate (x ∷ gates) (suc r) (zero, h, few, line) = absurd (not-suc-le-zero h)
  marked_gate (x ∷ gates) (suc r) (suc q, h, few, line) = marked_gate gates r (q, le_of_suc-le-suc h, le_of_suc-le-suc few, line)

  later : (x : GateEntry) (gates : List GateEntry) (r s : ℕ) → s ≤ suc r → (is_output outputs l ≡ true) ⊎ Reader gates r → (is_output outputs l ≡ true) ⊎ Reader (x ∷ gates) s
  later x gates r s h found = ⊎_elim (λ o. inl o) (λ w. let k = w.1 in let m = w.2 in inr (suc w.0, omega arith, omega arith, w.3)) found

  marked_some : (gates : List GateEntry) (r : ℕ) → is_marked outputs (drop r gates) l ≡ true → (is_output outputs l ≡ true) ⊎ Reader gates r
  marked_some [] zero e = inl e
  marked_some [] (suc r) e = inl e
  marked_some (x ∷ gates) zero e =
      ⊎_elim (λ h. inr (zero, omega arith, omega arith, has_line_lem x.gate l h)) (λ m. later x gates zero zero (omega arith) (marked_some gates zero m))
      (or_cases (has_line x.gate l) (is_marked outputs gates l) e)
  marked_some (x ∷ gates) (suc r) e = later x gates r (suc r) (omega arith) (marked_some gates r e)

module _ (n : ℕ) (gates : List GateEntry) where
  -- ---- lines in use

  -- a line is an output, or some output depends on it
  abbrev Used : List ℕ → ℕ → Type 0
  Used [] l = ⊥
  Used (output ∷ outputs) l = ((l ≡ output) ⊎ Depends n gates output l) ⊎ Used outputs l

  tight_used : (outputs : List ℕ) (l : ℕ) → not (loose n gates outputs l) ≡ true → Used outputs l
  unfolding loose
  tight_used [] l e = absurd (true≢false (sym e))
  tight_used (output ∷ outputs) l e =
      by_test (eqb l output) (λ s. inl (inl (eqb-true l output s))) λ s.
      by_test (depends n gates output l) (λ d. inl (inr (depends_rule n gates output l d))) λ d.
      inr (tight_used outputs l (ap (λ (t : Bool). not (t && loose n gates outputs l)) (sym (and_i (ap not s) (ap not d))) ∙ e))

  used_tight : (outputs : List ℕ) (l : ℕ) → Used outputs l → not (loose n gates outputs l) ≡ true
  unfolding loose
  used_tight [] l x = elim x [ ]
  used_tight (output ∷ outputs) l (inl (inl s)) = simp (eq-eqb l output s)
  used_tight (output ∷ outputs) l (inl (inr d)) = by_test (eqb l output) (λ s. simp s) (λ s. simp (s, rule_depends n gates d))
  used_tight (output ∷ outputs) l (inr more) =
      by_test (not (eqb l output) && not (depends n gates output l))
      (λ t. ap (λ (x : Bool). not (x && loose n gates outputs l)) t ∙ used_tight outputs l more)
      (λ t. ap (λ (x : Bool). not (x && loose n gates outputs l)) t)

  used_output : (outputs : List ℕ) (l : ℕ) → is_output outputs l ≡ true → Used outputs l
  used_output [] l e = absurd (true≢false (sym e))
  used_output (output ∷ outputs) l e =
      ⊎_elim (λ s. inl (inl (eqb-true l output s))) (λ more. inr (used_output outputs l more)) (or_cases (eqb l output) (is_output outputs l) e)

  -- what a line in use reads is in use
  used_on : (outputs : List ℕ) {m k : ℕ} → Reads n gates m k → Used outputs m → Used outputs k
  used_on [] {m = m} {k = k} r x = elim x [ ]
  used_on (output ∷ outputs) {m} {k} r (inl (inl s)) = inl (inr (Depends.directly (subst (λ (l : ℕ). Reads n gates l k) s r)))
  used_on (output ∷ outputs) r (inl (inr d)) = inl (inr (reads_on n gates d r))
  used_on (output ∷ outputs) r (inr more) = inr (used_on outputs r more)

  -- a line in use is an output, or its last reader is a gate above it
  used_marked : (outputs : List ℕ) (q : ℕ) → Used outputs (n + q) → (is_output outputs (n + q) ≡ true) ⊎ Reader outputs (n + q) gates (suc q)
  used_marked [] q x = elim x [ ]
  used_marked (output ∷ outputs) q (inl (inl s)) = inl (or_l (is_output outputs (n + q)) (eq-eqb (n + q) output s))
  used_marked (output ∷ outputs) q (inl (inr d)) =
      let r = (last_read n gates d).1 in
      let drives = r.drives in
      let lower = r.lower in
      inr (r.gate, omega arith, r.few, r.line)
  used_marked (output ∷ outputs) q (inr more) =
      ⊎_elim (λ o. inl (or_r (eqb (n + q) output) o)) (λ w. inr w) (used_marked outputs q more)

  module _ (outputs : List ℕ) where
    abbrev marked : ℕ → Bool
    marked q = is_marked outputs (drop (suc q) gates) (n + q)

    -- from the last gate down
    all_used : ((q : ℕ) → q < length gates → marked q ≡ true) → (left q : ℕ) → q < length gates → length gates ≤ q + left → Used outputs (n + q)
    all_used each zero q h l = absurd (omega arith)
    all_used each (suc left) q h l =
        ⊎_elim (used_output outputs (n + q))
        (λ w.
        let later = w.1 in
        used_on outputs (record { gate = w.0; few = w.2; drives = refl; line = w.3; lower = omega arith }) (all_used each left w.0 w.2 (omega arith)))
        (marked_some outputs (n + q) gates (suc q) (each q h))

    pub tight_read : none_loose n gates outputs ≡ each_read n gates outputs (length gates)
    unfolding none_loose
    tight_read =
        same_test
        (λ tight. all_each (length gates) marked λ q h.
        ⊎_elim (marked_output outputs (n + q) (drop (suc q) gates)) (marked_gate outputs (n + q) gates (suc q))
        (used_marked outputs q (tight_used outputs (n + q) (each_all (length gates) (λ q. not (loose n gates outputs (n + q))) tight q h))))
        (λ read. all_each (length gates) (λ q. not (loose n gates outputs (n + q))) λ q h.
        used_tight outputs (n + q) (all_used (each_all (length gates) marked read) (length gates) q h (omega arith)))
