-- Dependence (specs/Dependence.antt) as an inductive relation.
--
--   Reads                        a line's gate has a lower line as its line a or b
--   gate_reads                   where 4 is passed, its lines are lower
--   Depends                      "read, directly or through other gates": a line reads another, or reads a line that depends on it
--   depends_rule, rule_depends   `depends` computes that relation
--   last_read                    what a line depends on is read by it, or by a line on which it depends
--   reads_on                     a line depends on what a line reads on which it depends
use Prim.Native.Nat.{ℕ, zero, suc, ◌+◌, ◌-◌, ◌≤◌, ◌<◌}
use native.Mathlib.Nat.{not-suc-le-zero}
use native.Mathlib.Omega.{arith}
use mathlib.Core.Path.{◌≡◌, refl, sym, ap, subst, ◌∙◌}
use mathlib.Core.Bool.{true, false, ◌||◌}
use mathlib.Core.Logic.{◌⊎◌, inl, inr, ⊎_elim}
use mathlib.Core.List.{List}
use borrow.Author.Tests.{leb-true, ltb-true, eqb-true, le-leb, lt-ltb, eq-eqb}
use lib.Dec.{leb, ltb, eqb}
use lib.ListN.{length, get_or, get_or-eq_default}
use Rattle.bits.proofs.Below.{lt_or_ge}
use Rattle.bits.proofs.Building.{length_built, built_at}
use Rattle.bits.proofs.Tests.{and_l, and_r, and_i, or_cases, or_l, or_r, clash}
use Rattle.job.specs.Check.{gate_ok}
use Rattle.job.specs.Dependence.{is_driven, driver, reads_such, reached_to, depends}
use Rattle.job.specs.Record.{gate_a, gate_b, unused_gate}
use Rattle.job.specs.declared.Gate.{Gate}
use Rattle.job.specs.declared.GateEntry.{GateEntry}

abbrev pub gate_in : List GateEntry → ℕ → Gate
gate_in gates q = (get_or gates q unused_gate).gate

abbrev pub HasLine : Gate → ℕ → Type 0
HasLine g k = (gate_a g ≡ k) ⊎ (gate_b g ≡ k)

-- "Gate number q, from 0, drives line n+q"
pub record Reads (n : ℕ) (gates : List GateEntry) (l k : ℕ) : Type 0 where
  pub gate : ℕ
  pub few : gate < length gates
  pub drives : l ≡ n + gate
  pub line : HasLine (gate_in gates gate) k
  pub lower : k < l

pub data Depends (n : ℕ) (gates : List GateEntry) : ℕ → ℕ → Type 0 where
  directly : {l k : ℕ} → Reads n gates l k → Depends n gates l k
  through : {l m k : ℕ} → Reads n gates l m → Depends n gates m k → Depends n gates l k

module _ (n : ℕ) (gates : List GateEntry) where
  pub gate_reads : (q k : ℕ) → q < length gates → gate_ok (n + q) (gate_in gates q) ≡ true → HasLine (gate_in gates q) k → Reads n gates (n + q) k
  gate_reads q k few ok line =
      let a = gate_a (gate_in gates q) in
      let b = gate_b (gate_in gates q) in
      record {
        gate = q;
        few = few;
        drives = refl;
        line = line;
        lower =
            ⊎_elim (λ e. rw (← e) (ltb-true a (n + q) (and_l (ltb a (n + q)) (ltb b (n + q)) ok)))
            (λ e. rw (← e) (ltb-true b (n + q) (and_r (ltb a (n + q)) (ltb b (n + q)) ok))) line;
      }

  -- ---- one step of the fold

  reached_at : (k l m : ℕ) → m < l → get_or (reached_to n gates k l) m false ≡ eqb m k || depends n gates m k
  unfolding depends
  reached_at k l m h = built_at (λ l such. eqb l k || reads_such n gates l such) false l m h

  reached_below : (k l m : ℕ) → get_or (reached_to n gates k l) m false ≡ true → m < l
  reached_below k l m e =
      ⊎_elim (λ h. h)
      (λ h. absurd (clash e (get_or-eq_default (reached_to n gates k l) false (rw (length_built (λ l such. eqb l k || reads_such n gates l such) l) h))))
      (lt_or_ge m l)

  abbrev Reaches : ℕ → ℕ → Type 0
  Reaches m k = (m ≡ k) ⊎ (depends n gates m k ≡ true)

  reached : (k l m : ℕ) → get_or (reached_to n gates k l) m false ≡ true → (m < l) × Reaches m k
  reached k l m e =
      let h = reached_below k l m e in
      (h, ⊎_elim (λ s. inl (eqb-true m k s)) (λ d. inr d) (or_cases (eqb m k) (depends n gates m k) (sym (reached_at k l m h) ∙ e)))

  reaches : (k l m : ℕ) → m < l → Reaches m k → get_or (reached_to n gates k l) m false ≡ true
  reaches k l m h r =
      reached_at k l m h ∙ ⊎_elim (λ s. or_l (depends n gates m k) (eq-eqb m k s)) (λ d. or_r (eqb m k) d) r

  step : (l k : ℕ) → depends n gates l k ≡ true → (m : ℕ) × Reads n gates l m × Reaches m k
  unfolding depends
  step l k e =
      let g = driver n gates l in
      let such = reached_to n gates k l in
      let driven = and_l (is_driven n gates l) (get_or such (gate_a g) false || get_or such (gate_b g) false) e in
      let low : n ≤ l = leb-true n l (and_l (leb n l) (ltb l (n + length gates)) driven) in
      let high : l < n + length gates = ltb-true l (n + length gates) (and_r (leb n l) (ltb l (n + length gates)) driven) in
      let found : (m : ℕ) → HasLine g m → get_or such m false ≡ true → (m : ℕ) × Reads n gates l m × Reaches m k =
      λ m line at.
      let r = reached k l m at in
      (m, record { gate = l - n; few = omega arith; drives = omega arith; line = line; lower = r.0 }, r.1)
      in
      ⊎_elim (found (gate_a g) (inl refl)) (found (gate_b g) (inr refl))
      (or_cases (get_or such (gate_a g) false) (get_or such (gate_b g) false) (and_r (is_driven n gates l) (get_or such (gate_a g) false || get_or such (gate_b g) false) e))

  back : {l m k : ℕ} → Reads n gates l m → Reaches m k → depends n gates l k ≡ true
  unfolding depends
  back {l} {m} {k} r h =
      let q = r.gate in
      let few = r.few in
      let drives = r.drives in
      let number : l - n ≡ q = omega arith in
      let g = driver n gates l in
      let such = reached_to n gates k l in
      let at : get_or such m false ≡ true = reaches k l m r.lower h in
      let line : HasLine g m = subst (λ (i : ℕ). HasLine (gate_in gates i) m) (sym number) r.line in
      and_i (and_i (le-leb n l (omega arith)) (lt-ltb l (n + length gates) (omega arith)))
      (⊎_elim (λ e. or_l (get_or such (gate_b g) false) (ap (λ (i : ℕ). get_or such i false) e ∙ at))
      (λ e. or_r (get_or such (gate_a g) false) (ap (λ (i : ℕ). get_or such i false) e ∙ at)) line)

  -- ---- the relation

  rule_below : (bound l k : ℕ) → l < bound → depends n gates l k ≡ true → Depends n gates l k
  rule_below zero l k h e = absurd (not-suc-le-zero h)
  rule_below (suc bound) l k h e =
      let s = step l k e in
      let r = s.1 in
      let lower = r.lower in
      ⊎_elim (λ same. directly (subst (λ (m : ℕ). Reads n gates l m) same r)) (λ d. through r (rule_below bound s.0 k (omega arith) d)) s.2

  pub depends_rule : (l k : ℕ) → depends n gates l k ≡ true → Depends n gates l k
  depends_rule l k e = rule_below (suc l) l k (omega arith) e

  pub rule_depends : {l k : ℕ} → Depends n gates l k → depends n gates l k ≡ true
  rule_depends (directly r) = back r (inl refl)
  rule_depends (through r d) = back r (inr (rule_depends d))

  pub last_read : {l k : ℕ} → Depends n gates l k → (m : ℕ) × Reads n gates m k × ((l ≡ m) ⊎ Depends n gates l m)
  last_read {l} (directly r) = (l, r, inl refl)
  last_read {l} (through r d) =
      let s = last_read d in
      (s.0, s.1, inr (⊎_elim (λ e. directly (subst (λ (m : ℕ). Reads n gates l m) e r)) (λ more. through r more) s.2))

  pub reads_on : {l m k : ℕ} → Depends n gates l m → Reads n gates m k → Depends n gates l k
  reads_on (directly s) r = through s (directly r)
  reads_on (through s d) r = through s (reads_on d r)
