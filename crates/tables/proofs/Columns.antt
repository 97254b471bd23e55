-- For each line the set of the columns of a batch whose faults fix it, made fault after fault (specs/Work.antt).
--
--   column_fault  a column of faulty circuits has a fault of the job (column_index: whose number is an index of the record's faults)
--   column_few    a set has room for it
--   low_index, high_index   the lines that a fault fixes are indices of an array of lines
--   FixedTo       the sets, for the first columns
--   fixed_good    the good circuit fixes no line
--   fixed_none, fixed_next   no column yet, one more
use Prim.Native.Nat.{ℕ, zero, suc, ◌+◌, ◌-◌, ◌≤◌, ◌<◌}
use native.Mathlib.Omega.{arith}
use native.Mathlib.Decide.{ℕ_discrete}
use mathlib.Core.Path.{◌≡◌, refl, sym, ap, subst, ◌∙◌}
use mathlib.Core.Bool.{Bool, true, false, ◌&&◌, ◌||◌, or-false, and-false, and-true}
use mathlib.Core.List.{List}
use mathlib.Core.Logic.{⊎_elim}
use borrow.Author.Tests.{eq-eqb, ne_eqb, lt-ltb, le-ltb}
use lib.Dec.{eqb, ltb}
use lib.ListN.{length, get_or, set, replicate, length-set, length-replicate, get_or-replicate}
use lib.Seq.{get_or-set_same, get_or-set_other}
use Rattle.bits.specs.Sets.{max_members, has, joined}
use Rattle.bits.proofs.Below.{lt_or_ge}
use Rattle.bits.proofs.Membership.{has_none, set_joined}
use Rattle.job.specs.Check.{Valid}
use Rattle.job.specs.Layout.{max_faults}
use Rattle.job.specs.Record.{fault_a, fault_b, fault_at}
use Rattle.job.specs.declared.Fault.{Fault}
use Rattle.job.specs.declared.Job.{Job}
use Rattle.tables.specs.Work.{max_lines, is_fixed, fixes_line, FixedIn}
use Rattle.tables.specs.declared.evaluator.Batch.{Batch}
use Rattle.tables.proofs.Faults.{fixes}
use Rattle.tables.proofs.Sizes.{faults_fit}
use Rattle.tables.proofs.Space.{line_index, fault_number, fault_index}

module _ {j : Job} (valid : Valid j) {first count i : ℕ} (some : first ≡ 0 → ⊥) (within : first + count ≤ j.fault_count + 1) (less : i < count) where
  column_fault : first - 1 + i < j.fault_count
  column_fault = fault_number (omega (arith, some)) within less

  pub column_index : first - 1 + i < max_faults
  column_index = fault_index valid column_fault

  pub column_few : i < max_members
  column_few = omega (arith, column_index, faults_fit)

  pub low_index : {l : ℕ} → l ≡ fault_a (fault_at j (first - 1 + i)) → l < max_lines
  low_index e = subst (λ (l : ℕ). l < max_lines) (sym e) (line_index valid (fixes valid column_fault).low)

  pub high_index : {l : ℕ} → l ≡ fault_b (fault_at j (first - 1 + i)) → l < max_lines
  high_index e = subst (λ (l : ℕ). l < max_lines) (sym e) (line_index valid (fixes valid column_fault).high)

pub record FixedTo (j : Job) (first count i : ℕ) (of : List ℕ) : Type 0 where
  pub whole : length of ≡ max_lines
  pub within : i ≤ count
  pub columns : (l k : ℕ) → l < max_lines → has (get_or of l 0) k ≡ ltb k i && fixes_line j (first + k) l

blank : (l k : ℕ) → l < max_lines → has (get_or (replicate max_lines 0) l 0) k ≡ false
blank l k h = ap (λ (s : ℕ). has s k) (get_or-replicate max_lines l 0 0 h) ∙ has_none k

pub fixed_good : (j : Job) (b : Batch) → b.first ≡ 0 → b.count ≡ 1 → FixedIn j b (replicate max_lines 0)
fixed_good j b first count = record { columns = λ l i h. blank l i h ∙ sym (go l i) }
  where
    go : (l i : ℕ) → ltb i b.count && fixes_line j (b.first + i) l ≡ false
    go l zero =
        let none : b.first + 0 ≡ 0 = omega (arith, first) in
        ap (λ (c : ℕ). ltb 0 b.count && fixes_line j c l) none ∙ and-false (ltb 0 b.count)
    go l (suc i) = ap (λ (t : Bool). t && fixes_line j (b.first + suc i) l) (le-ltb (suc i) b.count (omega (arith, count)))

pub fixed_none : (j : Job) (first count : ℕ) → FixedTo j first count 0 (replicate max_lines 0)
fixed_none j first count =
    record {
      whole = length-replicate max_lines 0;
      within = omega arith;
      columns = λ l k h. blank l k h ∙ sym (ap (λ (t : Bool). t && fixes_line j (first + k) l) (le-ltb k 0 (omega arith)));
    }

-- one line's set gets one member more
module _ (of : List ℕ) (at i : ℕ) (inside : at < length of) (few : i < max_members) where
  more : List ℕ
  more = set of at (joined (get_or of at 0) i)

  more_has : (l k : ℕ) → has (get_or more l 0) k ≡ has (get_or of l 0) k || (eqb l at && eqb i k)
  unfolding more
  more_has l k = go (ℕ_discrete l at)
    where
      go : Dec (l ≡ at) → has (get_or (set of at (joined (get_or of at 0) i)) l 0) k ≡ has (get_or of l 0) k || (eqb l at && eqb i k)
      go (yes e) =
          ap (λ (n : ℕ). has (get_or (set of at (joined (get_or of at 0) i)) n 0) k) e
          ∙ ap (λ (s : ℕ). has s k) (get_or-set_same of at (joined (get_or of at 0) i) 0 inside) ∙ set_joined (get_or of at 0) i k few
          ∙ (λ t. has (get_or of (sym e t) 0) k || (sym (eq-eqb l at e) t && eqb i k))
      go (no n) =
          ap (λ (s : ℕ). has s k) (get_or-set_other of at l (joined (get_or of at 0) i) 0 n)
          ∙ sym (ap (λ (t : Bool). has (get_or of l 0) k || (t && eqb i k)) (ne_eqb l at n) ∙ or-false (has (get_or of l 0) k))

either_line : (a p q r : Bool) → (a || (p && r)) || (q && r) ≡ a || ((p || q) && r)
either_line true p q r = refl
either_line false true true true = refl
either_line false true true false = refl
either_line false true false true = refl
either_line false true false false = refl
either_line false false q r = refl

-- the columns before one, and that one
one_column : (i k : ℕ) (f : ℕ → Bool) (t : Bool) → t ≡ f i → (ltb k i && f k) || (t && eqb i k) ≡ ltb k (i + 1) && f k
one_column i k f t is = go (ℕ_discrete i k)
  where
    go : Dec (i ≡ k) → (ltb k i && f k) || (t && eqb i k) ≡ ltb k (i + 1) && f k
    go (yes e) =
        (λ n. (le-ltb k i (omega (arith, e)) n && f k) || ((is ∙ ap f e) n && eq-eqb i k e n))
        ∙ and-true (f k) ∙ sym (ap (λ (s : Bool). s && f k) (lt-ltb k (i + 1) (omega (arith, e))))
    go (no n) =
        ap (λ (s : Bool). (ltb k i && f k) || (t && s)) (ne_eqb i k n) ∙ ap (λ (s : Bool). (ltb k i && f k) || s) (and-false t)
        ∙ or-false (ltb k i && f k)
        ∙ ap (λ (s : Bool). s && f k)
        (⊎_elim (λ l. lt-ltb k i l ∙ sym (lt-ltb k (i + 1) (omega arith))) (λ l. le-ltb k i l ∙ sym (le-ltb k (i + 1) (omega (arith, n)))) (lt_or_ge k i))

module _ {j : Job} {first count i : ℕ} {of : List ℕ} (w : FixedTo j first count i of) (some : first ≡ 0 → ⊥) (x : Fault) (is : x ≡ fault_at j (first - 1 + i))
    {low high : ℕ} (is_low : low ≡ fault_a x) (is_high : high ≡ fault_b x) (low_line : low < max_lines) (high_line : high < max_lines) (less : i < count) (few : i < max_members) where
  abbrev once : List ℕ
  once = set of low (joined (get_or of low 0) i)

  long_once : length once ≡ max_lines
  long_once = length-set of low (joined (get_or of low 0) i) ∙ w.whole

  line_fixed : (l : ℕ) → eqb l low || eqb l high ≡ fixes_line j (first + i) l
  line_fixed l =
      let e : suc (first - 1 + i) ≡ first + i = omega (arith, some) in
      (λ t. eqb l (is_low t) || eqb l (is_high t)) ∙ ap (λ (y : Fault). is_fixed y l) is ∙ ap (λ (c : ℕ). fixes_line j c l) e

  inside_low : low < length of
  inside_low = omega (arith, w.whole)

  inside_high : high < length once
  inside_high = omega (arith, long_once)

  noted : FixedTo j first count (i + 1) (set once high (joined (get_or once high 0) i))
  unfolding more
  noted =
      record {
        whole = length-set once high (joined (get_or once high 0) i) ∙ long_once;
        within = omega arith;
        columns = λ l k below.
            more_has once high i inside_high few l k
            ∙ ap (λ (t : Bool). t || (eqb l high && eqb i k)) (more_has of low i inside_low few l k)
            ∙ either_line (has (get_or of l 0) k) (eqb l low) (eqb l high) (eqb i k)
            ∙ ap (λ (t : Bool). t || ((eqb l low || eqb l high) && eqb i k)) (w.columns l k below)
            ∙ one_column i k (λ n. fixes_line j (first + n) l) (eqb l low || eqb l high) (line_fixed l);
      }

  pub fixed_next : {a b : ℕ} → a ≡ joined (get_or of low 0) i → b ≡ joined (get_or (set of low a) high 0) i → FixedTo j first count (i + 1) (set (set of low a) high b)
  fixed_next {a} {b} ea eb =
      subst (λ (v : ℕ). FixedTo j first count (i + 1) (set (set of low a) high v)) (sym eb)
      (subst (λ (v : ℕ). FixedTo j first count (i + 1) (set (set of low v) high (joined (get_or (set of low v) high 0) i))) (sym ea) noted)
