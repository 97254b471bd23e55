-- The lines that a fault fixes, and their tables (specs/Circuit.antt, specs/Sizes.antt).
--
--   fixed_by_other   a fault leaves the lines that are not its own
--   fixed_by_bit     a fault keeps bits
--   fixes            a valid fault fixes lines of the circuit
--   fixing_bits      the fixing of any circuit keeps bits
--   fixing_other     a circuit leaves the lines that the test finds not fixed
--   given            what a fault gives the lines that it fixes
--   fixed_value      a fixed line has its level, or the bridge's value, whatever it would have by itself
--   fixed_table      the table of a fixed line, from the good circuit's rows
use Prim.Native.Nat.{ℕ, zero, suc, ◌^◌, ◌<◌}
use native.Mathlib.Omega.{arith}
use mathlib.Core.Path.{◌≡◌, refl, sym, ap, ◌∙◌}
use mathlib.Core.Bool.{Bool, true, false, cond, ◌||◌, true≢false}
use mathlib.Core.List.{List}
use borrow.Author.Tests.{ne_eqb, eqb-false, ltb-true}
use lib.Dec.{eqb, ltb}
use lib.ListN.{get_or}
use Rattle.bits.specs.Packed.{entry}
use Rattle.bits.proofs.Packed.{packed_ext}
use Rattle.bits.proofs.Tests.{and_l, and_r}
use Rattle.job.specs.Check.{Valid, fault_line_ok}
use Rattle.job.specs.Record.{fault_a, fault_b, fault_at, lines, level_number}
use Rattle.job.specs.declared.Fault.{Fault}
use Rattle.job.specs.declared.Fault.TheVariants.{Stuck, Bridge}
use Rattle.job.specs.declared.Job.{Job}
use Rattle.gates.specs.Values.{bridged}
use Rattle.tables.specs.Circuit.{free, values_to, fixed_by, fixing_of}
use Rattle.tables.specs.Sizes.{shape_of, fixed_row}
use Rattle.tables.specs.Work.{line_value, line_table, row_at, good_fix, fault_fix, is_fixed, fixes_line, Unfixed, Good, Fixes}
use Rattle.tables.proofs.LineTables.{Bits, line_read}
use Rattle.tables.proofs.Values.{answer_bit, cond_bit, line_own}

-- two tests of which none passes
neither : {a b : Bool} → a ≡ false → b ≡ false → a || b ≡ false
neither {a} {b} p q = ap (λ (t : Bool). t || b) p ∙ q

first_fails : (a b : Bool) → a || b ≡ false → a ≡ false
first_fails true b h = h
first_fails false b h = refl

second_fails : (a b : Bool) → a || b ≡ false → b ≡ false
second_fails true b h = absurd (true≢false h)
second_fails false b h = h

fixed_by_other : (x : Fault) (values : List ℕ) (l v : ℕ) → (l ≡ fault_a x → ⊥) → (l ≡ fault_b x → ⊥) → fixed_by x values l v ≡ v
unfolding fixed_by
fixed_by_other (Stuck line level) values l v low high = ap (λ (t : Bool). cond t (level_number level) v) (ne_eqb l line low)
fixed_by_other (Bridge a b is_and) values l v low high =
    ap (λ (t : Bool). cond t (bridged is_and (get_or values a 0) (get_or values b 0)) v) (neither (ne_eqb l a low) (ne_eqb l b high))

bridged_bit : (is_and : Bool) (x y : ℕ) → bridged is_and x y < 2
unfolding bridged
bridged_bit is_and x y = answer_bit (cond is_and 0 1) x y

level_bit : (level : Bool) → level_number level < 2
level_bit true = omega arith
level_bit false = omega arith

pub fixed_by_bit : (x : Fault) (values : List ℕ) (l v : ℕ) → v < 2 → fixed_by x values l v < 2
unfolding fixed_by
fixed_by_bit (Stuck line level) values l v h = cond_bit (eqb l line) (level_number level) v (level_bit level) h
fixed_by_bit (Bridge a b is_and) values l v h =
    cond_bit (eqb l a || eqb l b) (bridged is_and (get_or values a 0) (get_or values b 0)) v (bridged_bit is_and (get_or values a 0) (get_or values b 0)) h

fixes_of : (j : Job) (x : Fault) → fault_line_ok j.inputs (lines j) x ≡ true → Fixes j x
fixes_of j (Stuck l level) p = record { low = ltb-true l (lines j) p; high = ltb-true l (lines j) p }
fixes_of j (Bridge a b is_and) p =
    let an : a < j.inputs = ltb-true a j.inputs (and_l (ltb a j.inputs) (ltb b j.inputs) p) in
    let bn : b < j.inputs = ltb-true b j.inputs (and_r (ltb a j.inputs) (ltb b j.inputs) p) in
    record { low = omega arith; high = omega arith }

pub fixes : {j : Job} → Valid j → {i : ℕ} → i < j.fault_count → Fixes j (fault_at j i)
fixes {j} v {i} h = fixes_of j (fault_at j i) (v.fault_line i h)

pub fixing_bits : (j : Job) (c : ℕ) → Bits (fixing_of j c)
unfolding fixing_of
fixing_bits j zero m l v h = h
fixing_bits j (suc i) m l v h = fixed_by_bit (fault_at j i) (values_to free j m (lines j)) l v h

pub fixing_other : (j : Job) (c l : ℕ) → fixes_line j c l ≡ false → Unfixed (fixing_of j c) l
unfolding fixing_of
fixing_other j zero l h m v = refl
fixing_other j (suc i) l h m v =
    fixed_by_other (fault_at j i) (values_to free j m (lines j)) l v
    (eqb-false l (fault_a (fault_at j i)) (first_fails (eqb l (fault_a (fault_at j i))) (eqb l (fault_b (fault_at j i))) h))
    (eqb-false l (fault_b (fault_at j i)) (second_fails (eqb l (fault_a (fault_at j i))) (eqb l (fault_b (fault_at j i))) h))

abbrev given : Fault → List ℕ → ℕ
given (Stuck line level) good = level_number level
given (Bridge a b is_and) good = bridged is_and (get_or good a 0) (get_or good b 0)

same_twice : (a : Bool) → a || a ≡ true → a ≡ true
same_twice true h = refl
same_twice false h = h

fixed_value : (x : Fault) (good : List ℕ) (l v : ℕ) → is_fixed x l ≡ true → fixed_by x good l v ≡ given x good
unfolding fixed_by
fixed_value (Stuck line level) good l v h = ap (λ (t : Bool). cond t (level_number level) v) (same_twice (eqb l line) h)
fixed_value (Bridge a b is_and) good l v h = ap (λ (t : Bool). cond t (bridged is_and (get_or good a 0) (get_or good b 0)) v) h

module _ (j : Job) (rows : List ℕ) (good : Good j rows) where
  line_given : (x : Fault) (l : ℕ) → l < lines j → is_fixed x l ≡ true → (m : ℕ) → given x (values_to free j m (lines j)) ≡ line_value (fault_fix j x) j l m
  line_given x l below h m = sym (line_own (fault_fix j x) j m l below ∙ fixed_value x (values_to free j m (lines j)) l _ h)

  read : (k : ℕ) → k < lines j → (m : ℕ) → m < 2 ^ j.inputs → entry (row_at j k rows) m ≡ get_or (values_to free j m (lines j)) k 0
  unfolding line_value
  read k h = line_read good_fix (λ m l v bit. bit) j k h (row_at j k rows) (good.line k h)

  pub fixed_table : (x : Fault) → Fixes j x → (l : ℕ) → l < lines j → is_fixed x l ≡ true → fixed_row (shape_of j.inputs) x rows ≡ line_table (fault_fix j x) j l
  unfolding fixed_row
  fixed_table (Stuck line level) fixes l below h =
      packed_ext (2 ^ j.inputs) (λ m. level_number level) (line_value (fault_fix j (Stuck line level)) j l)
      (λ m _. line_given (Stuck line level) l below h m)
  fixed_table (Bridge a b is_and) fixes l below h =
      packed_ext (2 ^ j.inputs) (λ m. bridged is_and (entry (row_at j a rows) m) (entry (row_at j b rows) m)) (line_value (fault_fix j (Bridge a b is_and)) j l)
      (λ m k.
      (λ i. bridged is_and (read a fixes.low m k i) (read b fixes.high m k i))
      ∙ line_given (Bridge a b is_and) l below h m)
