-- Laws of the values of lines (specs/Circuit.antt, specs/Work.antt).
--
--   get_or_all       a test that passes at the default and at each element passes at an element read
--   answer_bit       an answer is 0 or 1
--   cond_bit         a choice of two bits is a bit
--   own_bit          the value that a line has by itself is 0 or 1
--   value_at         among the values below a later line, line l's is its own, as the fixing leaves it
--   line_own         the value of a line, by the values below it
--   line_operand     a value below a line is the value of that line
--   line_bit         the value of a line is 0 or 1, if the fixing keeps that
--   line_input       a free input has its bit of the input number
--   line_gate        a free gate has its kind's answer to the values of its lines
--   first_below, second_below   the lines of a gate of a valid job are below the gate's own
use Prim.Native.Nat.{ℕ, zero, suc, ◌+◌, ◌-◌, ◌*◌, ◌^◌, ◌/◌, ◌≤◌, ◌<◌}
use native.Mathlib.Nat.{mod-lt}
use native.Mathlib.Omega.{arith}
use mathlib.Core.Path.{◌≡◌, refl, sym, ap, ◌∙◌}
use mathlib.Core.Bool.{Bool, true, false, cond, ◌&&◌}
use mathlib.Core.List.{List, [], ◌∷◌}
use borrow.Author.Tests.{lt-ltb, le-ltb, ltb-true}
use lib.Dec.{ltb}
use lib.ListN.{get_or}
use Rattle.bits.proofs.Building.{built_at}
use Rattle.bits.proofs.Tests.{and_l, and_r}
use Rattle.job.specs.Check.{Valid}
use Rattle.job.specs.Record.{gate_kind, gate_a, gate_b, gate_at, lines}
use Rattle.job.specs.declared.Job.{Job}
use Rattle.gates.specs.Answers.{answers, answer}
use Rattle.gates.specs.Values.{input_value}
use Rattle.tables.specs.Circuit.{Fixing, gate_value, own_value, values_to}
use Rattle.tables.specs.Work.{line_value}

abbrev all : {A : Type 0} → (A → Bool) → List A → Bool
all p [] = true
all p (x ∷ xs) = p x && all p xs

get_or_all : {A : Type 0} (p : A → Bool) (xs : List A) (d : A) → p d ≡ true → all p xs ≡ true → (i : ℕ) → p (get_or xs i d) ≡ true
get_or_all p [] d h a i = h
get_or_all p (x ∷ xs) d h a zero = and_l (p x) (all p xs) a
get_or_all p (x ∷ xs) d h a (suc i) = get_or_all p xs d h (and_r (p x) (all p xs) a) i

abbrev is_bit : ℕ → Bool
is_bit v = ltb v 2

pub answer_bit : (kind x y : ℕ) → answer kind x y < 2
unfolding answer answers
answer_bit kind x y =
    ltb-true (answer kind x y) 2
    (get_or_all is_bit (get_or answers kind []) 0 refl (get_or_all (all is_bit) answers [] refl refl kind) (2 * x + y))

pub cond_bit : (t : Bool) (x y : ℕ) → x < 2 → y < 2 → cond t x y < 2
cond_bit true x y h k = h
cond_bit false x y h k = k

pub own_bit : (j : Job) (m l : ℕ) (values : List ℕ) → own_value j m l values < 2
unfolding own_value input_value gate_value
own_bit j m l values =
    cond_bit (ltb l j.inputs) (input_value m l) (gate_value (gate_at j (l - j.inputs)) values)
    (mod-lt (m / 2 ^ l) (omega arith))
    (answer_bit (gate_kind (gate_at j (l - j.inputs))) _ _)

value_at : (fix : Fixing) (j : Job) (m k l : ℕ) → l < k → get_or (values_to fix j m k) l 0 ≡ fix l (own_value j m l (values_to fix j m l))
unfolding values_to
value_at fix j m k l h = built_at (λ l values. fix l (own_value j m l values)) 0 k l h

module _ (fix : ℕ → Fixing) (j : Job) (m : ℕ) where
  pub line_own : (l : ℕ) → l < lines j → line_value fix j l m ≡ fix m l (own_value j m l (values_to (fix m) j m l))
  unfolding line_value
  line_own l h = value_at (fix m) j m (lines j) l h

  pub line_operand : (l a : ℕ) → l ≤ lines j → a < l → get_or (values_to (fix m) j m l) a 0 ≡ line_value fix j a m
  unfolding line_value
  line_operand l a h below = value_at (fix m) j m l a below ∙ sym (value_at (fix m) j m (lines j) a (omega arith))

  pub line_bit : ((l v : ℕ) → v < 2 → fix m l v < 2) → (l : ℕ) → l < lines j → line_value fix j l m < 2
  line_bit bits l h = rw (line_own l h) (bits l (own_value j m l (values_to (fix m) j m l)) (own_bit j m l (values_to (fix m) j m l)))

  pub line_input : (l : ℕ) → ((v : ℕ) → fix m l v ≡ v) → l < j.inputs → line_value fix j l m ≡ input_value m l
  unfolding own_value
  line_input l unfixed h =
      line_own l (omega arith) ∙ unfixed (own_value j m l (values_to (fix m) j m l))
      ∙ ap (λ (b : Bool). cond b (input_value m l) (gate_value (gate_at j (l - j.inputs)) (values_to (fix m) j m l))) (lt-ltb l j.inputs h)

  pub line_gate : (q : ℕ) → ((v : ℕ) → fix m (j.inputs + q) v ≡ v) → q < j.gate_count
      → gate_a (gate_at j q) < j.inputs + q → gate_b (gate_at j q) < j.inputs + q
      → line_value fix j (j.inputs + q) m ≡ answer (gate_kind (gate_at j q)) (line_value fix j (gate_a (gate_at j q)) m) (line_value fix j (gate_b (gate_at j q)) m)
  unfolding own_value gate_value
  line_gate q unfixed h a b =
      let l : ℕ = j.inputs + q in
      let values : List ℕ = values_to (fix m) j m (j.inputs + q) in
      let e : j.inputs + q - j.inputs ≡ q = omega arith in
      line_own (j.inputs + q) (omega arith) ∙ unfixed (own_value j m (j.inputs + q) values)
      ∙ ap (λ (b : Bool). cond b (input_value m l) (gate_value (gate_at j (l - j.inputs)) values)) (le-ltb l j.inputs (omega arith))
      ∙ ap (λ (k : ℕ). gate_value (gate_at j k) values) e
      ∙ ap (λ (v : ℕ). answer (gate_kind (gate_at j q)) v (get_or values (gate_b (gate_at j q)) 0)) (line_operand l (gate_a (gate_at j q)) (omega arith) a)
      ∙ ap (λ (v : ℕ). answer (gate_kind (gate_at j q)) (line_value fix j (gate_a (gate_at j q)) m) v) (line_operand l (gate_b (gate_at j q)) (omega arith) b)

-- the lines of a gate are below the gate's own
module _ (j : Job) (valid : Valid j) (q : ℕ) (h : q < j.gate_count) where
  pub first_below : gate_a (gate_at j q) < j.inputs + q
  first_below =
      ltb-true (gate_a (gate_at j q)) (j.inputs + q)
      (and_l (ltb (gate_a (gate_at j q)) (j.inputs + q)) (ltb (gate_b (gate_at j q)) (j.inputs + q)) (valid.gate q h))

  pub second_below : gate_b (gate_at j q) < j.inputs + q
  second_below =
      ltb-true (gate_b (gate_at j q)) (j.inputs + q)
      (and_r (ltb (gate_a (gate_at j q)) (j.inputs + q)) (ltb (gate_b (gate_at j q)) (j.inputs + q)) (valid.gate q h))
