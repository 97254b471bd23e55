-- Laws of the numbers that stand for gates and faults (specs/Record.antt).
--
--   gate_of_ok        the gate of a kind and two lines below its own line is in order
--   gate_kind_of      the kind of the gate of a kind is that kind
--   gate_a_of         its line a is the line given
--   gate_b_of         so is its line b, where NOT and BUF have their lines equal
--   fault_kind_of, fault_a_of, fault_b_of   the same for faults; a stuck fault has its lines equal
--   gate_of_parts     a gate is the gate of its kind and lines
--   fault_of_parts    a fault is the fault of its kind and lines
--   gate_kind_lt      the kind of a gate fits its field
--   fault_kind_lt     the kind of a fault fits its field
use Prim.Native.Nat.{ℕ, zero, suc, ◌^◌, ◌<◌}
use native.Mathlib.Omega.{arith}
use mathlib.Core.Path.{◌≡◌, refl, sym}
use mathlib.Core.Bool.{true, false, ◌&&◌, ◌||◌, cond}
use borrow.Author.Tests.{eqb-true}
use lib.Dec.{ltb, eqb, lit<}
use Rattle.bits.proofs.Tests.{and_l, and_i}
use Rattle.job.specs.Check.{gate_ok}
use Rattle.job.specs.Layout.{gate_kind_bits, fault_kind_bits}
use Rattle.job.specs.Record.{gate_of, gate_kind, gate_a, gate_b, fault_of, fault_kind, fault_a, fault_b}
use Rattle.job.specs.declared.BinaryKind.{BinaryKind}
use Rattle.job.specs.declared.BinaryKind.TheVariants.{And, Or, Nand, Nor, Xor, Xnor}
use Rattle.job.specs.declared.UnaryKind.{UnaryKind}
use Rattle.job.specs.declared.UnaryKind.TheVariants.{Buf, Not}
use Rattle.job.specs.declared.Gate.{Gate}
use Rattle.job.specs.declared.Gate.TheVariants.{Unary, Binary}
use Rattle.job.specs.declared.Fault.{Fault}
use Rattle.job.specs.declared.Fault.TheVariants.{Stuck, Bridge}
use Rattle.job.proofs.Sizes.{eight_kinds, four_kinds}

pub gate_of_ok : (own k a b : ℕ) → ltb a own && ltb b own ≡ true → gate_ok own (gate_of k a b) ≡ true
gate_of_ok own zero a b e = e
gate_of_ok own (suc zero) a b e = e
gate_of_ok own (suc (suc zero)) a b e = e
gate_of_ok own (suc (suc (suc zero))) a b e = e
gate_of_ok own (suc (suc (suc (suc zero)))) a b e = e
gate_of_ok own (suc (suc (suc (suc (suc zero))))) a b e = e
gate_of_ok own (suc (suc (suc (suc (suc (suc zero)))))) a b e = and_i (and_l (ltb a own) (ltb b own) e) (and_l (ltb a own) (ltb b own) e)
gate_of_ok own (suc (suc (suc (suc (suc (suc (suc k))))))) a b e = and_i (and_l (ltb a own) (ltb b own) e) (and_l (ltb a own) (ltb b own) e)

each_gate_kind : (P : ℕ → Type 0) → P 0 → P 1 → P 2 → P 3 → P 4 → P 5 → P 6 → P 7 → (k : ℕ) → k < 2 ^ gate_kind_bits → P k
each_gate_kind P p0 p1 p2 p3 p4 p5 p6 p7 zero h = p0
each_gate_kind P p0 p1 p2 p3 p4 p5 p6 p7 (suc zero) h = p1
each_gate_kind P p0 p1 p2 p3 p4 p5 p6 p7 (suc (suc zero)) h = p2
each_gate_kind P p0 p1 p2 p3 p4 p5 p6 p7 (suc (suc (suc zero))) h = p3
each_gate_kind P p0 p1 p2 p3 p4 p5 p6 p7 (suc (suc (suc (suc zero)))) h = p4
each_gate_kind P p0 p1 p2 p3 p4 p5 p6 p7 (suc (suc (suc (suc (suc zero))))) h = p5
each_gate_kind P p0 p1 p2 p3 p4 p5 p6 p7 (suc (suc (suc (suc (suc (suc zero)))))) h = p6
each_gate_kind P p0 p1 p2 p3 p4 p5 p6 p7 (suc (suc (suc (suc (suc (suc (suc zero))))))) h = p7
each_gate_kind P p0 p1 p2 p3 p4 p5 p6 p7 (suc (suc (suc (suc (suc (suc (suc (suc k)))))))) h = absurd (omega (arith, eight_kinds))

each_fault_kind : (P : ℕ → Type 0) → P 0 → P 1 → P 2 → P 3 → (k : ℕ) → k < 2 ^ fault_kind_bits → P k
each_fault_kind P p0 p1 p2 p3 zero h = p0
each_fault_kind P p0 p1 p2 p3 (suc zero) h = p1
each_fault_kind P p0 p1 p2 p3 (suc (suc zero)) h = p2
each_fault_kind P p0 p1 p2 p3 (suc (suc (suc zero))) h = p3
each_fault_kind P p0 p1 p2 p3 (suc (suc (suc (suc k)))) h = absurd (omega (arith, four_kinds))

module _ (a b : ℕ) where
  pub gate_kind_of : (k : ℕ) → k < 2 ^ gate_kind_bits → gate_kind (gate_of k a b) ≡ k
  gate_kind_of = each_gate_kind (λ k. gate_kind (gate_of k a b) ≡ k) refl refl refl refl refl refl refl refl

  pub gate_a_of : (k : ℕ) → k < 2 ^ gate_kind_bits → gate_a (gate_of k a b) ≡ a
  gate_a_of = each_gate_kind (λ k. gate_a (gate_of k a b) ≡ a) refl refl refl refl refl refl refl refl

  pub gate_b_of : (k : ℕ) → k < 2 ^ gate_kind_bits → ltb k 6 || eqb b a ≡ true → gate_b (gate_of k a b) ≡ b
  gate_b_of =
      each_gate_kind (λ k. ltb k 6 || eqb b a ≡ true → gate_b (gate_of k a b) ≡ b)
      (λ _. refl) (λ _. refl) (λ _. refl) (λ _. refl) (λ _. refl) (λ _. refl) (λ e. sym (eqb-true b a e)) (λ e. sym (eqb-true b a e))

  pub fault_kind_of : (k : ℕ) → k < 2 ^ fault_kind_bits → fault_kind (fault_of k a b) ≡ k
  fault_kind_of = each_fault_kind (λ k. fault_kind (fault_of k a b) ≡ k) refl refl refl refl

  pub fault_a_of : (k : ℕ) → k < 2 ^ fault_kind_bits → fault_a (fault_of k a b) ≡ a
  fault_a_of = each_fault_kind (λ k. fault_a (fault_of k a b) ≡ a) refl refl refl refl

  pub fault_b_of : (k : ℕ) → k < 2 ^ fault_kind_bits → cond (ltb k 2) (eqb b a) (ltb a b) ≡ true → fault_b (fault_of k a b) ≡ b
  fault_b_of =
      each_fault_kind (λ k. cond (ltb k 2) (eqb b a) (ltb a b) ≡ true → fault_b (fault_of k a b) ≡ b)
      (λ e. sym (eqb-true b a e)) (λ e. sym (eqb-true b a e)) (λ _. refl) (λ _. refl)

pub gate_of_parts : (g : Gate) → gate_of (gate_kind g) (gate_a g) (gate_b g) ≡ g
gate_of_parts (Binary And a b) = refl
gate_of_parts (Binary Or a b) = refl
gate_of_parts (Binary Nand a b) = refl
gate_of_parts (Binary Nor a b) = refl
gate_of_parts (Binary Xor a b) = refl
gate_of_parts (Binary Xnor a b) = refl
gate_of_parts (Unary Not a) = refl
gate_of_parts (Unary Buf a) = refl

pub fault_of_parts : (x : Fault) → fault_of (fault_kind x) (fault_a x) (fault_b x) ≡ x
fault_of_parts (Stuck a false) = refl
fault_of_parts (Stuck a true) = refl
fault_of_parts (Bridge a b true) = refl
fault_of_parts (Bridge a b false) = refl

binary_number_lt : (k : BinaryKind) (a b : ℕ) → gate_kind (Binary k a b) < 8
binary_number_lt And a b = lit< tt
binary_number_lt Or a b = lit< tt
binary_number_lt Nand a b = lit< tt
binary_number_lt Nor a b = lit< tt
binary_number_lt Xor a b = lit< tt
binary_number_lt Xnor a b = lit< tt

unary_number_lt : (k : UnaryKind) (a : ℕ) → gate_kind (Unary k a) < 8
unary_number_lt Not a = lit< tt
unary_number_lt Buf a = lit< tt

pub gate_kind_lt : (g : Gate) → gate_kind g < 2 ^ gate_kind_bits
gate_kind_lt (Binary k a b) = rw eight_kinds (binary_number_lt k a b)
gate_kind_lt (Unary k a) = rw eight_kinds (unary_number_lt k a)

pub fault_kind_lt : (x : Fault) → fault_kind x < 2 ^ fault_kind_bits
fault_kind_lt (Stuck a false) = rw four_kinds (lit< tt)
fault_kind_lt (Stuck a true) = rw four_kinds (lit< tt)
fault_kind_lt (Bridge a b true) = rw four_kinds (lit< tt)
fault_kind_lt (Bridge a b false) = rw four_kinds (lit< tt)
