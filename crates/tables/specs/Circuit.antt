-- Believed: the tables of a circuit (document 01, "Tables"; document 02, CR 2).
--
--   Fixing          what the readers of a line see, where the line by itself would have a value
--   values_to       the values of the lines below a line, for one input number, as everyone reads them
--   fixed_by        the lines that a fault fixes, and at what
--   circuit_entry   entry m of the table of circuit c at output o
--   circuit_table   that table, packed
use Rattle.std.specs.Prelude.{ℕ, zero, suc, ◌-◌, ◌^◌, cond, ◌||◌, List, get_or, ltb, eqb}
use Rattle.bits.specs.Building.{built_to}
use Rattle.bits.specs.Packed.{packed}
use Rattle.job.specs.Record.{gate_kind, gate_a, gate_b, gate_at, output_at, fault_at, lines, level_number}
use Rattle.job.specs.declared.Gate.{Gate}
use Rattle.job.specs.declared.Fault.{Fault}
use Rattle.job.specs.declared.Fault.TheVariants.{Stuck, Bridge}
use Rattle.job.specs.declared.Job.{Job}
use Rattle.gates.specs.Answers.{answer}
use Rattle.gates.specs.Values.{input_value, bridged}

abbrev pub Fixing : Type 0
Fixing = ℕ → ℕ → ℕ

abbrev pub free : Fixing
free l v = v

unfoldable pub gate_value : Gate → List ℕ → ℕ
gate_value g values = answer (gate_kind g) (get_or values (gate_a g) 0) (get_or values (gate_b g) 0)

-- "Lines 0 to n−1 are the inputs"; "Gate number q, from 0, drives line n+q"
unfoldable pub own_value : Job → ℕ → ℕ → List ℕ → ℕ
own_value j m l values = cond (ltb l j.inputs) (input_value m l) (gate_value (gate_at j (l - j.inputs)) values)

unfoldable pub values_to : Fixing → Job → ℕ → ℕ → List ℕ
values_to fix j m = built_to (λ l values. fix l (own_value j m l values))

-- "A stuck line has its level for everyone who reads it, and for the output if it is that line. A bridge gives both inputs the AND, or the OR,
-- of their two bits, for every reader and for the output if it is one of them." The second argument is the values of the good circuit's lines.
unfoldable pub fixed_by : Fault → List ℕ → Fixing
fixed_by (Stuck line level) good l v = cond (eqb l line) (level_number level) v
fixed_by (Bridge a b is_and) good l v = cond (eqb l a || eqb l b) (bridged is_and (get_or good a 0) (get_or good b 0)) v

-- "Circuit 0 is the good one; circuit c is the circuit with fault c, from 1 to f"
unfoldable pub fixing_of : Job → ℕ → ℕ → Fixing
fixing_of j zero m = free
fixing_of j (suc i) m = fixed_by (fault_at j i) (values_to free j m (lines j))

-- "Outputs number from 0 in field order and may repeat a line."
unfoldable pub circuit_entry : Job → ℕ → ℕ → ℕ → ℕ
circuit_entry j c o m = get_or (values_to (fixing_of j c m) j m (lines j)) (output_at j o) 0

-- "N = 2 to the power n"
unfoldable pub circuit_table : Job → ℕ → ℕ → List ℕ
circuit_table j c o = packed (2 ^ j.inputs) (circuit_entry j c o)
