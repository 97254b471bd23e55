-- Believed: which lines a line depends on, and loose gates (document 02, CR 1 and 2).
--
--   gates_of       the gates of a record, without unused entries
--   reads_such     the gate that drives a line reads such a line
--   reached_to     of each line below a line in turn: whether it is line k, or depends on it
--   depends        a line depends on another
--   output_lines   the lines that are outputs
--   loose          a line is no output, and no output depends on it
--   none_loose     no gate's line is loose
--   no_loose       the test 19, of a record
use Rattle.std.specs.Prelude.{ℕ, ◌+◌, ◌-◌, Bool, true, false, not, ◌&&◌, ◌||◌, List, [], ◌∷◌, leb, ltb, eqb, length, get_or, take}
use Rattle.bits.specs.Bounds.{each_below}
use Rattle.bits.specs.Building.{built_to}
use Rattle.job.specs.Record.{gate_a, gate_b, unused_gate}
use Rattle.job.specs.declared.Gate.{Gate}
use Rattle.job.specs.declared.GateEntry.{GateEntry}
use Rattle.job.specs.declared.Job.{Job}

abbrev pub gates_of : Job → List GateEntry
gates_of j = take j.gate_count j.gates

-- a circuit's number of inputs, and its gates
module _ (n : ℕ) (gates : List GateEntry) where
  -- "Lines 0 to n−1 are the inputs"; "Gate number q, from 0, drives line n+q"
  abbrev pub is_driven : ℕ → Bool
  is_driven l = leb n l && ltb l (n + length gates)

  abbrev pub driver : ℕ → Gate
  driver l = (get_or gates (l - n) unused_gate).gate

  -- the list says of each lower line in turn whether it is such a line; an input reads none
  abbrev pub reads_such : ℕ → List Bool → Bool
  reads_such l such = is_driven l && (get_or such (gate_a (driver l)) false || get_or such (gate_b (driver l)) false)

  abbrev pub reached_to : ℕ → ℕ → List Bool
  reached_to k = built_to (λ l such. eqb l k || reads_such l such)

  -- "read, directly or through other gates": the line's gate reads line k, or reads a line that depends on it
  unfoldable pub depends : ℕ → ℕ → Bool
  depends l k = reads_such l (reached_to k l)

  -- "A gate is loose when it is no output and none depends on it."
  unfoldable pub loose : List ℕ → ℕ → Bool
  loose [] l = true
  loose (output ∷ outputs) l = (not (eqb l output) && not (depends output l)) && loose outputs l

  -- "A job is to be refused when some gate's line is" loose; "Unused inputs remain allowed."
  unfoldable pub none_loose : List ℕ → Bool
  none_loose outputs = each_below (length gates) (λ q. not (loose outputs (n + q)))

abbrev pub output_lines : Job → List ℕ
output_lines j = take j.output_count j.outputs

-- "19: a loose gate"
abbrev pub no_loose : Job → Bool
no_loose j = none_loose j.inputs (gates_of j) (output_lines j)
