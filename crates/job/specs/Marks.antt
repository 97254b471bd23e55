-- Kept by the code: the lines that are marked in one pass over the gates, from the last down.
--
--   is_marked       a line is an output, or some of the gates read it
--   each_read       every gate's line is an output, or a later gate reads it
--   OutputsMarked   the lines that are outputs are marked, and no other
use Rattle.std.specs.Prelude.{ℕ, suc, ◌+◌, ◌≡◌, Bool, false, ◌||◌, List, [], ◌∷◌, eqb, length, get_or, drop}
use Rattle.bits.specs.Bounds.{each_below}
use Rattle.job.specs.Layout.{max_gates}
use Rattle.job.specs.Record.{gate_a, gate_b}
use Rattle.job.specs.declared.Gate.{Gate}
use Rattle.job.specs.declared.GateEntry.{GateEntry}

abbrev pub is_output : List ℕ → ℕ → Bool
is_output [] l = false
is_output (output ∷ outputs) l = eqb l output || is_output outputs l

abbrev pub has_line : Gate → ℕ → Bool
has_line g l = eqb l (gate_a g) || eqb l (gate_b g)

abbrev pub is_marked : List ℕ → List GateEntry → ℕ → Bool
is_marked outputs [] l = is_output outputs l
is_marked outputs (e ∷ gates) l = has_line e.gate l || is_marked outputs gates l

abbrev pub each_read : ℕ → List GateEntry → List ℕ → ℕ → Bool
each_read n gates outputs count = each_below count (λ q. is_marked outputs (drop (suc q) gates) (n + q))

pub record OutputsMarked (outputs : List ℕ) (marks : List Bool) : Type 0 where
  pub long : length marks ≡ 256 + max_gates
  pub each : (l : ℕ) → get_or marks l false ≡ is_output outputs l
