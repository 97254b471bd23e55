-- Believed: the listed circuits as tables (document 01, "Tables" and "Words of demand 3"; document 02, CR 2 and 3). What follows from a job's tables alone, its spectra, signatures
-- and locations, is said of a family, which is a term of ours.
--
--   Family        how many inputs, circuits and outputs there are, the part of a circuit, and the entry of a circuit and an output at an input number
--   part_of       the part of a job's circuit
--   family_of     the family of a job's circuits
--   same_tables   two circuits have equal tables
use Rattle.std.specs.Prelude.{ℕ, zero, suc, ◌+◌, ◌^◌, Bool, eqb}
use Rattle.bits.specs.Bounds.{each_below}
use Rattle.job.specs.Record.{part_at}
use Rattle.job.specs.declared.Job.{Job}
use Rattle.tables.specs.Circuit.{circuit_entry}

pub record Family : Type 0 where
  pub inputs : ℕ
  pub circuits : ℕ
  pub outputs : ℕ
  pub part : ℕ → ℕ
  pub entry : ℕ → ℕ → ℕ → ℕ

-- "Each fault gains a part number"; "The good circuit has part 0"
abbrev pub part_of : Job → ℕ → ℕ
part_of j zero = 0
part_of j (suc i) = part_at j i

-- "The listed circuits are 0 to f, the good one included"
abbrev pub family_of : Job → Family
family_of j =
    record {
      inputs = j.inputs;
      circuits = j.fault_count + 1;
      outputs = j.output_count;
      part = part_of j;
      entry = circuit_entry j;
    }

-- "Two circuits are alike when all outputs agree on every input."
abbrev pub same_tables : Family → ℕ → ℕ → Bool
same_tables F a b = each_below F.outputs (λ o. each_below (2 ^ F.inputs) (λ m. eqb (F.entry a o m) (F.entry b o m)))
