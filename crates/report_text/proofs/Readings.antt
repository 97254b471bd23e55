-- What is read off the filled work are the circuits' readings (specs/Text.antt, specs/Putting.antt).
--
--   row_readings          the numbers of a circuit's row at a list of entries are its readings
--   lines_same            equal numbers give equal lines
--   work_text_lem         the text printed from the work is the job's
use Prim.Native.Nat.{ℕ, zero, suc, ◌+◌, ◌^◌, ◌<◌}
use native.Mathlib.Omega.{arith}
use mathlib.Core.Path.{◌≡◌, refl, ap, ap₂}
use mathlib.Core.List.{List, ◌++◌, Memᴰ}
use Rattle.job.specs.declared.Job.{Job}
use Rattle.tables.specs.Family.{Family, family_of}
use Rattle.tables.specs.Operations.{counts_of}
use Rattle.spectra.specs.Listed.{Entry, coef_of, readings_of, family_spectra}
use Rattle.spectra.specs.declared.Kind.{Kind}
use Rattle.spectra.specs.declared.Kind.TheVariants.{Mrm}
use Rattle.spectra.proofs.Families.{work_entry}
use Rattle.locating.proofs.Indices.{numbers_same}
use Rattle.locating.specs.Scanning.{work_numbers}
use Rattle.report_text.specs.Putting.{work_text}
use Rattle.report_text.specs.Text.{counts_line, signature_line, circuit_line, circuit_lines, job_text}

-- entries of a family
abbrev EntriesIn : Family → List Entry → Type 0
EntriesIn F list = (e : Entry) → Memᴰ e list → (e.index < 2 ^ F.inputs) × (e.output < F.outputs)

row_readings : (j : Job) (kind : Kind) (k : ℕ) (rest : List ℕ) (list : List Entry) → EntriesIn (family_of j) list → (c : ℕ) → c < j.fault_count + 1
    → work_numbers (family_spectra kind k (family_of j) ++ rest) (counts_of j) list c ≡ readings_of kind k (family_of j) list c
row_readings j kind k rest list below c h =
    numbers_same list _ (coef_of kind k (family_of j) c) (λ e m. work_entry kind k (family_of j) rest c e h (below e m).0 (below e m).1)

lines_same : (f g : ℕ → List ℕ) (count : ℕ) → ((c : ℕ) → c < count → f c ≡ g c) → circuit_lines f count ≡ circuit_lines g count
unfolding circuit_lines
lines_same f g zero same = refl
lines_same f g (suc count) same =
    ap₂ (λ (l m : List ℕ). l ++ circuit_line count m) (lines_same f g count (λ c h. same c (omega arith))) (same count (omega arith))

pub work_text_lem : (j : Job) (rest : List ℕ) (list : List Entry) → EntriesIn (family_of j) list
    → work_text (counts_of j) list (family_spectra Mrm 0 (family_of j) ++ rest) ≡ job_text (counts_of j) (family_of j) list
work_text_lem j rest list below =
    ap (λ (l : List ℕ). counts_line (counts_of j) ++ signature_line list ++ l)
    (lines_same (work_numbers (family_spectra Mrm 0 (family_of j) ++ rest) (counts_of j) list) (readings_of Mrm 0 (family_of j) list) (j.fault_count + 1)
    (row_readings j Mrm 0 rest list below))
