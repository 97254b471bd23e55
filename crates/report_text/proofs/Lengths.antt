-- No text of the report is longer than the longest (specs/Text.antt).
--
--   refused_short   the line of a refusal fits in max_text bytes
--   signature_few   a valid job's signature has no more entries than a job has faults
--   job_short       so its text fits
--   alike_short     and the line of a pair does
use Prim.Native.Nat.{ℕ, ◌+◌, ◌*◌, ◌^◌, ◌≤◌, ◌<◌}
use native.Mathlib.Nat.{le_trans, lt_of_le_of_lt, add-le-add, mul-le-mul_right}
use native.Mathlib.Omega.{arith}
use mathlib.Core.Path.{◌≡◌, subst}
use mathlib.Core.Bool.{◌&&◌}
use mathlib.Core.List.Memᴰ
use mathlib.Core.List.{List, ◌++◌, Memᴰ}
use lib.ListN.{length, length-append, length-map}
use lib.Pow.{pow_mono, pow_pos}
use Rattle.job.specs.Check.{Valid}
use Rattle.job.specs.Layout.{max_faults}
use Rattle.job.specs.declared.Job.{Job}
use Rattle.tables.specs.Circuit.{circuit_entry}
use Rattle.tables.specs.Family.{Family, family_of, same_tables}
use Rattle.tables.specs.Operations.{counts_of}
use Rattle.tables.proofs.Families.{entry_bit}
use Rattle.spectra.specs.Listed.{Entry, coef_of, readings_of}
use Rattle.spectra.specs.declared.Kind.TheVariants.{Mrm}
use Rattle.spectra.proofs.Bounds.{coefficient_le}
use Rattle.method.specs.Method.Pair.{pair}
use Rattle.method.proofs.Firsts.{first_pair_pair}
use Rattle.choosing.specs.Choosing.{needed, signature_in, alike_pair}
use Rattle.choosing.specs.declared.Purpose.TheVariants.{Isolating}
use Rattle.choosing.proofs.Bound.{signature_short, signature_below}
use Rattle.report_text.specs.Text.{circuit_lines, counts_line, signature_line, refused_line, alike_line, numbers_text, job_text, max_text}
use Rattle.report_text.proofs.Sizes.{inputs_digit, outputs_digit, gates_digits, faults_digits, places_digits}
use Rattle.report_text.proofs.Widths.{numbers_width, counts_width, signature_width, circuits_width, refused_width, alike_width}

-- a line by itself, of a refusal or of a pair
line_short : 28 ≤ max_text
unfolding max_text
line_short = omega arith

pub refused_short : (i : ℕ) → i < 100 → length (refused_line i) ≤ max_text
refused_short i h = let wide = refused_width i h in let most = line_short in omega arith

module _ (j : Job) (v : Valid j) where
  abbrev F : Family
  F = family_of j

  abbrev signed : List Entry
  signed = signature_in Isolating Mrm 0 F

  -- an index and a coefficient have three digits
  size_small : 2 ^ j.inputs < 1000
  size_small = lt_of_le_of_lt (pow_mono v.few) places_digits

  pub signature_few : length signed ≤ max_faults
  signature_few =
      let short : length signed + 1 ≤ j.fault_count + 1 = signature_short Isolating Mrm 0 F (omega arith) in
      omega (arith, v.faults_few)

  entry_small : (e : Entry) → Memᴰ e signed → (e.index < 1000) × (e.output < 10)
  entry_small e m =
      let known = signature_below Isolating Mrm 0 F e m in
      (omega (arith, known.0, size_small), omega (arith, known.1, v.outputs_few, outputs_digit))

  coefficient_small : (c i : ℕ) → Memᴰ i (readings_of Mrm 0 F signed c) → i < 1000
  coefficient_small c i m =
      let r = Memᴰ.of_map (coef_of Mrm 0 F c) signed m in
      let known = signature_below Isolating Mrm 0 F r.0 r.1 in
      let most =
      coefficient_le Mrm j.inputs 0 (circuit_entry j c r.0.output) r.0.index (λ m _. entry_bit j c r.0.output m v known.1) (pow_pos j.inputs) in
      subst (λ (x : ℕ). x < 1000) r.2 (lt_of_le_of_lt most size_small)

  row_width : (c : ℕ) → length (numbers_text (readings_of Mrm 0 F signed c)) ≤ 4 * max_faults
  row_width c =
      let wide = numbers_width (readings_of Mrm 0 F signed c) (coefficient_small c) in
      let same = length-map signed (coef_of Mrm 0 F c) in
      omega (arith, signature_few)

  pub job_short : length (job_text (counts_of j) F signed) ≤ max_text
  unfolding max_text
  job_short =
      let faults : j.fault_count + 1 ≤ max_faults + 1 = omega (arith, v.faults_few) in
      let first = counts_width (counts_of j) (lt_of_le_of_lt v.few inputs_digit) (lt_of_le_of_lt v.gates_few gates_digits) (omega (arith, faults_digits)) in
      let second = signature_width signed entry_small in
      let rest = circuits_width (readings_of Mrm 0 F signed) (4 * max_faults) (j.fault_count + 1) (omega (arith, faults_digits)) (λ c h. row_width c) in
      let many : (j.fault_count + 1) * (3 + 4 * max_faults) ≤ (max_faults + 1) * (3 + 4 * max_faults) =
      mul-le-mul_right {n = max_faults + 1} (3 + 4 * max_faults) faults in
      let whole = length-append (counts_line (counts_of j) ++ signature_line signed) (circuit_lines (readings_of Mrm 0 F signed) (j.fault_count + 1)) in
      let front = length-append (counts_line (counts_of j)) (signature_line signed) in
      let fore : length (counts_line (counts_of j) ++ signature_line signed) ≤ 28 + (10 + 6 * max_faults) = omega (arith, signature_few) in
      rw whole (add-le-add fore (le_trans rest many))

  pub alike_short : (a b : ℕ) → alike_pair Isolating F ≡ pair a b → length (alike_line a b) ≤ max_text
  alike_short a b e =
      let found = first_pair_pair (j.fault_count + 1) (λ a b. needed Isolating F.part a b && same_tables F a b) a b e in
      let wide = alike_width a b (omega (arith, found.0, found.1, v.faults_few, faults_digits)) (omega (arith, found.1, v.faults_few, faults_digits)) in
      let most = line_short in
      omega arith
