-- The spectra of listed circuits (specs/Listed.antt), and operations on them from their tables (specs/Operations.antt).
--
--   length_family_spectra   as many numbers as there are places
--   work_place              work place (c × outputs + o) × N + j holds coefficient j of circuit c at output o
--   work_entry              which is the place of an entry's code among those of circuit c
--   spectra_same            families whose entries are the same have the same spectra
--   rows_family             the spectra of tables, row after row, are those of their family
--   Fits                    what the checks of tables leave
--   checked_fits, fits_checked   tables that pass the checks
--   checked                an operation from tables that pass the checks goes on
--   table_family_valid     the family of tables that pass is valid
--   Given                  what a successful call of `fill` has passed and left
--   rows_given             and that it has
--   Respects               an operation sees no more of a family than its entries
--   delivered_family       from the tables of a job's circuits an operation is that on the job's family
use Prim.Native.Nat.{ℕ, ◌+◌, ◌*◌, ◌/◌, ◌%◌, ◌-◌, ◌^◌, ◌≤◌, ◌<◌}
use native.Mathlib.Nat.{mul_assoc, add-mul, add_assoc, mod-lt}
use native.Mathlib.Omega.{arith}
use mathlib.Core.Path.{◌≡◌, refl, sym, ap, ap₂, subst, ◌∙◌}
use mathlib.Core.Bool.{Bool, true, ◌&&◌}
use mathlib.Core.List.{List, [], ◌++◌, append-nil}
use borrow.Author.Tests.{eq-eqb, eqb-true, le-leb, leb-true, ltb-true}
use lib.Arith.{digits_lt, digits_div, digits_mod}
use lib.Dec.{leb, eqb}
use lib.ListN.{length, get_or, take, get_or-append}
use Rattle.bits.specs.Answer.{Answer, Fills, unless, onward}
use Rattle.bits.specs.Answer.Answer.{gives}
use Rattle.bits.specs.Blocks.{block}
use Rattle.bits.specs.Packed.{entry}
use Rattle.bits.specs.Sizes.{table_bytes}
use Rattle.bits.proofs.Answers.{gives_same, unless_gives, onward_gives}
use Rattle.bits.proofs.Blocks.{block_ext, block_blocks, length_block, block_at, block_list}
use Rattle.bits.proofs.Packed.{entry_packed}
use Rattle.bits.proofs.Tests.{and_l, and_r}
use Rattle.job.specs.Check.{Valid, inputs_ok}
use Rattle.job.specs.Layout.{max_inputs, max_outputs, max_faults}
use Rattle.job.specs.declared.Job.{Job}
use Rattle.reading.proofs.Validity.{reading_valid}
use Rattle.tables.specs.Circuit.{circuit_entry, circuit_table}
use Rattle.tables.specs.Family.{Family, family_of}
use Rattle.tables.specs.Operations.{tables_to, counts_of}
use Rattle.tables.specs.declared.Counts.{Counts}
use Rattle.tables.specs.declared.Delivery.{Delivery}
use Rattle.tables.proofs.Families.{ValidFamily, SameFamily, entry_bit, Delivers}
use Rattle.tables.proofs.Parts.{part_listed}
use Rattle.tables.proofs.WrittenTables.{length_table, length_tables_to}
use Rattle.spectra.specs.Codes.{code_of}
use Rattle.spectra.specs.Listed.{Entry, coef_of, family_spectra, places}
use Rattle.spectra.specs.Operations.{table_ok, table_row, rows_in, rows_ok, tables_ok, tables_checked, table_family, from_tables, filled_from, polarity_ok}
use Rattle.spectra.specs.Rows.{row_spectra, rows_of}
use Rattle.spectra.specs.Spectrum.{coefficient, spectrum}
use Rattle.spectra.specs.declared.Kind.{Kind}
use Rattle.spectra.proofs.Bounds.{length_spectrum, spectrum_at, spectrum_ext}
use Rattle.spectra.proofs.PackedTables.{table_whole, rows_whole}

-- ---- the work

module _ (kind : Kind) (k : ℕ) (F : Family) where
  -- the spectra of a circuit's outputs
  abbrev of_circuit : ℕ → List ℕ
  of_circuit c = block F.outputs (λ o. spectrum kind F.inputs k (F.entry c o))

  length_circuit : (c : ℕ) → length (of_circuit c) ≡ F.outputs * 2 ^ F.inputs
  length_circuit c =
      length_block (2 ^ F.inputs) (λ o. spectrum kind F.inputs k (F.entry c o)) (λ o. length_spectrum kind F.inputs k (F.entry c o)) F.outputs

  pub length_family_spectra : length (family_spectra kind k F) ≡ places F
  length_family_spectra =
      length_block (F.outputs * 2 ^ F.inputs) of_circuit length_circuit F.circuits ∙ sym (mul_assoc F.circuits F.outputs (2 ^ F.inputs))

  place : (c o j : ℕ) → (c * F.outputs + o) * 2 ^ F.inputs + j ≡ c * (F.outputs * 2 ^ F.inputs) + (o * 2 ^ F.inputs + j)
  place c o j =
      ap (λ (x : ℕ). x + j) (add-mul (c * F.outputs) o (2 ^ F.inputs) ∙ ap (λ (x : ℕ). x + o * 2 ^ F.inputs) (mul_assoc c F.outputs (2 ^ F.inputs)))
      ∙ add_assoc (c * (F.outputs * 2 ^ F.inputs)) (o * 2 ^ F.inputs) j

  -- it lies within all
  inside : (c o j : ℕ) → c < F.circuits → o < F.outputs → j < 2 ^ F.inputs
      → c * (F.outputs * 2 ^ F.inputs) + (o * 2 ^ F.inputs + j) < length (family_spectra kind k F)
  inside c o j h i l =
      subst (λ (x : ℕ). c * (F.outputs * 2 ^ F.inputs) + (o * 2 ^ F.inputs + j) < x)
      (sym (length_block (F.outputs * 2 ^ F.inputs) of_circuit length_circuit F.circuits)) (digits_lt h (digits_lt i l))

  module _ (rest : List ℕ) where
    pub work_place : (c o j : ℕ) → c < F.circuits → o < F.outputs → j < 2 ^ F.inputs
        → get_or (family_spectra kind k F ++ rest) ((c * F.outputs + o) * 2 ^ F.inputs + j) 0 ≡ coefficient kind F.inputs k (F.entry c o) j
    work_place c o j h i l =
        ap (λ (x : ℕ). get_or (family_spectra kind k F ++ rest) x 0) (place c o j)
        ∙ get_or-append (family_spectra kind k F) rest 0 (c * (F.outputs * 2 ^ F.inputs) + (o * 2 ^ F.inputs + j)) (inside c o j h i l)
        ∙ block_at (F.outputs * 2 ^ F.inputs) of_circuit length_circuit F.circuits c (o * 2 ^ F.inputs + j) h (digits_lt i l)
        ∙ block_at (2 ^ F.inputs) (λ p. spectrum kind F.inputs k (F.entry c p)) (λ p. length_spectrum kind F.inputs k (F.entry c p)) F.outputs o j i l
        ∙ spectrum_at kind F.inputs k (F.entry c o) j l

    pub work_entry : (c : ℕ) (e : Entry) → c < F.circuits → e.index < 2 ^ F.inputs → e.output < F.outputs
        → get_or (family_spectra kind k F ++ rest) (c * (F.outputs * 2 ^ F.inputs) + code_of (2 ^ F.inputs) e) 0 ≡ coef_of kind k F c e
    work_entry c e h i l =
        ap (λ (x : ℕ). get_or (family_spectra kind k F ++ rest) x 0) (sym (place c e.output e.index)) ∙ work_place c e.output e.index h l i

pub spectra_same : (kind : Kind) (k : ℕ) (F G : Family) → SameFamily F G → k < 2 ^ F.inputs → family_spectra kind k F ≡ family_spectra kind k G
spectra_same kind k F G same h =
    block_ext F.circuits (of_circuit kind k F) (λ c. block F.outputs (λ o. spectrum kind F.inputs k (G.entry c o)))
    (λ c l. block_ext F.outputs (λ o. spectrum kind F.inputs k (F.entry c o)) (λ o. spectrum kind F.inputs k (G.entry c o))
    (λ o i. spectrum_ext kind F.inputs k (F.entry c o) (G.entry c o) h (λ m g. same.entry c o m l i g)))
    ∙ (λ i. block (same.circuits i) (λ c. block (same.outputs i) (λ o. spectrum kind (same.inputs i) k (G.entry c o))))

pub rows_family : (kind : Kind) (k : ℕ) (counts : Counts) (s : List ℕ)
    → row_spectra kind counts.inputs k s (rows_in counts) ≡ family_spectra kind k (table_family counts s)
rows_family kind k counts s =
    sym (block_blocks (counts.faults + 1) counts.outputs (λ r. spectrum kind counts.inputs k (entry (table_row counts.inputs s r))))

-- ---- the checks

pub record Fits (counts : Counts) (s : List ℕ) : Type 0 where
  pub some : 1 ≤ counts.inputs
  pub few : counts.inputs ≤ max_inputs
  pub faults_few : counts.faults ≤ max_faults
  pub one : 1 ≤ counts.outputs
  pub outputs_few : counts.outputs ≤ max_outputs
  pub size : length s ≡ rows_in counts * table_bytes counts.inputs
  pub rows : rows_ok counts.inputs s (rows_in counts) ≡ true

module _ (counts : Counts) (s : List ℕ) where
  abbrev long : Bool
  long = eqb (length s) (rows_in counts * table_bytes counts.inputs)

  abbrev rows_ok_lem : Bool
  rows_ok_lem = rows_ok counts.inputs s (rows_in counts)

  abbrev outputs_ok : Bool
  outputs_ok = leb counts.outputs max_outputs && (long && rows_ok_lem)

  pub checked_fits : tables_checked counts s ≡ gives tt → Fits counts s
  unfolding tables_checked tables_ok
  checked_fits e =
      let first = unless_gives (inputs_ok counts.inputs) 2 (unless (tables_ok counts s) 12 (gives tt)) e in
      let second = (unless_gives (tables_ok counts s) 12 (gives tt) first.1).0 in
      let listed = and_r (leb counts.faults max_faults) (leb 1 counts.outputs && outputs_ok) second in
      let outputs = and_r (leb 1 counts.outputs) outputs_ok listed in
      let both = and_r (leb counts.outputs max_outputs) (long && rows_ok_lem) outputs in
      record {
        some = leb-true 1 counts.inputs (and_l (leb 1 counts.inputs) (leb counts.inputs max_inputs) first.0);
        few = leb-true counts.inputs max_inputs (and_r (leb 1 counts.inputs) (leb counts.inputs max_inputs) first.0);
        faults_few = leb-true counts.faults max_faults (and_l (leb counts.faults max_faults) (leb 1 counts.outputs && outputs_ok) second);
        one = leb-true 1 counts.outputs (and_l (leb 1 counts.outputs) outputs_ok listed);
        outputs_few = leb-true counts.outputs max_outputs (and_l (leb counts.outputs max_outputs) (long && rows_ok_lem) outputs);
        size = eqb-true (length s) (rows_in counts * table_bytes counts.inputs) (and_l long rows_ok_lem both);
        rows = and_r long rows_ok_lem both;
      }

  pub fits_checked : Fits counts s → tables_checked counts s ≡ gives tt
  unfolding tables_checked tables_ok
  fits_checked f =
      simp (
        le-leb 1 counts.inputs f.some,
        le-leb counts.inputs max_inputs f.few,
        le-leb counts.faults max_faults f.faults_few,
        le-leb 1 counts.outputs f.one,
        le-leb counts.outputs max_outputs f.outputs_few,
        eq-eqb (length s) (rows_in counts * table_bytes counts.inputs) f.size,
        f.rows,
      )

  module _ {A : Type 0} (go : Family → Answer A) where
    pub checked : tables_checked counts s ≡ gives tt → from_tables counts s go ≡ go (table_family counts s)
    checked e = ap (λ (x : Answer (Unit {0})). onward x (λ _. go (table_family counts s))) e

  pub table_family_valid : Fits counts s → ValidFamily (table_family counts s)
  unfolding entry
  table_family_valid f =
      record {
        some = f.some;
        few = f.few;
        good = omega arith;
        circuits_few = omega (arith, f.faults_few);
        one = f.one;
        outputs_few = f.outputs_few;
        bit = λ c o m _. mod-lt (get_or (table_row counts.inputs s (c * counts.outputs + o)) (m / 8) 0 / 2 ^ (7 - m % 8)) (omega arith);
      }

-- ---- the spectra, filled

-- what a successful call of `fill` has passed and left
pub record Given (counts : Counts) (s : List ℕ) (kind : Kind) (k room : ℕ) (filled : List ℕ) : Type 0 where
  pub fits : Fits counts s
  pub below : k < 2 ^ counts.inputs
  pub enough : places (table_family counts s) ≤ room
  pub spectra : filled ≡ family_spectra kind k (table_family counts s)

pub rows_given : (counts : Counts) (s : List ℕ) (kind : Kind) (k room : ℕ) {w : Fills (Unit {0})} → rows_of counts s kind k room ≡ gives w
    → Given counts s kind k room w.filled
unfolding filled_from
rows_given counts s kind k room {w} e =
    let F = table_family counts s in
    let onto = onward_gives (tables_checked counts s) (λ _. filled_from F kind k room) e in
    let third = unless_gives (polarity_ok counts.inputs k) 13 _ onto.2 in
    let fourth = unless_gives (leb (places F) room) 10 _ third.1 in
    record {
      fits = checked_fits counts s onto.1;
      below = ltb-true k (2 ^ counts.inputs) third.0;
      enough = leb-true (places F) room fourth.0;
      spectra = sym (ap (λ (x : Fills (Unit {0})). x.filled) (gives_same fourth.1));
    }

-- ---- a job's circuits

pub record Respects {A : Type 0} (go : Family → Answer A) : Type 1 where
  pub same : (F G : Family) → SameFamily F G → go F ≡ go G

module _ (j : Job) (v : Valid j) where
  abbrev outputs : ℕ
  outputs = j.output_count

  abbrev tables : List ℕ
  tables = tables_to j (j.fault_count + 1)

  -- row r is the table of circuit r / outputs at output r % outputs
  abbrev row_table : ℕ → List ℕ
  row_table r = circuit_table j (r / outputs) (r % outputs)

  row_table_lem : (c o : ℕ) → o < outputs → row_table (c * outputs + o) ≡ circuit_table j c o
  row_table_lem c o h = ap₂ (circuit_table j) (digits_div c h) (digits_mod c h)

  tables_rows : tables ≡ block (rows_in (counts_of j)) row_table
  tables_rows =
      block_ext (j.fault_count + 1) (λ c. block outputs (circuit_table j c)) (λ c. block outputs (λ o. row_table (c * outputs + o)))
      (λ c _. block_ext outputs (circuit_table j c) (λ o. row_table (c * outputs + o)) (λ o h. sym (row_table_lem c o h)))
      ∙ block_blocks (j.fault_count + 1) outputs row_table

  row_at : (r : ℕ) → r < rows_in (counts_of j) → table_row j.inputs tables r ≡ row_table r
  row_at r h =
      ap (λ (s : List ℕ). table_row j.inputs s r) (tables_rows ∙ sym (append-nil (block (rows_in (counts_of j)) row_table)))
      ∙ block_list (table_bytes j.inputs) row_table (λ i. length_table j (i / outputs) (i % outputs)) (rows_in (counts_of j)) [] r h

  job_fits : Fits (counts_of j) tables
  job_fits =
      record {
        some = v.some;
        few = v.few;
        faults_few = v.faults_few;
        one = v.outputs_some;
        outputs_few = v.outputs_few;
        size = length_tables_to j (j.fault_count + 1);
        rows =
            rows_whole j.inputs tables (rows_in (counts_of j))
            (λ r h. ap (table_ok j.inputs) (row_at r h) ∙ table_whole j (r / outputs) (r % outputs) v (mod-lt r v.outputs_some));
      }

  job_same : SameFamily (table_family (counts_of j) tables) (family_of j)
  unfolding circuit_table
  job_same =
      record {
        inputs = refl;
        circuits = refl;
        outputs = refl;
        one = v.outputs_some;
        part = part_listed j;
        entry = λ c o m h i l.
            ap (λ (t : List ℕ). entry t m) (row_at (c * outputs + o) (digits_lt h i) ∙ row_table_lem c o i)
            ∙ entry_packed (2 ^ j.inputs) (circuit_entry j c o) (λ m _. entry_bit j c o m v i) m l;
      }

  pub job_family : {A : Type 0} (go : Family → Answer A) → Respects go → from_tables (counts_of j) tables go ≡ go (family_of j)
  job_family go keeps =
      checked (counts_of j) tables go (fits_checked (counts_of j) tables job_fits) ∙ keeps.same (table_family (counts_of j) tables) (family_of j) job_same

module _ {s : List ℕ} {r : Delivery} {after : List ℕ} (d : Delivers s r after) where
  pub delivered_family : {A : Type 0} (go : Family → Answer A) → Respects go → from_tables r.counts (take r.bytes after) go ≡ go (family_of d.job)
  delivered_family go keeps =
      ap₂ (λ (c : Counts) (t : List ℕ). from_tables c t go) d.counted d.stands ∙ job_family d.job (reading_valid s d.job d.read) go keeps
