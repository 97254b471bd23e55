-- The tests of refusal 12 (the functions `table_ok`, `rows_ok` and `tables_ok`).
--
--   spare_bits       the lowest w bits of a table's only byte are 0
--   table_length     bytes of another length are no table
--   table_one, table_two   the spare bits of one and of two inputs
--   table_full       more inputs leave no spare bits
--   bytes_some       a table has at least one byte
--   rows_other       as many rows have other bytes
--   rows_small       these are a number
--   counted          the counts are no more than a job may have, and there is an output
--   counted_faults, counted_outputs   so the faults and the outputs are few
--   rows_few         no more rows than there may be
--   rows_fit, circuits_fit   the rows and the circuits are numbers
--   tables_counted   the tests of the counts and of the rows are that of the tables
use Prim.Native.Nat.{ℕ, zero, suc, ◌+◌, ◌-◌, ◌*◌, ◌/◌, ◌%◌, ◌^◌, ◌≤◌, ◌<◌}
use native.Mathlib.Nat.{mul-one, zero-mul, zero-add, suc-mul, mul-le-mul, lt_of_le_of_lt}
use native.Mathlib.Omega.{arith}
use mathlib.Core.Path.{◌≡◌, refl, sym, ap, ap₂, subst, ◌∙◌}
use mathlib.Core.Bool.{Bool, true, false, ◌&&◌}
use mathlib.Core.List.{List}
use borrow.Author.Tests.{eq-eqb, ne_eqb, leb-true}
use lib.Dec.{leb, eqb}
use lib.ListN.{length, get_or}
use lib.Pow.{pow_pos, pow_mono, pow-add, mod-pow-add}
use Rattle.bits.specs.Packed.{entry}
use Rattle.bits.proofs.Packed.{entry_digit}
use Rattle.bits.proofs.Tests.{and_l, and_r}
use Rattle.bits.specs.Sizes.{table_bytes}
use Rattle.job.specs.Layout.{max_outputs, max_faults}
use Rattle.tables.specs.declared.Counts.{Counts}
use Rattle.spectra.specs.Operations.{zero_from, table_ok, rows_in, rows_ok, all_rows_ok, tables_ok}
use Rattle.spectra.specs.Rows.{max_rows}
use Rattle.spectra.proofs.Sizes.{all_rows_fit, one_output}

-- ---- one table

both_zero : (d p x : ℕ) → 0 < p → eqb d 0 && eqb x 0 ≡ eqb (d * p + x) 0
both_zero zero p x h = ap (λ (y : ℕ). eqb y 0) (sym (zero-add x) ∙ ap (λ (y : ℕ). y + x) (sym (zero-mul p)))
both_zero (suc d) p x h =
    ap (λ (t : Bool). t && eqb x 0) (ne_eqb (suc d) 0 (λ e. omega arith))
    ∙ sym (ne_eqb (suc d * p + x) 0 (λ e. omega (arith, suc-mul d p)))

pub spare_bits : (w : ℕ) (s : List ℕ) → w ≤ 8 → zero_from w (8 - w) s ≡ eqb (get_or s 0 0 % 2 ^ w) 0
unfolding zero_from
spare_bits zero s h = sym (eq-eqb (get_or s 0 0 % 1) 0 (omega arith))
spare_bits (suc w) s h =
    let i : 8 - suc w ≡ 0 * 8 + (7 - w) = omega arith in
    let j : suc (8 - suc w) ≡ 8 - w = omega arith in
    let t : 1 + w ≡ suc w = omega arith in
    ap₂ ◌&&◌
    (ap (λ (x : ℕ). eqb x 0) (ap (entry s) i ∙ entry_digit s 0 w (omega arith)))
    (ap (λ (x : ℕ). zero_from w x s) j ∙ spare_bits w s (omega arith))
    ∙ both_zero (get_or s 0 0 / 2 ^ w % 2) (2 ^ w) (get_or s 0 0 % 2 ^ w) (pow_pos w)
    ∙ ap (λ (x : ℕ). eqb x 0) (sym (mod-pow-add (get_or s 0 0) 1 w) ∙ ap (λ (x : ℕ). get_or s 0 0 % 2 ^ x) t)

module _ (n : ℕ) {bytes : ℕ} (s : List ℕ) (e : bytes ≡ table_bytes n) where
  pub table_length : (length s ≡ bytes → ⊥) → false ≡ table_ok n s
  unfolding table_ok
  table_length h =
      ap (λ (t : Bool). t && zero_from (table_bytes n * 8 - 2 ^ n) (2 ^ n) s) (sym (ne_eqb (length s) (table_bytes n) (λ p. h (p ∙ sym e))))

  -- of a table with as many bytes as it should have the spare bits are left to test
  long : length s ≡ bytes → zero_from (table_bytes n * 8 - 2 ^ n) (2 ^ n) s ≡ table_ok n s
  unfolding table_ok
  long h = ap (λ (t : Bool). t && zero_from (table_bytes n * 8 - 2 ^ n) (2 ^ n) s) (sym (eq-eqb (length s) (table_bytes n) (h ∙ e)))

  pub table_one : length s ≡ bytes → n ≡ 1 → eqb (get_or s 0 0 % 64) 0 ≡ table_ok n s
  table_one h p = sym (spare_bits 6 s (omega arith)) ∙ ap (λ (m : ℕ). zero_from (table_bytes m * 8 - 2 ^ m) (2 ^ m) s) (sym p) ∙ long h

  pub table_two : length s ≡ bytes → n ≡ 2 → eqb (get_or s 0 0 % 16) 0 ≡ table_ok n s
  table_two h p = sym (spare_bits 4 s (omega arith)) ∙ ap (λ (m : ℕ). zero_from (table_bytes m * 8 - 2 ^ m) (2 ^ m) s) (sym p) ∙ long h

  pub table_full : length s ≡ bytes → 3 ≤ n → true ≡ table_ok n s
  unfolding zero_from
  table_full h p =
      let i : 3 + (n - 3) ≡ n = omega arith in
      let q : 2 ^ n ≡ 8 * 2 ^ (n - 3) = ap (λ (m : ℕ). 2 ^ m) (sym i) ∙ pow-add 2 3 (n - 3) in
      let z : table_bytes n * 8 - 2 ^ n ≡ 0 = omega arith in
      ap (λ (x : ℕ). zero_from x (2 ^ n) s) (sym z) ∙ long h

-- ---- rows of tables

pub bytes_some : (n : ℕ) {bytes : ℕ} → bytes ≡ table_bytes n → 0 < bytes
bytes_some n e = let p = pow_pos n in omega arith

pub rows_other : (n : ℕ) (s : List ℕ) (rows : ℕ) {bytes : ℕ} → bytes ≡ table_bytes n → (length s ≡ rows * bytes → ⊥) → false ≡ all_rows_ok n rows s
rows_other n s rows e ne =
    ap (λ (t : Bool). t && rows_ok n s rows) (sym (ne_eqb (length s) (rows * table_bytes n) (λ p. ne (p ∙ ap (λ (w : ℕ). rows * w) (sym e)))))

pub rows_small : (n : ℕ) {bytes rows : ℕ} → n ≤ 15 → bytes ≡ table_bytes n → rows ≤ max_rows → rows * bytes < 2 ^ 64
rows_small n {bytes} {rows} h e l =
    let p : 2 ^ n ≤ 2 ^ 15 = pow_mono {i = n} {j = 15} h in
    let b : bytes ≤ 4096 = omega (arith, e) in
    lt_of_le_of_lt (mul-le-mul l b) all_rows_fit

-- ---- the tables of counted circuits

pub rows_few : {faults outputs : ℕ} → faults ≤ max_faults → outputs ≤ max_outputs → (faults + 1) * outputs ≤ max_rows
rows_few {faults} h l = let p : faults + 1 ≤ max_faults + 1 = omega arith in mul-le-mul p l

pub rows_fit : {faults outputs : ℕ} → faults ≤ max_faults → outputs ≤ max_outputs → (faults + 1) * outputs < 2 ^ 64
rows_fit h l = omega (arith, rows_few h l, all_rows_fit)

-- as many as the rows of one output
pub circuits_fit : {faults : ℕ} → faults ≤ max_faults → faults + 1 < 2 ^ 64
circuits_fit {faults} h = subst (λ (x : ℕ). x < 2 ^ 64) (mul-one (faults + 1)) (rows_fit h one_output)

-- no more faults and outputs than a job may have, and an output
abbrev pub counted : Counts → Bool
counted counts = leb counts.faults max_faults && (leb 1 counts.outputs && leb counts.outputs max_outputs)

pub counted_faults : (counts : Counts) → counted counts ≡ true → counts.faults ≤ max_faults
counted_faults counts h = leb-true counts.faults max_faults (and_l _ _ h)

pub counted_outputs : (counts : Counts) → counted counts ≡ true → counts.outputs ≤ max_outputs
counted_outputs counts h = leb-true counts.outputs max_outputs (and_r (leb 1 counts.outputs) _ (and_r (leb counts.faults max_faults) _ h))

regroup : (a b c d : Bool) → a && (b && c) && d ≡ a && (b && (c && d))
regroup true true c d = refl
regroup true false c d = refl
regroup false b c d = refl

pub tables_counted : (counts : Counts) (s : List ℕ) {t : Bool} → t ≡ counted counts → t && all_rows_ok counts.inputs (rows_in counts) s ≡ tables_ok counts s
unfolding tables_ok
tables_counted counts s e =
    ap (λ (t : Bool). t && all_rows_ok counts.inputs (rows_in counts) s) e
    ∙ regroup (leb counts.faults max_faults) (leb 1 counts.outputs) (leb counts.outputs max_outputs) (all_rows_ok counts.inputs (rows_in counts) s)
