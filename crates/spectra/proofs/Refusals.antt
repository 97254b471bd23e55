-- What the operations on tables answer and leave, case by case (specs/Operations.antt, specs/Rows.antt).
--
--   tables_unfit, tables_wrong, tables_right   the checks of tables: 2, 12, none
--   filled_polarity, filled_memory, filled_done   the spectra of tables: 2 or 12, 13, 10, success
--   rows_room               the places of tables that pass the checks are a number
--   spectrum_left           the spectrum of a table is what is left of one row
--   one_row                 of one table memory of its size holds it
use Prim.Native.Nat.{ℕ, ◌-◌, ◌*◌, ◌^◌, ◌≤◌, ◌<◌}
use native.Mathlib.Nat.{one-mul, mul-le-mul, lt_of_le_of_lt}
use native.Mathlib.Omega.{arith}
use mathlib.Core.Path.{◌≡◌, refl, sym, ap, ap₂, subst, ◌∙◌}
use mathlib.Core.Bool.{Bool, true, false, ◌&&◌}
use mathlib.Core.List.{List, ◌++◌, append-nil}
use borrow.Author.Tests.{eqb-true, le-leb, lt-leb, lt-ltb, le-ltb}
use lib.Dec.{leb, eqb}
use lib.ListN.{length, drop, drop_of_length-le}
use lib.Pow.{pow_mono}
use Rattle.bits.specs.Answer.{Answer, Fills, leaves, unless, onward}
use Rattle.bits.specs.Answer.Answer.{gives, refused}
use Rattle.bits.specs.Blocks.{block}
use Rattle.bits.specs.Packed.{entry}
use Rattle.job.specs.Check.{inputs_ok}
use Rattle.job.specs.Layout.{max_inputs, max_outputs, max_faults}
use Rattle.job.proofs.Sizes.{most_places}
use Rattle.bits.specs.Sizes.{table_bytes}
use Rattle.tables.specs.Family.{Family}
use Rattle.tables.specs.declared.Counts.{Counts}
use Rattle.tables.proofs.Answers.{kept}
use Rattle.spectra.specs.Listed.{family_spectra, places}
use Rattle.spectra.specs.Operations.{zero_from, table_ok, table_row, rows_in, rows_ok, tables_ok, tables_checked, table_family, filled_from, polarity_ok, spectrum_of}
use Rattle.spectra.specs.Rows.{rows_filled, row_spectra, rows_of, one_table}
use Rattle.spectra.specs.Spectrum.{spectrum}
use Rattle.spectra.specs.declared.Kind.{Kind}
use Rattle.spectra.proofs.Families.{Fits, checked, rows_family}
use Rattle.spectra.proofs.Rows.{length_row_spectra, row_whole}
use Rattle.spectra.proofs.Sizes.{one_output}
use Rattle.spectra.proofs.TableTests.{rows_few}

-- ---- the checks of tables

module _ (counts : Counts) (s : List ℕ) where
  pub tables_unfit : inputs_ok counts.inputs ≡ false → refused 2 ≡ tables_checked counts s
  unfolding tables_checked
  tables_unfit h = simp h

  pub tables_wrong : inputs_ok counts.inputs ≡ true → tables_ok counts s ≡ false → refused 12 ≡ tables_checked counts s
  unfolding tables_checked
  tables_wrong h e = simp (h, e)

  pub tables_right : inputs_ok counts.inputs ≡ true → tables_ok counts s ≡ true → gives tt ≡ tables_checked counts s
  unfolding tables_checked
  tables_right h e = simp (h, e)

-- ---- the spectra of tables

module _ (counts : Counts) (s : List ℕ) (kind : Kind) (k : ℕ) (out : List ℕ) where
  abbrev F : Family
  F = table_family counts s

  module _ (ok : tables_checked counts s ≡ gives tt) {size : ℕ} (sized : size ≡ 2 ^ counts.inputs) where
    onto : rows_of counts s kind k (length out) ≡ filled_from F kind k (length out)
    onto = checked counts s (λ F. filled_from F kind k (length out)) ok

    pub filled_polarity : size ≤ k → record { answer = refused 13; memory = out } ≡ leaves (rows_of counts s kind k (length out)) out
    unfolding filled_from
    filled_polarity h =
        kept (rows_of counts s kind k (length out)) 13 out
        (onto ∙ (let l : 2 ^ counts.inputs ≤ k = rw sized at h in simp (le-ltb k (2 ^ counts.inputs) l)))

    pub filled_memory : k < size → length out < rows_in counts * size
        → record { answer = refused 10; memory = out } ≡ leaves (rows_of counts s kind k (length out)) out
    unfolding filled_from
    filled_memory h l =
        let i : k < 2 ^ counts.inputs = rw sized at h in
        let p : length out < places F = subst (λ (x : ℕ). length out < rows_in counts * x) sized l in
        kept (rows_of counts s kind k (length out)) 10 out (onto ∙ simp (lt-ltb k (2 ^ counts.inputs) i, lt-leb (places F) (length out) p))

    pub filled_done : (after : List ℕ) → k < size → rows_in counts * size ≤ length out → after ≡ rows_filled kind counts.inputs k s (rows_in counts) out
        → record { answer = gives tt; memory = after } ≡ leaves (rows_of counts s kind k (length out)) out
    unfolding filled_from
    filled_done after h l p =
        let i : k < 2 ^ counts.inputs = rw sized at h in
        let room : places F ≤ length out = subst (λ (x : ℕ). rows_in counts * x ≤ length out) sized l in
        let gave : filled_from F kind k (length out) ≡ gives (record { value = tt; filled = family_spectra kind k F }) =
        simp (lt-ltb k (2 ^ counts.inputs) i, le-leb (places F) (length out) room) in
        ap (λ (m : List ℕ). record { answer = gives tt; memory = m })
        (p ∙ ap (λ (x : ℕ). row_spectra kind counts.inputs k s (rows_in counts) ++ drop x out) (sym (length_row_spectra kind counts.inputs k s (rows_in counts)))
        ∙ ap (λ (x : List ℕ). x ++ drop (length x) out) (rows_family kind k counts s))
        ∙ ap (λ (x : Answer (Fills (Unit {0}))). leaves x out) (sym (onto ∙ gave))

pub rows_room : {counts : Counts} {s : List ℕ} {size : ℕ} → Fits counts s → size ≡ 2 ^ counts.inputs → rows_in counts * size < 2 ^ 64
rows_room f e =
    lt_of_le_of_lt
    (mul-le-mul (rows_few f.faults_few f.outputs_few) (subst (λ (x : ℕ). x ≤ 2 ^ max_inputs) (sym e) (pow_mono f.few))) most_places

-- ---- one table

-- the checks of a spectrum, given what the table's test says, the places it wants and the table
checks : ℕ → Kind → ℕ → ℕ → Bool → ℕ → List ℕ → Answer (Fills (Unit {0}))
checks n kind k room ok places s =
    unless (inputs_ok n) 2
    (unless ok 12
    (unless (polarity_ok n k) 13
    (unless (leb places room) 10
    (gives (record { value = tt; filled = spectrum kind n k (entry s) })))))

checks_first : {A B : Type 0} (u w : Bool) (a : A) (f : A → Answer B)
    → onward (unless u 2 (unless w 12 (gives a))) f ≡ unless u 2 (unless w 12 (f a))
checks_first true true a f = refl
checks_first true false a f = refl
checks_first false w a f = refl

spectrum_row : (n : ℕ) (s : List ℕ) (kind : Kind) (k room : ℕ) → rows_of (one_table n) s kind k room ≡ spectrum_of n s kind k room
unfolding checks spectrum_of tables_checked tables_ok filled_from rows_ok block table_ok
spectrum_row n s kind k room =
    ap₂
    (λ (t u : Bool). onward (unless (inputs_ok n) 2 (unless (t && (u && (eqb (length s) (1 * table_bytes n) && table_ok n (table_row n s 0)))) 12 (gives (tt {0}))))
    (λ _. filled_from (table_family (one_table n) s) kind k room)) (le-leb 0 max_faults (omega arith)) (le-leb 1 max_outputs one_output)
    ∙ checks_first (inputs_ok n) (eqb (length s) (1 * table_bytes n) && table_ok n (table_row n s 0)) tt (λ _. filled_from (table_family (one_table n) s) kind k room)
    ∙ go (eqb (length s) (table_bytes n)) refl
  where
    places : 1 * 2 ^ n ≡ 2 ^ n
    places = one-mul (2 ^ n)

    size : 1 * table_bytes n ≡ table_bytes n
    size = one-mul (table_bytes n)

    go : (u : Bool) → eqb (length s) (table_bytes n) ≡ u
        → checks n kind k room (eqb (length s) (1 * table_bytes n) && table_ok n (table_row n s 0)) (1 * 2 ^ n) (table_row n s 0) ≡ spectrum_of n s kind k room
    go true e =
        let row : table_row n s 0 ≡ s = row_whole n s (eqb-true (length s) (table_bytes n) e) in
        ap (λ (x : ℕ). checks n kind k room (eqb (length s) x && table_ok n (table_row n s 0)) (1 * 2 ^ n) (table_row n s 0)) size
        ∙ ap₂ (λ (x : ℕ) (l : List ℕ). checks n kind k room (eqb (length s) (table_bytes n) && table_ok n l) x l) places row
        ∙ ap (λ (t : Bool). checks n kind k room (t && table_ok n s) (2 ^ n) s) e
    go false e =
        ap (λ (x : ℕ). checks n kind k room (eqb (length s) x && table_ok n (table_row n s 0)) (1 * 2 ^ n) (table_row n s 0)) size
        ∙ ap (λ (t : Bool). checks n kind k room (t && table_ok n (table_row n s 0)) (1 * 2 ^ n) (table_row n s 0)) e
        ∙ sym (ap (λ (t : Bool). checks n kind k room (t && zero_from (table_bytes n * 8 - 2 ^ n) (2 ^ n) s) (2 ^ n) s) e)

pub spectrum_left : (n : ℕ) {counts : Counts} (s : List ℕ) (kind : Kind) (k : ℕ) (out : List ℕ) → counts ≡ one_table n
    → leaves (rows_of counts s kind k (length out)) out ≡ leaves (spectrum_of n s kind k (length out)) out
spectrum_left n s kind k out e =
    ap (λ (x : Counts). leaves (rows_of x s kind k (length out)) out) e
    ∙ ap (λ (x : Answer (Fills (Unit {0}))). leaves x out) (spectrum_row n s kind k (length out))

pub one_row : (kind : Kind) (n k : ℕ) (s out : List ℕ) {after : List ℕ} → length s ≡ table_bytes n → length out ≡ 2 ^ n
    → after ≡ rows_filled kind n k s 1 out → after ≡ spectrum kind n k (entry s)
unfolding block
one_row kind n k s out whole size p =
    p
    ∙ ap (λ (l : List ℕ). spectrum kind n k (entry l) ++ drop (1 * 2 ^ n) out) (row_whole n s whole)
    ∙ ap (λ (l : List ℕ). spectrum kind n k (entry s) ++ l) (drop_of_length-le out {i = 1 * 2 ^ n} (omega arith))
    ∙ append-nil (spectrum kind n k (entry s))
