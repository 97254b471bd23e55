-- The loop that fills memory with the spectra of tables, row after row (the function `transform_rows`).
--
--   length_row_spectra   the spectra of r rows have r * 2 ^ n numbers
--   row_within           row r of rows that lie within a list lies within it
--   row_place            the same of a size that equals another
--   row_slice            a row as it is lent
--   row_whole            the one row of a table is the table
--   Filling              the spectra of the rows below r are put, and the sizes are those of a spectrum and of a table
--   filling_start        nothing is put yet
--   filling_length       the memory is as long as before
--   filling_place        there is room for one spectrum more, in the size that the code has
--   filling_slice        the slice of the memory that is lent has 2 ^ n places
--   row_bytes_lem        the row that is lent has the bytes of a table
--   filling_next         one spectrum more is put
--   filling_lent         the same, as the memory and the row are lent
use Prim.Native.Nat.{ℕ, suc, ◌+◌, ◌-◌, ◌*◌, ◌^◌, ◌≤◌, ◌<◌}
use native.Mathlib.Nat.{le_of_eq, zero-mul, zero-add, suc-mul, mul-le-mul_right, le_trans}
use native.Mathlib.Numerals.{add-one}
use native.Mathlib.Omega.{arith}
use mathlib.Core.Path.{◌≡◌, sym, ap, ap₂, subst, ◌∙◌}
use mathlib.Core.List.{List, ◌++◌, append_assoc}
use lib.ListN.{length, take, drop, length-append, length-take, length-drop}
use lib.Seq.{take_all, take_at, drop-append-add, drop-drop}
use Rattle.bits.specs.Blocks.{block}
use Rattle.bits.proofs.Blocks.{length_block}
use Rattle.bits.specs.Packed.{entry}
use Rattle.bits.specs.Sizes.{table_bytes}
use Rattle.spectra.specs.Operations.{table_row}
use Rattle.spectra.specs.Rows.{row_spectra}
use Rattle.spectra.specs.Spectrum.{spectrum}
use Rattle.spectra.specs.Recursion.{entries_from}
use Rattle.spectra.specs.declared.Kind.{Kind}
use Rattle.spectra.proofs.Bounds.{length_spectrum, spectrum_ext}

pub length_row_spectra : (kind : Kind) (n k : ℕ) (s : List ℕ) (r : ℕ) → length (row_spectra kind n k s r) ≡ r * 2 ^ n
length_row_spectra kind n k s r =
    length_block (2 ^ n) (λ i. spectrum kind n k (entry (table_row n s i))) (λ i. length_spectrum kind n k (entry (table_row n s i))) r

pub row_within : (r rows size room : ℕ) → r < rows → rows * size ≤ room → r * size + size ≤ room
row_within r rows size room h fits = le_trans (subst (λ (k : ℕ). k ≤ rows * size) (suc-mul r size) (mul-le-mul_right size h)) fits

pub row_place : {size other r rows room : ℕ} → other ≡ size → r < rows → rows * size ≤ room → r * other + other ≤ room
row_place {size} {other} {r} {rows} {room} e h fits = rw e (row_within r rows size room h fits)

-- so many elements from a place on, as a part of a list is lent
length_slice : (a size : ℕ) (l : List ℕ) → a + size ≤ length l → length (take (a + size - a) (drop a l)) ≡ size
length_slice a size l h = simp (length-take, length-drop) (omega arith)

cut : (a size : ℕ) → a + size - a ≡ size
cut a size = omega arith

pub row_slice : (n : ℕ) {bytes : ℕ} (s : List ℕ) (r : ℕ) → bytes ≡ table_bytes n → take (r * bytes + bytes - r * bytes) (drop (r * bytes) s) ≡ table_row n s r
row_slice n {bytes} s r e = ap (λ (x : ℕ). take x (drop (r * bytes) s)) (cut (r * bytes) bytes) ∙ ap (λ (x : ℕ). take x (drop (r * x) s)) e

pub row_bytes_lem : (n : ℕ) {bytes r rows : ℕ} (s : List ℕ) → bytes ≡ table_bytes n → r < rows → rows * table_bytes n ≤ length s
    → length (take (r * bytes + bytes - r * bytes) (drop (r * bytes) s)) ≡ table_bytes n
row_bytes_lem n {bytes} {r} {rows} s e h fits = length_slice (r * bytes) bytes s (row_place e h fits) ∙ e

pub row_whole : (n : ℕ) (s : List ℕ) → length s ≡ table_bytes n → table_row n s 0 ≡ s
row_whole n s e = ap (λ (x : ℕ). take (table_bytes n) (drop x s)) (zero-mul (table_bytes n)) ∙ take_all (table_bytes n) s (le_of_eq e)

pub record Filling (kind : Kind) (n k : ℕ) (s start : List ℕ) (rows size bytes : ℕ) (work : List ℕ) (r : ℕ) : Type 0 where
  pub sized : size ≡ 2 ^ n
  pub wide : bytes ≡ table_bytes n
  pub room : rows * 2 ^ n ≤ length start
  pub within : r ≤ rows
  pub done : work ≡ row_spectra kind n k s r ++ drop (r * 2 ^ n) start

pub filling_start : (kind : Kind) (n k : ℕ) (s start : List ℕ) (rows : ℕ) {size bytes : ℕ} → size ≡ 2 ^ n → bytes ≡ table_bytes n → rows * 2 ^ n ≤ length start
    → Filling kind n k s start rows size bytes start 0
unfolding block
filling_start kind n k s start rows e d h = record { sized = e; wide = d; room = h; within = omega arith; done = ap (λ (x : ℕ). drop x start) (sym (zero-mul (2 ^ n))) }

module _ {kind : Kind} {n k : ℕ} {s start : List ℕ} {rows size bytes : ℕ} {work : List ℕ} {r : ℕ} (f : Filling kind n k s start rows size bytes work r) where
  fits : r * 2 ^ n ≤ length start
  fits = le_trans (mul-le-mul_right (2 ^ n) f.within) f.room

  pub filling_length : length work ≡ length start
  filling_length =
      let h = fits in
      ap length f.done
      ∙ simp (length-append, length_row_spectra, length-drop) (omega arith)

  pub filling_place : r < rows → r * size + size ≤ length start
  filling_place h = row_place f.sized h f.room

  more : (new : List ℕ) → length new ≡ 2 ^ n
      → take (r * 2 ^ n) work ++ (new ++ drop (r * 2 ^ n + 2 ^ n) work) ≡ (row_spectra kind n k s r ++ new) ++ drop (suc r * 2 ^ n) start
  more new e =
      let l : length (row_spectra kind n k s r) ≡ r * 2 ^ n = length_row_spectra kind n k s r in
      ap₂ (λ (a b : List ℕ). a ++ (new ++ b))
      (ap (take (r * 2 ^ n)) f.done ∙ take_at (row_spectra kind n k s r) (drop (r * 2 ^ n) start) (r * 2 ^ n) l)
      (ap (drop (r * 2 ^ n + 2 ^ n)) f.done
      ∙ ap (λ (x : ℕ). drop (x + 2 ^ n) (row_spectra kind n k s r ++ drop (r * 2 ^ n) start)) (sym l)
      ∙ drop-append-add (row_spectra kind n k s r) (drop (r * 2 ^ n) start) (2 ^ n)
      ∙ drop-drop (2 ^ n) (r * 2 ^ n) start
      ∙ ap (λ (x : ℕ). drop x start) (sym (suc-mul r (2 ^ n))))
      ∙ sym (append_assoc (row_spectra kind n k s r) new (drop (suc r * 2 ^ n) start))

  pub filling_next : (new after : List ℕ) → r < rows → k < 2 ^ n → new ≡ spectrum kind n k (entries_from (table_row n s r) 0)
      → after ≡ take (r * 2 ^ n) work ++ (new ++ drop (r * 2 ^ n + 2 ^ n) work) → Filling kind n k s start rows size bytes after (r + 1)
  unfolding block
  filling_next new after h hk e p =
      let q : new ≡ spectrum kind n k (entry (table_row n s r)) =
      e ∙ spectrum_ext kind n k (entries_from (table_row n s r) 0) (entry (table_row n s r)) hk (λ m l. ap (entry (table_row n s r)) (zero-add m)) in
      let l : length new ≡ 2 ^ n = ap length q ∙ length_spectrum kind n k (entry (table_row n s r)) in
      record {
        sized = f.sized;
        wide = f.wide;
        room = f.room;
        within = omega arith;
        done =
            p ∙ more new l
            ∙ ap (λ (x : List ℕ). (row_spectra kind n k s r ++ x) ++ drop (suc r * 2 ^ n) start) q
            ∙ ap (λ (x : ℕ). row_spectra kind n k s x ++ drop (x * 2 ^ n) start) (sym (add-one r));
      }

  pub filling_slice : r < rows → length (take (r * size + size - r * size) (drop (r * size) work)) ≡ 2 ^ n
  filling_slice h = length_slice (r * size) size work (rw filling_length (filling_place h)) ∙ f.sized

  pub filling_lent : (new : List ℕ) → r < rows → k < 2 ^ n
      → new ≡ spectrum kind n k (entries_from (take (r * bytes + bytes - r * bytes) (drop (r * bytes) s)) 0)
      → Filling kind n k s start rows size bytes (take (r * size) work ++ (new ++ drop (r * size + size - r * size) (drop (r * size) work))) (r + 1)
  filling_lent new h hk q =
      filling_next new (take (r * size) work ++ (new ++ drop (r * size + size - r * size) (drop (r * size) work))) h hk
      (q ∙ ap (λ (x : List ℕ). spectrum kind n k (entries_from x 0)) (row_slice n s r f.wide))
      (ap (λ (x : ℕ). take (r * size) work ++ (new ++ drop x (drop (r * size) work))) (cut (r * size) size)
      ∙ ap (λ (x : List ℕ). take (r * size) work ++ (new ++ x)) (drop-drop size (r * size) work)
      ∙ ap (λ (x : ℕ). take (r * x) work ++ (new ++ drop (r * x + x) work)) f.sized)
