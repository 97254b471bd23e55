-- Undoing accepts exactly the spectra of tables, and gives the table (specs/Operations.antt).
--
--   same_numbers_refl    a list has the numbers that it has
--   same_numbers_true    lists with the same numbers are equal
--   undone_table         of a table's spectrum the table is recovered
--   undone_spectrum      a table's spectrum is accepted
--   undone_only          what is accepted is the spectrum of the recovered table
--   recovered_bits       the recovered table's entries are 0 or 1
use Prim.Native.Nat.{ℕ, ◌^◌, ◌<◌}
use mathlib.Core.Path.{◌≡◌, refl, sym, ap, ap₂, ◌∙◌}
use mathlib.Core.Bool.{true, true≢false}
use mathlib.Core.List.{List, [], ◌∷◌}
use borrow.Author.Tests.{eqb-true, eq-eqb}
use lib.Dec.{eqb}
use Rattle.bits.proofs.Packed.{Table}
use Rattle.bits.proofs.Tests.{and_l, and_r, and_i}
use Rattle.spectra.specs.Operations.{at, same_numbers, is_spectrum}
use Rattle.spectra.specs.Spectrum.{coefficient, spectrum, recovered}
use Rattle.spectra.specs.declared.Kind.{Kind}
use Rattle.spectra.proofs.Bounds.{spectrum_at, spectrum_ext}
use Rattle.spectra.proofs.Inverse.{recovered_ext, recovered_bit, recovered_table}

pub same_numbers_refl : (l : List ℕ) → same_numbers l l ≡ true
unfolding same_numbers
same_numbers_refl [] = refl
same_numbers_refl (x ∷ l) = and_i (eq-eqb x x refl) (same_numbers_refl l)

pub same_numbers_true : (l m : List ℕ) → same_numbers l m ≡ true → l ≡ m
unfolding same_numbers
same_numbers_true [] [] e = refl
same_numbers_true [] (y ∷ m) e = absurd (true≢false (sym e))
same_numbers_true (x ∷ l) [] e = absurd (true≢false (sym e))
same_numbers_true (x ∷ l) (y ∷ m) e =
    ap₂ (λ (z : ℕ) (r : List ℕ). z ∷ r) (eqb-true x y (and_l (eqb x y) (same_numbers l m) e))
    (same_numbers_true l m (and_r (eqb x y) (same_numbers l m) e))

pub undone_table : (kind : Kind) (n k : ℕ) (e : ℕ → ℕ) → Table (2 ^ n) e → k < 2 ^ n → (m : ℕ) → m < 2 ^ n
    → recovered n k (at (spectrum kind n k e)) m ≡ e m
undone_table kind n k e table hk m h =
    recovered_ext n k (at (spectrum kind n k e)) (coefficient kind n k e) m (λ j l. spectrum_at kind n k e j l)
    ∙ recovered_table kind n k e m table hk h

pub undone_spectrum : (kind : Kind) (n k : ℕ) (e : ℕ → ℕ) → Table (2 ^ n) e → k < 2 ^ n → is_spectrum kind n k (spectrum kind n k e) ≡ true
unfolding is_spectrum
undone_spectrum kind n k e table hk =
    ap (same_numbers (spectrum kind n k e))
    (spectrum_ext kind n k (recovered n k (at (spectrum kind n k e))) e hk (undone_table kind n k e table hk))
    ∙ same_numbers_refl (spectrum kind n k e)

pub undone_only : (kind : Kind) (n k : ℕ) (numbers : List ℕ) → is_spectrum kind n k numbers ≡ true → numbers ≡ spectrum kind n k (recovered n k (at numbers))
unfolding is_spectrum
undone_only kind n k numbers h = same_numbers_true numbers (spectrum kind n k (recovered n k (at numbers))) h

pub recovered_bits : (n k : ℕ) (numbers : List ℕ) → Table (2 ^ n) (recovered n k (at numbers))
recovered_bits n k numbers m h = recovered_bit n k (at numbers) m
