-- The numbers of a row as the kind has them (specs/Recursion.antt). The transform leaves sums, and the kind comes last.
--
--   Reducing           what the loop has done after j turns: the first j numbers are reduced
--   reducing_none      no number yet
--   reducing_more      one number more
--   reducing_all       all numbers
--   spectrum_reduced   the sums of a table, reduced, are its spectrum
--   row_parities       for RM their parities are it
use Prim.Native.Nat.{ℕ, ◌+◌, ◌^◌, ◌<◌, ◌≤◌}
use native.Mathlib.Nat.{zero-add, le_of_eq}
use mathlib.Core.Path.{◌≡◌, refl, sym, ap, ◌∙◌}
use mathlib.Core.List.{List}
use lib.ListN.{length, get_or, set}
use Rattle.bits.specs.Packed.{tabulate}
use Rattle.bits.proofs.Packed.{tabulate_ext}
use Rattle.bits.proofs.Splice.{Written, written_none, filled_more, filled_all}
use Rattle.spectra.specs.Spectrum.{reduce, coefficient, spectrum}
use Rattle.spectra.specs.Recursion.{all_reduced}
use Rattle.spectra.specs.declared.Kind.{Kind}
use Rattle.spectra.specs.declared.Kind.TheVariants.{Rm, Mrm}
use Rattle.spectra.proofs.Bounds.{length_spectrum, spectrum_at}
use Rattle.spectra.proofs.Combination.{written_after}

abbrev pub Reducing : Kind → List ℕ → List ℕ → ℕ → Type 0
Reducing kind start out j = Written start 0 (length start) (λ i. reduce kind (get_or start i 0)) out j

module _ (kind : Kind) {start : List ℕ} where
  pub reducing_none : Reducing kind start start 0
  reducing_none = written_none (le_of_eq (zero-add (length start)))

  module _ {out : List ℕ} {j : ℕ} (w : Reducing kind start out j) where
    pub reducing_more : j < length start → Reducing kind start (set out j (reduce kind (get_or out j 0))) (j + 1)
    reducing_more h =
        filled_more w (reduce kind (get_or out j 0)) h (ap (reduce kind) (written_after w j (le_of_eq (zero-add j))))

    pub reducing_all : length start ≤ j → out ≡ all_reduced kind start
    reducing_all h = filled_all w refl h

pub spectrum_reduced : (kind : Kind) (n k : ℕ) (e : ℕ → ℕ) → all_reduced kind (spectrum Mrm n k e) ≡ spectrum kind n k e
unfolding spectrum coefficient
spectrum_reduced kind n k e =
    ap (λ (x : ℕ). tabulate x (λ j. reduce kind (get_or (spectrum Mrm n k e) j 0))) (length_spectrum Mrm n k e)
    ∙ tabulate_ext (2 ^ n) (λ j. reduce kind (get_or (spectrum Mrm n k e) j 0)) (coefficient kind n k e)
    (λ j h. ap (reduce kind) (spectrum_at Mrm n k e j h))

module _ {kind : Kind} (n k : ℕ) (e : ℕ → ℕ) {sums : List ℕ} (s : sums ≡ spectrum Mrm n k e) where
  pub row_parities : {out : List ℕ} → kind ≡ Rm → out ≡ all_reduced Rm sums → out ≡ spectrum kind n k e
  row_parities m r = r ∙ ap (all_reduced Rm) s ∙ spectrum_reduced Rm n k e ∙ ap (λ (x : Kind). spectrum x n k e) (sym m)
