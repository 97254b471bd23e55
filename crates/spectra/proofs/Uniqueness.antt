-- A spectrum has one table, and tables that differ have spectra that differ: of either kind, in any polarity.
--
--   equal_or_not          two numbers are equal or not
--   differ_or_same        two functions differ somewhere below n, or are the same there
--   coefficients_unique   tables with the same coefficients have the same entries
--   spectrum_unique       tables with the same spectrum have the same entries
--   spectrum_differs      tables that differ at an entry have an index at which their coefficients differ
use Prim.Native.Nat.{ℕ, zero, suc, ◌^◌, ◌<◌}
use native.Mathlib.Nat.{not-suc-le-zero, eq-or-lt_of_le, le_of_suc-le-suc}
use native.Mathlib.Omega.{arith}
use mathlib.Core.Path.{◌≡◌, refl, sym, ap, ◌∙◌}
use mathlib.Core.Bool.{Bool, true, false}
use mathlib.Core.List.{List}
use mathlib.Core.Logic.{◌⊎◌, inl, inr, ⊎_elim, ◌≢◌}
use borrow.Author.Tests.{eqb-true, eqb-false}
use lib.Dec.{eqb}
use lib.ListN.{get_or}
use Rattle.bits.proofs.Packed.{Table}
use Rattle.spectra.specs.Spectrum.{coefficient, spectrum}
use Rattle.spectra.specs.declared.Kind.{Kind}
use Rattle.spectra.proofs.Bounds.{spectrum_at}
use Rattle.spectra.proofs.Inverse.{recovered_ext, recovered_table}

pub equal_or_not : (a b : ℕ) → (a ≡ b) ⊎ (a ≢ b)
equal_or_not a b = go (eqb a b) refl
  where
    go : (u : Bool) → eqb a b ≡ u → (a ≡ b) ⊎ (a ≢ b)
    go true e = inl (eqb-true a b e)
    go false e = inr (eqb-false a b e)

abbrev Differs : ℕ → (ℕ → ℕ) → (ℕ → ℕ) → Type 0
Differs n f g = (j : ℕ) × (j < n) × (f j ≢ g j)

abbrev Same : ℕ → (ℕ → ℕ) → (ℕ → ℕ) → Type 0
Same n f g = (j : ℕ) → j < n → f j ≡ g j

same_suc : (n : ℕ) (f g : ℕ → ℕ) → Same n f g → f n ≡ g n → Same (suc n) f g
same_suc n f g s e j h = ⊎_elim (λ p. rw p e) (λ l. s j l) (eq-or-lt_of_le (le_of_suc-le-suc h))

pub differ_or_same : (n : ℕ) (f g : ℕ → ℕ) → Differs n f g ⊎ Same n f g
differ_or_same zero f g = inr (λ j h. absurd (not-suc-le-zero h))
differ_or_same (suc n) f g =
    ⊎_elim (λ d. inl (d.0, (let l = d.1 in omega arith), d.2))
    (λ s. ⊎_elim (λ e. inr (same_suc n f g s e)) (λ d. inl (n, omega arith, d)) (equal_or_not (f n) (g n)))
    (differ_or_same n f g)

module _ (kind : Kind) (n k : ℕ) (e f : ℕ → ℕ) (he : Table (2 ^ n) e) (hf : Table (2 ^ n) f) (hk : k < 2 ^ n) where
  pub coefficients_unique : ((j : ℕ) → j < 2 ^ n → coefficient kind n k e j ≡ coefficient kind n k f j) → (m : ℕ) → m < 2 ^ n → e m ≡ f m
  coefficients_unique same m h =
      sym (recovered_table kind n k e m he hk h)
      ∙ recovered_ext n k (coefficient kind n k e) (coefficient kind n k f) m same
      ∙ recovered_table kind n k f m hf hk h

  pub spectrum_unique : spectrum kind n k e ≡ spectrum kind n k f → (m : ℕ) → m < 2 ^ n → e m ≡ f m
  spectrum_unique p =
      coefficients_unique
      (λ j h. sym (spectrum_at kind n k e j h) ∙ ap (λ (l : List ℕ). get_or l j 0) p ∙ spectrum_at kind n k f j h)

  pub spectrum_differs : (m : ℕ) → m < 2 ^ n → e m ≢ f m → (j : ℕ) × (j < 2 ^ n) × (coefficient kind n k e j ≢ coefficient kind n k f j)
  spectrum_differs m h d =
      ⊎_elim (λ x. x) (λ s. absurd (d (coefficients_unique s m h))) (differ_or_same (2 ^ n) (coefficient kind n k e) (coefficient kind n k f))
