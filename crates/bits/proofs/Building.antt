-- Laws of lists that grow at the end (specs/Building.antt).
--
--   length_built   so many entries
--   built_at       each is made of those before it
use Prim.Native.Nat.{ℕ, zero, suc, ◌<◌}
use native.Mathlib.Nat.{not-suc-le-zero, eq-or-lt_of_le, le_of_suc-le-suc}
use native.Mathlib.Omega.{arith}
use mathlib.Core.Path.{◌≡◌, refl, sym, ap, ◌∙◌}
use mathlib.Core.List.{List, [], ◌∷◌}
use mathlib.Core.Logic.{⊎_elim}
use lib.ListN.{length, get_or, length-append, get_or-append}
use lib.Seq.{get_or_at}
use Rattle.bits.specs.Building.{built_to}

module _ {A : Type 0} (next : ℕ → List A → A) where
  pub length_built : (l : ℕ) → length (built_to next l) ≡ l
  unfolding built_to
  length_built zero = refl
  length_built (suc l) = omega (arith, length-append (built_to next l) (next l (built_to next l) ∷ []), length_built l)

  pub built_at : (d : A) (l i : ℕ) → i < l → get_or (built_to next l) i d ≡ next i (built_to next i)
  unfolding built_to
  built_at d zero i h = absurd (not-suc-le-zero h)
  built_at d (suc l) i h =
      ⊎_elim
      (λ e. ap (λ (k : ℕ). get_or (built_to next (suc l)) k d) e
      ∙ get_or_at (built_to next l) (next l (built_to next l)) [] d l (length_built l)
      ∙ ap (λ (k : ℕ). next k (built_to next k)) (sym e))
      (λ below.
      get_or-append (built_to next l) (next l (built_to next l) ∷ []) d i (omega (arith, length_built l))
      ∙ built_at d l i below)
      (eq-or-lt_of_le (le_of_suc-le-suc h))
