-- Numbers read at a list of entries that is lent as its indices and its outputs (specs/Scanning.antt).
--
--   numbers_at_lem      number i of the numbers at the entries
--   numbers_length      as many as the indices
--   numbers_same        what is read at entries depends on these entries alone
--   entries_below       indices and outputs below bounds are entries below both
use Prim.Native.Nat.{ℕ, ◌+◌, ◌*◌, ◌<◌}
use mathlib.Core.Path.{◌≡◌, refl, sym, ap, ap₂, subst, ◌∙◌}
use mathlib.Core.Bool.{true}
use mathlib.Core.Logic.{⊎_elim}
use mathlib.Core.List.Memᴰ
use mathlib.Core.List.{List, [], ◌∷◌, map, Memᴰ}
use Rattle.std.proofs.lemmas.List.{get_or-map}
use borrow.Author.Tests.{ltb-true}
use lib.Dec.{ltb}
use lib.ListN.{length, get_or, length-map}
use Rattle.bits.specs.Bounds.{all_below}
use Rattle.bits.proofs.Tests.{and_l, and_r}
use Rattle.spectra.specs.Codes.{code_of}
use Rattle.spectra.specs.Listed.{Entry, entries_at}
use Rattle.spectra.proofs.Codes.{length_entries, entries_get}
use Rattle.locating.specs.Scanning.{numbers_at}

module _ (work : List ℕ) (start size : ℕ) (indices outputs : List ℕ) (paired : length indices ≡ length outputs) where
  pub numbers_at_lem : (i : ℕ) → i < length indices
      → get_or (numbers_at work start size (entries_at indices outputs)) i 0 ≡ get_or work (start + (get_or outputs i 0 * size + get_or indices i 0)) 0
  numbers_at_lem i h =
      get_or-map (λ e. get_or work (start + code_of size e) 0) (entries_at indices outputs) i (record { index = 0; output = 0 }) 0
      (subst (λ (k : ℕ). i < k) (sym (length_entries indices outputs paired)) h)
      ∙ ap (λ (e : Entry). get_or work (start + code_of size e) 0) (entries_get indices outputs i h paired (record { index = 0; output = 0 }))

  pub numbers_length : length (numbers_at work start size (entries_at indices outputs)) ≡ length indices
  numbers_length = length-map (entries_at indices outputs) (λ e. get_or work (start + code_of size e) 0) ∙ length_entries indices outputs paired

pub numbers_same : (l : List Entry) (f g : Entry → ℕ) → ((e : Entry) → Memᴰ e l → f e ≡ g e) → map f l ≡ map g l
numbers_same [] f g same = refl
numbers_same (e ∷ l) f g same =
    ap₂ (λ (x : ℕ) (y : List ℕ). x ∷ y) (same e (Memᴰ.head refl)) (numbers_same l f g (λ x m. same x (Memᴰ.tail m)))

pub entries_below : (size count : ℕ) (indices outputs : List ℕ) → all_below size indices ≡ true → all_below count outputs ≡ true
    → (e : Entry) → Memᴰ e (entries_at indices outputs) → (e.index < size) × (e.output < count)
unfolding entries_at all_below
entries_below size count [] outputs h l e m = absurd (Memᴰ.not-nil m)
entries_below size count (i ∷ indices) [] h l e m = absurd (Memᴰ.not-nil m)
entries_below size count (i ∷ indices) (o ∷ outputs) h l e m =
    ⊎_elim
    (λ (q : e ≡ record { index = i; output = o }). (
      subst (λ (x : Entry). x.index < size) (sym q) (ltb-true i size (and_l (ltb i size) (all_below size indices) h)),
      subst (λ (x : Entry). x.output < count) (sym q) (ltb-true o count (and_l (ltb o count) (all_below count outputs) l)),
    ))
    (λ p.
    entries_below size count indices outputs (and_r (ltb i size) (all_below size indices) h) (and_r (ltb o count) (all_below count outputs) l) e p)
    (Memᴰ.cases_cons m)
