-- What the numbers that pass a test tell of a location (Rattle.locating, specs/Locating.antt).
--
--   nowhere_empty     the location is nowhere only where none is listed
--   passing_none      where none passes, none is listed
--   empty_none        where none is listed, none passes
--   passing_first     none is listed, or the lowest that passes is listed first
--   each_of_lem       numbers that have one part, each of them
--   location_none     where none passes, the location is nowhere
--   nowhere_none      it is nowhere only where none passes
--   location_part     where those that pass have one part, the location is that part, with the lowest of them
use Prim.Native.Nat.{ℕ, zero, suc, ◌<◌}
use mathlib.Core.Path.{◌≡◌, refl, sym, ap, ap₂, subst, ◌∙◌}
use mathlib.Core.Bool.{Bool, true, false, cond, true≢false}
use mathlib.Core.Logic.{◌⊎◌, inl, inr, ⊎_elim}
use mathlib.Core.List.Memᴰ
use mathlib.Core.List.{List, [], ◌∷◌, ◌++◌, Memᴰ}
use borrow.Author.Tests.{eq-eqb}
use lib.ListN.{length}
use Rattle.bits.specs.Passing.{passing}
use Rattle.bits.proofs.Tests.{and_i, clash, by_test}
use Rattle.choosing.proofs.Indices.{passing_has, passing_below}
use Rattle.locating.specs.Locating.{Location, each_of, location}
use Rattle.locating.specs.Locating.Location.{parted, several, nowhere}

is_nowhere : Location → Bool
is_nowhere (parted part c) = false
is_nowhere (several c count) = false
is_nowhere nowhere = true

module _ (part : ℕ → ℕ) where
  pub nowhere_empty : (l : List ℕ) → location part l ≡ nowhere → l ≡ []
  unfolding is_nowhere
  nowhere_empty [] e = refl
  nowhere_empty (c ∷ more) e = absurd (found (each_of part (part c) more) e)
    where
      found : (t : Bool) → cond t (parted (part c) c) (several c (length (c ∷ more))) ≡ nowhere → ⊥
      found true e = true≢false (sym (ap is_nowhere e))
      found false e = true≢false (sym (ap is_nowhere e))

  pub each_of_lem : (p : ℕ) (l : List ℕ) → ((c : ℕ) → Memᴰ c l → part c ≡ p) → each_of part p l ≡ true
  unfolding each_of
  each_of_lem p [] same = refl
  each_of_lem p (c ∷ l) same = and_i (eq-eqb (part c) p (same c (Memᴰ.head refl))) (each_of_lem p l (λ x m. same x (Memᴰ.tail m)))

module _ (p : ℕ → Bool) where
  -- the numbers below one more
  passing_next : (n : ℕ) {l : List ℕ} {t : Bool} → passing p n ≡ l → p n ≡ t → passing p (suc n) ≡ l ++ cond t (n ∷ []) []
  unfolding passing
  passing_next n e f = ap₂ (λ (l : List ℕ) (t : Bool). l ++ cond t (n ∷ []) []) e f

  pub passing_none : (n : ℕ) → ((c : ℕ) → c < n → p c ≡ false) → passing p n ≡ []
  passing_none n h = go (passing p n) (λ c m. passing_below p n m)
    where
      go : (l : List ℕ) → ((c : ℕ) → Memᴰ c l → (c < n) × (p c ≡ true)) → l ≡ []
      go [] all = refl
      go (c ∷ l) all = let r = all c (Memᴰ.head refl) in absurd (clash r.1 (h c r.0))

  pub empty_none : (n : ℕ) → passing p n ≡ [] → (c : ℕ) → c < n → p c ≡ false
  empty_none n e c h =
      by_test (p c) (λ t. absurd (Memᴰ.not-nil (subst (Memᴰ c) e (passing_has p n c h t)))) (λ f. f)

  pub passing_first : (n : ℕ) → (passing p n ≡ []) ⊎ ((d : ℕ) × (more : List ℕ) × (passing p n ≡ d ∷ more) × ((c : ℕ) → c < d → p c ≡ false))
  unfolding passing
  passing_first zero = inl refl
  passing_first (suc n) =
      ⊎_elim
      (λ e. by_test (p n) (λ t. inr (n, [], passing_next n e t, empty_none n e)) (λ f. inl (passing_next n e f)))
      (λ r. inr (r.0, r.1 ++ cond (p n) (n ∷ []) [], passing_next n r.2 refl, r.3))
      (passing_first n)

  module _ (part : ℕ → ℕ) (n : ℕ) where
    pub location_none : ((c : ℕ) → c < n → p c ≡ false) → location part (passing p n) ≡ nowhere
    location_none h = ap (location part) (passing_none n h)

    pub nowhere_none : location part (passing p n) ≡ nowhere → (c : ℕ) → c < n → p c ≡ false
    nowhere_none e = empty_none n (nowhere_empty part (passing p n) e)

    pub location_part : (c : ℕ) → c < n → p c ≡ true → ((d : ℕ) → d < n → p d ≡ true → part d ≡ part c)
        → (d : ℕ) × (d < n) × (p d ≡ true) × ((x : ℕ) → x < d → p x ≡ false) × (location part (passing p n) ≡ parted (part c) d)
    location_part c h t one =
        ⊎_elim (λ e. absurd (clash t (empty_none n e c h)))
        (λ r.
        let d = r.0 in
        let more = r.1 in
        let listed : (x : ℕ) → Memᴰ x (d ∷ more) → (x < n) × (p x ≡ true) = λ x m. passing_below p n (subst (Memᴰ x) (sym r.2) m) in
        let low = listed d (Memᴰ.head refl) in
        let own : part d ≡ part c = one d low.0 low.1 in
        let each : each_of part (part d) more ≡ true =
        each_of_lem part (part d) more (λ x m. let k = listed x (Memᴰ.tail m) in one x k.0 k.1 ∙ sym own) in (
          d,
          low.0,
          low.1,
          r.3,
          ap (location part) r.2 ∙ ap₂ (λ (u : Bool) (q : ℕ). cond u (parted q d) (several d (length (d ∷ more)))) each own,
        ))
        (passing_first n)
