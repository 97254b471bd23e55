-- What the method picks depends on the coefficients at the rows and entries looked at, and on the pairs that are needed, alone.
--
--   some_below_same   a test over the numbers below a bound depends on these numbers alone
--   agree_same        rows agree on a list or not by the coefficients at its entries
--   signature_same    the signature is the same for coefficients and needed pairs that are the same there
use Prim.Native.Nat.{ℕ, zero, suc, ◌<◌}
use native.Mathlib.Nat.{lt_trans}
use native.Mathlib.Omega.{arith}
use mathlib.Core.Path.{◌≡◌, refl, ap, ap₂, ◌∙◌}
use mathlib.Core.Bool.{Bool, not, cond, ◌&&◌, ◌||◌}
use mathlib.Core.Logic.{⊎_elim}
use mathlib.Core.List.Memᴰ
use mathlib.Core.List.{List, [], ◌∷◌, ◌++◌, Memᴰ}
use lib.Dec.{eqb}
use lib.ListN.{length}
use Rattle.method.specs.Method.{without, some_below, agree, some_pair, useful, full, takes, drops, signature}
use Rattle.bits.proofs.Tests.{by_cond}
use Rattle.method.proofs.Takes.{takes_from}
use Rattle.method.proofs.Drops.{without_from}

pub some_below_same : (p q : ℕ → Bool) (n : ℕ) → ((k : ℕ) → k < n → p k ≡ q k) → some_below n p ≡ some_below n q
unfolding some_below
some_below_same p q zero h = refl
some_below_same p q (suc n) h = ap₂ ◌||◌ (some_below_same p q n (λ k l. h k (omega arith))) (h n (omega arith))

module _ {E : Type 0} (coef other : ℕ → E → ℕ) where
  pub agree_same : (l : List E) (a b : ℕ) → ((e : E) → Memᴰ e l → coef a e ≡ other a e) → ((e : E) → Memᴰ e l → coef b e ≡ other b e)
      → agree coef l a b ≡ agree other l a b
  unfolding agree
  agree_same [] a b p q = refl
  agree_same (e ∷ l) a b p q =
      ap₂ ◌&&◌ (ap₂ eqb (p e (Memᴰ.head refl)) (q e (Memᴰ.head refl)))
      (agree_same l a b (λ x m. p x (Memᴰ.tail m)) (λ x m. q x (Memᴰ.tail m)))

  module _ (rows : ℕ) (needed wanted : ℕ → ℕ → Bool) (same : (a b : ℕ) → a < b → b < rows → needed a b ≡ wanted a b) where
    pairs_same : (p q : ℕ → ℕ → Bool) → ((a b : ℕ) → a < rows → b < rows → p a b ≡ q a b)
        → some_pair coef rows needed p ≡ some_pair other rows wanted q
    unfolding some_pair
    pairs_same p q h =
        some_below_same (λ b. some_below b (λ a. needed a b && p a b)) (λ b. some_below b (λ a. wanted a b && q a b)) rows
        (λ b k. some_below_same (λ a. needed a b && p a b) (λ a. wanted a b && q a b) b
        (λ a l. ap₂ ◌&&◌ (same a b l k) (h a b (lt_trans l k) k)))

    -- the coefficients at the entries of a list are the same
    abbrev At : List E → Type 0
    At l = (c : ℕ) (e : E) → c < rows → Memᴰ e l → coef c e ≡ other c e

    full_same : (l : List E) → At l → full coef rows needed l ≡ full other rows wanted l
    unfolding full
    full_same l h = ap not (pairs_same (agree coef l) (agree other l) (λ a b x y. agree_same l a b (λ e m. h a e x m) (λ e m. h b e y m)))

    useful_same : (l : List E) (e : E) → At l → ((c : ℕ) → c < rows → coef c e ≡ other c e) → useful coef rows needed l e ≡ useful other rows wanted l e
    unfolding useful
    useful_same l e h k =
        pairs_same (λ a b. agree coef l a b && not (eqb (coef a e) (coef b e))) (λ a b. agree other l a b && not (eqb (other a e) (other b e)))
        (λ a b x y. ap₂ (λ (u v : Bool). u && not v) (agree_same l a b (λ d m. h a d x m) (λ d m. h b d y m)) (ap₂ eqb (k a x) (k b y)))

    more : (taken : List E) (e : E) → At taken → ((c : ℕ) → c < rows → coef c e ≡ other c e) → At (taken ++ (e ∷ []))
    more taken e h k c d l m =
        ⊎_elim (λ p. h c d l p) (λ p. let q : d ≡ e = Memᴰ.eq_of_singleton p in rw q (k c l)) (Memᴰ.append_cases taken m)

    takes_same : (taken scan : List E) → At taken → At scan → takes coef rows needed taken scan ≡ takes other rows wanted taken scan
    unfolding takes
    takes_same taken [] h k = refl
    takes_same taken (e ∷ scan) h k =
        let here : (c : ℕ) → c < rows → coef c e ≡ other c e = λ c l. k c e l (Memᴰ.head refl) in
        let later : At scan = λ c d l m. k c d l (Memᴰ.tail m) in
        by_cond (λ m. At m → takes coef rows needed m scan ≡ takes other rows wanted m scan) (useful coef rows needed taken e)
        (taken ++ (e ∷ [])) taken
        (λ u a. takes_same (taken ++ (e ∷ [])) scan a later)
        (λ u a. takes_same taken scan a later)
        (by_cond (λ m. At m) (useful coef rows needed taken e) (taken ++ (e ∷ [])) taken (λ u. more taken e h here) (λ u. h))
        ∙ ap (λ (t : Bool). takes other rows wanted (cond t (taken ++ (e ∷ [])) taken) scan) (useful_same taken e h here)

    drops_same : (i : ℕ) (l : List E) → At l → drops coef rows needed i l ≡ drops other rows wanted i l
    unfolding drops
    drops_same zero l h = refl
    drops_same (suc i) l h =
        let shorter : At (without i l) = λ c e k m. h c e k (without_from i l m) in
        by_cond (λ m. At m → drops coef rows needed i m ≡ drops other rows wanted i m) (full coef rows needed (without i l)) (without i l) l
        (λ u a. drops_same i (without i l) a) (λ u a. drops_same i l a)
        (by_cond (λ m. At m) (full coef rows needed (without i l)) (without i l) l (λ u. shorter) (λ u. h))
        ∙ ap (λ (t : Bool). drops other rows wanted i (cond t (without i l) l)) (full_same (without i l) shorter)

  pub signature_same : (rows : ℕ) (needed wanted : ℕ → ℕ → Bool) (scan : List E)
      → ((c : ℕ) (e : E) → c < rows → Memᴰ e scan → coef c e ≡ other c e)
      → ((a b : ℕ) → a < b → b < rows → needed a b ≡ wanted a b)
      → signature coef rows needed scan ≡ signature other rows wanted scan
  unfolding signature
  signature_same rows needed wanted scan p q =
      let t : takes coef rows needed [] scan ≡ takes other rows wanted [] scan =
      takes_same rows needed wanted q [] scan (λ c e l m. absurd (Memᴰ.not-nil m)) p in
      let taken : (c : ℕ) (e : E) → c < rows → Memᴰ e (takes coef rows needed [] scan) → coef c e ≡ other c e =
      λ c e l m. ⊎_elim (λ n. absurd (Memᴰ.not-nil n)) (λ n. p c e l n) (takes_from coef rows needed [] scan m) in
      drops_same rows needed wanted q (length (takes coef rows needed [] scan)) (takes coef rows needed [] scan) taken
      ∙ ap (λ (l : List E). drops other rows wanted (length l) l) t
