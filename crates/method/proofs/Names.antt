-- The method does not see what its entries are called (specs/Method.antt).
--
--   agree_named       rows agree on named entries as they do on the names' own
--   signature_named   the signature of named entries is the named signature
use Prim.Native.Nat.{ℕ, zero, suc}
use mathlib.Core.Path.{◌≡◌, refl, sym, ap, ap₂, ◌∙◌}
use mathlib.Core.Bool.{Bool, true, false, not, cond, ◌&&◌}
use mathlib.Core.List.{List, [], ◌∷◌, ◌++◌, map}
use lib.Dec.{eqb}
use lib.ListN.{length, take, drop, length-map}
use Rattle.std.proofs.lemmas.List.{map-append, take-map, drop-map}
use Rattle.method.specs.Method.{without, some_below, agree, some_pair, useful, full, takes, drops, signature}
use Rattle.method.proofs.Congruence.{some_below_same}

module _ {D E : Type 0} (f : D → E) where
  without_named : (i : ℕ) (l : List D) → without i (map f l) ≡ map f (without i l)
  unfolding without
  without_named i l = ap₂ ◌++◌ (take-map f i l) (drop-map f (suc i) l) ∙ sym (map-append f (take i l) (drop (suc i) l))

  map_cond : (t : Bool) (l m : List D) → cond t (map f l) (map f m) ≡ map f (cond t l m)
  map_cond true l m = refl
  map_cond false l m = refl

  module _ (coef : ℕ → E → ℕ) where
    abbrev own : ℕ → D → ℕ
    own c d = coef c (f d)

    pub agree_named : (l : List D) (a b : ℕ) → agree coef (map f l) a b ≡ agree own l a b
    unfolding agree
    agree_named [] a b = refl
    agree_named (d ∷ l) a b = ap (λ (t : Bool). eqb (coef a (f d)) (coef b (f d)) && t) (agree_named l a b)

    module _ (rows : ℕ) (needed : ℕ → ℕ → Bool) where
      pairs_named : (p q : ℕ → ℕ → Bool) → ((a b : ℕ) → p a b ≡ q a b) → some_pair coef rows needed p ≡ some_pair own rows needed q
      unfolding some_pair
      pairs_named p q h =
          some_below_same (λ b. some_below b (λ a. needed a b && p a b)) (λ b. some_below b (λ a. needed a b && q a b)) rows
          (λ b _. some_below_same (λ a. needed a b && p a b) (λ a. needed a b && q a b) b (λ a _. ap (λ (t : Bool). needed a b && t) (h a b)))

      useful_named : (l : List D) (d : D) → useful coef rows needed (map f l) (f d) ≡ useful own rows needed l d
      unfolding useful
      useful_named l d =
          pairs_named (λ a b. agree coef (map f l) a b && not (eqb (coef a (f d)) (coef b (f d)))) (λ a b. agree own l a b && not (eqb (coef a (f d)) (coef b (f d))))
          (λ a b. ap (λ (t : Bool). t && not (eqb (coef a (f d)) (coef b (f d)))) (agree_named l a b))

      full_named : (l : List D) → full coef rows needed (map f l) ≡ full own rows needed l
      unfolding full
      full_named l = ap not (pairs_named (agree coef (map f l)) (agree own l) (agree_named l))

      takes_named : (taken scan : List D) → takes coef rows needed (map f taken) (map f scan) ≡ map f (takes own rows needed taken scan)
      unfolding takes
      takes_named taken [] = refl
      takes_named taken (d ∷ scan) =
          ap (λ (l : List E). takes coef rows needed l (map f scan))
          (ap₂ (λ (t : Bool) (l : List E). cond t l (map f taken)) (useful_named taken d) (sym (map-append f taken (d ∷ [])))
          ∙ map_cond (useful own rows needed taken d) (taken ++ (d ∷ [])) taken)
          ∙ takes_named (cond (useful own rows needed taken d) (taken ++ (d ∷ [])) taken) scan

      drops_named : (i : ℕ) (l : List D) → drops coef rows needed i (map f l) ≡ map f (drops own rows needed i l)
      unfolding drops
      drops_named zero l = refl
      drops_named (suc i) l =
          ap (λ (m : List E). drops coef rows needed i m)
          (ap (λ (m : List E). cond (full coef rows needed m) m (map f l)) (without_named i l)
          ∙ ap (λ (t : Bool). cond t (map f (without i l)) (map f l)) (full_named (without i l))
          ∙ map_cond (full own rows needed (without i l)) (without i l) l)
          ∙ drops_named i (cond (full own rows needed (without i l)) (without i l) l)

      pub signature_named : (scan : List D) → signature coef rows needed (map f scan) ≡ map f (signature own rows needed scan)
      unfolding signature
      signature_named scan =
          ap (λ (l : List E). drops coef rows needed (length l) l) (takes_named [] scan)
          ∙ ap (λ (i : ℕ). drops coef rows needed i (map f (takes own rows needed [] scan))) (length-map (takes own rows needed [] scan) f)
          ∙ drops_named (length (takes own rows needed [] scan)) (takes own rows needed [] scan)
