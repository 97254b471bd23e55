-- Numbers below a bound, and lists of them (specs/Bounds.antt).
--
--   each_all, all_each   a test that holds of every number below a bound
--   each_same            equal tests
--   entry_below          the number at a place of such a list is below the bound
--   found_below          what a search for a number that is not below it finds
--   members_below        if each number is, they all are
use Prim.Native.Nat.{ℕ, zero, suc, ◌≤◌, ◌<◌, suc-le-suc}
use native.Mathlib.Nat.{not-suc-le-zero, eq-or-lt_of_le, le_of_suc-le-suc}
use native.Mathlib.Omega.{arith}
use mathlib.Core.Path.{◌≡◌, refl, sym, ap, ap₂, ◌∙◌}
use mathlib.Core.Bool.{Bool, true, false, ◌&&◌}
use mathlib.Core.Logic.{⊎_elim}
use mathlib.Core.List.{List, [], ◌∷◌, Memᴰ}
use borrow.Author.Tests.{ltb-true, lt-ltb}
use lib.Dec.{ltb}
use lib.ListN.{length, get_or}
use Rattle.std.specs.Prelude.{MatchBool, HoldsAt}
use Rattle.std.specs.List.{AllWithin}
use Rattle.bits.specs.Bounds.{each_below, all_below}
use Rattle.bits.proofs.Tests.{and_l, and_r, and_i}

-- ---- tests

pub each_all : (n : ℕ) (test : ℕ → Bool) → each_below n test ≡ true → (i : ℕ) → i < n → test i ≡ true
each_all zero test t i h = absurd (not-suc-le-zero h)
each_all (suc n) test t i h =
    ⊎_elim (λ e. ap test e ∙ and_r (each_below n test) (test n) t) (λ l. each_all n test (and_l (each_below n test) (test n) t) i l)
    (eq-or-lt_of_le (le_of_suc-le-suc h))

pub all_each : (n : ℕ) (test : ℕ → Bool) → ((i : ℕ) → i < n → test i ≡ true) → each_below n test ≡ true
all_each zero test h = refl
all_each (suc n) test h = and_i (all_each n test (λ i l. h i (omega arith))) (h n (omega arith))

pub each_same : (n : ℕ) (p q : ℕ → Bool) → ((i : ℕ) → i < n → p i ≡ q i) → each_below n p ≡ each_below n q
each_same zero p q h = refl
each_same (suc n) p q h = ap₂ ◌&&◌ (each_same n p q (λ i l. h i (omega arith))) (h n (omega arith))

-- ---- lists

pub entry_below : (bound : ℕ) (l : List ℕ) (i : ℕ) → all_below bound l ≡ true → i < length l → get_or l i 0 < bound
unfolding all_below
entry_below bound [] i e h = absurd (not-suc-le-zero h)
entry_below bound (x ∷ l) zero e h = ltb-true x bound (and_l (ltb x bound) (all_below bound l) e)
entry_below bound (x ∷ l) (suc i) e h = entry_below bound l i (and_r (ltb x bound) (all_below bound l) e) (le_of_suc-le-suc h)

each_entry_below : (bound : ℕ) (l : List ℕ) → ((i : ℕ) → i < length l → get_or l i 0 < bound) → all_below bound l ≡ true
unfolding all_below
each_entry_below bound [] h = refl
each_entry_below bound (x ∷ l) h =
    and_i (lt-ltb x bound (h 0 (omega arith))) (each_entry_below bound l (λ i k. h (suc i) (suc-le-suc k)))

-- what a search for a number that is not below the bound finds
pub found_below : (bound : ℕ) (list : List ℕ) (t : Bool)
    → MatchBool t (AllWithin (λ x. x < bound) list 0 (length list)) ((k : ℕ) × (k < length list) × HoldsAt (λ x. bound ≤ x) list k)
    → t ≡ all_below bound list
found_below bound list true h = sym (each_entry_below bound list (λ i l. h i 0 (omega arith) l))
found_below bound list false h = not_below (all_below bound list) refl
  where
    not_below : (t : Bool) → all_below bound list ≡ t → false ≡ all_below bound list
    not_below false e = sym e
    not_below true e = let low = entry_below bound list h.0 e h.1 in let high : bound ≤ get_or list h.0 0 = h.2 0 in absurd (omega arith)

pub members_below : (bound : ℕ) (l : List ℕ) → ((x : ℕ) → Memᴰ x l → x < bound) → all_below bound l ≡ true
unfolding all_below
members_below bound [] all = refl
members_below bound (y ∷ l) all =
    and_i (lt-ltb y bound (all y (Memᴰ.head refl))) (members_below bound l (λ x m. all x (Memᴰ.tail m)))
