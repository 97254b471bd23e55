-- Laws of sums (`sum_to` of specs/Spectrum.antt) and of lists of entries. All are stated over the number of terms.
--
--   sum_to_ext      terms that are equal give equal sums
--   sum_to_add      a sum of a + b terms is that of the first a and that of the b from a on
--   sum_to_plus     the sum of f + g is the sum of the sums
--   sum_to_zero     terms that are all 0 have the sum 0
--   sum_to_le       n terms that are at most 1 have a sum of at most n
--   sum_to_mod      modulo 2, each term may be taken modulo 2
--   tabulate_add    a list of a + b entries is that of the first a, then that of the b from a on
--   pow_double      2 ^ (n + 1) is 2 ^ n twice
--   term            term t of the sum of coefficient j in polarity k
use Prim.Native.Nat.{ℕ, zero, suc, ◌+◌, ◌%◌, ◌^◌, ◌≤◌, ◌<◌}
use native.Mathlib.Nat.{add-zero, add-suc, add_assoc, pow-suc}
use native.Mathlib.Omega.{arith}
use mathlib.Core.Path.{◌≡◌, refl, sym, ap, ap₂, ◌∙◌}
use mathlib.Core.Bool.{cond}
use mathlib.Core.List.{List, [], ◌∷◌, ◌++◌, append_assoc, append-nil}
use lib.Bits.{bit_xor}
use Rattle.bits.specs.Packed.{tabulate}
use Rattle.spectra.specs.Spectrum.{inside, sum_to}

pub sum_to_ext : (n : ℕ) (f g : ℕ → ℕ) → ((m : ℕ) → m < n → f m ≡ g m) → sum_to n f ≡ sum_to n g
unfolding sum_to
sum_to_ext zero f g h = refl
sum_to_ext (suc n) f g h = ap₂ (λ (x y : ℕ). x + y) (sum_to_ext n f g (λ m l. h m (omega arith))) (h n (omega arith))

pub sum_to_add : (a b : ℕ) (f : ℕ → ℕ) → sum_to (a + b) f ≡ sum_to a f + sum_to b (λ i. f (a + i))
unfolding sum_to
sum_to_add a zero f = ap (λ (x : ℕ). sum_to x f) (add-zero a) ∙ sym (add-zero (sum_to a f))
sum_to_add a (suc b) f =
    ap (λ (x : ℕ). sum_to x f) (add-suc a b)
    ∙ ap (λ (x : ℕ). x + f (a + b)) (sum_to_add a b f)
    ∙ add_assoc (sum_to a f) (sum_to b (λ i. f (a + i))) (f (a + b))

pub sum_to_plus : (n : ℕ) (f g : ℕ → ℕ) → sum_to n (λ i. f i + g i) ≡ sum_to n f + sum_to n g
unfolding sum_to
sum_to_plus zero f g = refl
sum_to_plus (suc n) f g = let e = sum_to_plus n f g in omega arith

pub sum_to_zero : (n : ℕ) (f : ℕ → ℕ) → ((m : ℕ) → m < n → f m ≡ 0) → sum_to n f ≡ 0
unfolding sum_to
sum_to_zero zero f h = refl
sum_to_zero (suc n) f h =
    let e : sum_to n f ≡ 0 = sum_to_zero n f (λ m l. h m (omega arith)) in
    let d : f n ≡ 0 = h n (omega arith) in omega arith

pub sum_to_le : (n : ℕ) (f : ℕ → ℕ) → ((m : ℕ) → m < n → f m ≤ 1) → sum_to n f ≤ n
unfolding sum_to
sum_to_le zero f h = omega arith
sum_to_le (suc n) f h =
    let e : sum_to n f ≤ n = sum_to_le n f (λ m l. h m (omega arith)) in
    let d : f n ≤ 1 = h n (omega arith) in omega arith

pub sum_to_mod : (n : ℕ) (f : ℕ → ℕ) → sum_to n (λ i. f i % 2) % 2 ≡ sum_to n f % 2
unfolding sum_to
sum_to_mod zero f = refl
sum_to_mod (suc n) f = let e = sum_to_mod n f in omega arith

pub tabulate_add : (a b : ℕ) (f : ℕ → ℕ) → tabulate (a + b) f ≡ tabulate a f ++ tabulate b (λ i. f (a + i))
unfolding tabulate
tabulate_add a zero f = ap (λ (x : ℕ). tabulate x f) (add-zero a) ∙ sym (append-nil (tabulate a f))
tabulate_add a (suc b) f =
    ap (λ (x : ℕ). tabulate x f) (add-suc a b)
    ∙ ap (λ (x : List ℕ). x ++ (f (a + b) ∷ [])) (tabulate_add a b f)
    ∙ append_assoc (tabulate a f) (tabulate b (λ i. f (a + i))) (f (a + b) ∷ [])

pub pow_double : (n : ℕ) → 2 ^ suc n ≡ 2 ^ n + 2 ^ n
pow_double n = let e = pow-suc 2 n in omega arith

abbrev pub term : ℕ → (ℕ → ℕ) → ℕ → ℕ → ℕ
term k e j t = cond (inside t j) (e (bit_xor t k)) 0
