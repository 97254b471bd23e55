-- Modulo 2 the RM transform undoes itself, so a table is recovered from its spectrum of either kind, in any polarity.
--
--   xor_undo          (m xor k) xor k is m
--   coefficient_mod   a coefficient of either kind is, modulo 2, the RM one
--   rm_plus           an RM coefficient of the sum of two tables modulo 2 is the sum of theirs modulo 2
--   plain_lower, plain_upper   the halves law in polarity 0
--   plain_inverse     in polarity 0 the RM transform of the RM coefficients is the table
--   to_plain          polarity k is polarity 0 of the table whose entry t is entry (t xor k)
--   recovered_ext     what is recovered depends on the numbers below 2 ^ n alone
--   recovered_bit     what is recovered is 0 or 1
--   recovered_table   from a table's coefficients the table is recovered
use Prim.Native.Nat.{ℕ, zero, suc, ◌+◌, ◌-◌, ◌*◌, ◌/◌, ◌%◌, ◌^◌, ◌<◌}
use native.Mathlib.Nat.{add-mod, mod-mod, mod-eq_of_lt, zero-add, div-add-mod'}
use native.Mathlib.Omega.{arith}
use mathlib.Core.Path.{◌≡◌, refl, sym, ap, ap₂, ◌∙◌}
use mathlib.Core.Bool.{Bool, true, false, cond}
use mathlib.Core.Logic.{⊎_elim}
use lib.Arith.{bin_ind, lt-one}
use lib.Bits.{bit_xor, differ, xor_step, xor_shr, xor_mod, xor_zero_r, xor_self, xor_lt}
use lib.Pow.{pow_pos}
use Rattle.bits.proofs.Below.{lt_or_ge}
use Rattle.bits.proofs.Packed.{Table}
use Rattle.spectra.specs.Spectrum.{inside, sum_to, subset_sum, reduce, coefficient, recovered}
use Rattle.spectra.specs.declared.Kind.{Kind}
use Rattle.spectra.specs.declared.Kind.TheVariants.{Rm, Mrm}
use Rattle.spectra.proofs.Bounds.{coefficient_ext}
use Rattle.spectra.proofs.Halves.{halves_lower, halves_upper}
use Rattle.spectra.proofs.Sums.{sum_to_ext, sum_to_plus, sum_to_mod, pow_double, term}

-- ---- xor

differ_undo : (x y : ℕ) → x < 2 → y < 2 → differ (bit_xor x y) y ≡ x
differ_undo zero zero hx hy = refl
differ_undo zero (suc zero) hx hy = refl
differ_undo (suc zero) zero hx hy = refl
differ_undo (suc zero) (suc zero) hx hy = refl
differ_undo zero (suc (suc y)) hx hy = absurd (omega arith)
differ_undo (suc zero) (suc (suc y)) hx hy = absurd (omega arith)
differ_undo (suc (suc x)) y hx hy = absurd (omega arith)

pub xor_undo : (m k : ℕ) → bit_xor (bit_xor m k) k ≡ m
xor_undo =
    bin_ind (λ (m : ℕ). (k : ℕ) → bit_xor (bit_xor m k) k ≡ m) (λ k. xor_self k)
    (λ m ih k. xor_step (bit_xor m k) k
    ∙ ap₂ (λ (x y : ℕ). bit_xor x (k / 2) * 2 + differ y (k % 2)) (xor_shr m k 1) (xor_mod m k 1)
    ∙ ap₂ (λ (x y : ℕ). x * 2 + y) (ih (k / 2)) (differ_undo (m % 2) (k % 2) (omega arith) (omega arith))
    ∙ div-add-mod' m 2)

-- ---- modulo 2

pub coefficient_mod : (kind : Kind) (n k : ℕ) (e : ℕ → ℕ) (j : ℕ) → coefficient kind n k e j % 2 ≡ coefficient Rm n k e j
unfolding coefficient
coefficient_mod Rm n k e j = mod-mod (subset_sum n k e j) 2
coefficient_mod Mrm n k e j = refl

term_plus : (u : Bool) (x y : ℕ) → cond u ((x + y) % 2) 0 ≡ (cond u x 0 + cond u y 0) % 2
term_plus true x y = refl
term_plus false x y = refl

pub rm_plus : (n k : ℕ) (e f : ℕ → ℕ) (j : ℕ)
    → coefficient Rm n k (λ m. (e m + f m) % 2) j ≡ (coefficient Rm n k e j + coefficient Rm n k f j) % 2
unfolding coefficient subset_sum
rm_plus n k e f j =
    ap (λ (x : ℕ). x % 2)
    (sum_to_ext (2 ^ n) (term k (λ m. (e m + f m) % 2) j) (λ t. (term k e j t + term k f j t) % 2)
    (λ t h. term_plus (inside t j) (e (bit_xor t k)) (f (bit_xor t k))))
    ∙ sum_to_mod (2 ^ n) (λ t. term k e j t + term k f j t)
    ∙ ap (λ (x : ℕ). x % 2) (sum_to_plus (2 ^ n) (term k e j) (term k f j))
    ∙ add-mod (sum_to (2 ^ n) (term k e j)) (sum_to (2 ^ n) (term k f j)) 2

twice : (x y : ℕ) → y < 2 → (x + (x + y) % 2) % 2 ≡ y
twice x y h = omega arith

-- ---- polarity 0

-- 0 as the polarity of the halves law
nought : (n : ℕ) → 0 ≡ 0 * 2 ^ n + 0
nought n = omega arith

pub plain_lower : (n : ℕ) (e : ℕ → ℕ) (j : ℕ) → j < 2 ^ n → coefficient Rm (suc n) 0 e j ≡ coefficient Rm n 0 e j
plain_lower n e j h =
    ap (λ (k : ℕ). coefficient Rm (suc n) k e j) (nought n)
    ∙ halves_lower Rm n 0 0 j e (pow_pos n) h
    ∙ coefficient_ext Rm n 0 (λ m. e (0 * 2 ^ n + m)) e j (pow_pos n) (λ m l. let p : 0 * 2 ^ n + m ≡ m = omega arith in ap e p)

pub plain_upper : (n : ℕ) (e : ℕ → ℕ) (j : ℕ) → j < 2 ^ n
    → coefficient Rm (suc n) 0 e (2 ^ n + j) ≡ (coefficient Rm n 0 e j + coefficient Rm n 0 (λ m. e (2 ^ n + m)) j) % 2
plain_upper n e j h =
    ap (λ (k : ℕ). coefficient Rm (suc n) k e (2 ^ n + j)) (nought n)
    ∙ halves_upper Rm n 0 1 0 j e refl (pow_pos n) h
    ∙ ap₂ (λ (x y : ℕ). (x + y) % 2)
    (coefficient_ext Rm n 0 (λ m. e (0 * 2 ^ n + m)) e j (pow_pos n) (λ m l. let p : 0 * 2 ^ n + m ≡ m = omega arith in ap e p))
    (coefficient_ext Rm n 0 (λ m. e (1 * 2 ^ n + m)) (λ m. e (2 ^ n + m)) j (pow_pos n)
    (λ m l. let p : 1 * 2 ^ n + m ≡ 2 ^ n + m = omega arith in ap e p))

abbrev SelfInverse : ℕ → (ℕ → ℕ) → Type 0
SelfInverse n e = (m : ℕ) → m < 2 ^ n → coefficient Rm n 0 (coefficient Rm n 0 e) m ≡ e m

-- a table whose halves are both recovered is recovered
module _ (n : ℕ) (e : ℕ → ℕ) (table : Table (2 ^ suc n) e) (first : SelfInverse n e) (second : SelfInverse n (λ t. e (2 ^ n + t))) where
  lower : (i : ℕ) → i < 2 ^ n → coefficient Rm n 0 (coefficient Rm (suc n) 0 e) i ≡ e i
  lower i l =
      coefficient_ext Rm n 0 (coefficient Rm (suc n) 0 e) (coefficient Rm n 0 e) i (pow_pos n) (λ j hj. plain_lower n e j hj)
      ∙ first i l

  upper : (i : ℕ) → i < 2 ^ n → coefficient Rm n 0 (λ j. coefficient Rm (suc n) 0 e (2 ^ n + j)) i ≡ (e i + e (2 ^ n + i)) % 2
  upper i l =
      coefficient_ext Rm n 0 (λ j. coefficient Rm (suc n) 0 e (2 ^ n + j))
      (λ j. (coefficient Rm n 0 e j + coefficient Rm n 0 (λ t. e (2 ^ n + t)) j) % 2) i (pow_pos n) (λ j hj. plain_upper n e j hj)
      ∙ rm_plus n 0 (coefficient Rm n 0 e) (coefficient Rm n 0 (λ t. e (2 ^ n + t))) i
      ∙ ap₂ (λ (x y : ℕ). (x + y) % 2) (first i l) (second i l)

  at_upper : (i : ℕ) → i < 2 ^ n → coefficient Rm (suc n) 0 (coefficient Rm (suc n) 0 e) (2 ^ n + i) ≡ e (2 ^ n + i)
  at_upper i l =
      let p = pow_double n in
      let b : e (2 ^ n + i) < 2 = table (2 ^ n + i) (omega arith) in
      plain_upper n (coefficient Rm (suc n) 0 e) i l
      ∙ ap₂ (λ (x y : ℕ). (x + y) % 2) (lower i l) (upper i l)
      ∙ twice (e i) (e (2 ^ n + i)) b

  inverse_suc : SelfInverse (suc n) e
  inverse_suc m h =
      let p = pow_double n in
      ⊎_elim (λ l. plain_lower n (coefficient Rm (suc n) 0 e) m l ∙ lower m l)
      (λ l. let q : 2 ^ n + (m - 2 ^ n) ≡ m = omega arith in rw q at (at_upper (m - 2 ^ n) (omega arith)))
      (lt_or_ge m (2 ^ n))

at_one : (f : ℕ → ℕ) → coefficient Rm 0 0 f 0 ≡ f 0 % 2
unfolding coefficient subset_sum sum_to inside
at_one f = ap (λ (x : ℕ). x % 2) (zero-add (f 0))

inverse_one : (e : ℕ → ℕ) → Table 1 e → SelfInverse 0 e
inverse_one e table m h =
    let b : e 0 < 2 = table 0 (omega arith) in
    let z : m ≡ 0 = lt-one h in
    rw z (at_one (coefficient Rm 0 0 e) ∙ ap (λ (x : ℕ). x % 2) (at_one e) ∙ mod-mod (e 0) 2 ∙ mod-eq_of_lt b)

pub plain_inverse : (n : ℕ) (e : ℕ → ℕ) → Table (2 ^ n) e → (m : ℕ) → m < 2 ^ n → coefficient Rm n 0 (coefficient Rm n 0 e) m ≡ e m
plain_inverse zero e table = inverse_one e table
plain_inverse (suc n) e table =
    let p = pow_double n in
    inverse_suc n e table (plain_inverse n e (λ t h. table t (omega arith)))
    (plain_inverse n (λ t. e (2 ^ n + t)) (λ t h. table (2 ^ n + t) (omega arith)))

-- ---- every polarity

pub to_plain : (kind : Kind) (n k : ℕ) (e : ℕ → ℕ) (j : ℕ) → coefficient kind n k e j ≡ coefficient kind n 0 (λ t. e (bit_xor t k)) j
unfolding coefficient subset_sum
to_plain kind n k e j =
    ap (reduce kind)
    (sum_to_ext (2 ^ n) (term k e j) (term 0 (λ t. e (bit_xor t k)) j)
    (λ t h. ap (λ (x : ℕ). cond (inside t j) (e (bit_xor x k)) 0) (sym (xor_zero_r t))))

pub recovered_ext : (n k : ℕ) (v w : ℕ → ℕ) (m : ℕ) → ((j : ℕ) → j < 2 ^ n → v j ≡ w j) → recovered n k v m ≡ recovered n k w m
unfolding recovered
recovered_ext n k v w m same =
    coefficient_ext Rm n 0 (λ j. v j % 2) (λ j. w j % 2) (bit_xor m k) (pow_pos n) (λ j h. ap (λ (x : ℕ). x % 2) (same j h))

pub recovered_bit : (n k : ℕ) (v : ℕ → ℕ) (m : ℕ) → recovered n k v m < 2
unfolding recovered coefficient
recovered_bit n k v m = omega arith

pub recovered_table : (kind : Kind) (n k : ℕ) (e : ℕ → ℕ) (m : ℕ) → Table (2 ^ n) e → k < 2 ^ n → m < 2 ^ n
    → recovered n k (coefficient kind n k e) m ≡ e m
unfolding recovered
recovered_table kind n k e m table hk hm =
    coefficient_ext Rm n 0 (λ j. coefficient kind n k e j % 2) (coefficient Rm n 0 (λ t. e (bit_xor t k))) (bit_xor m k) (pow_pos n)
    (λ j h. coefficient_mod kind n k e j ∙ to_plain Rm n k e j)
    ∙ plain_inverse n (λ t. e (bit_xor t k)) (λ t h. table (bit_xor t k) (xor_lt n t k h hk)) (bit_xor m k) (xor_lt n m k hm hk)
    ∙ ap e (xor_undo m k)
