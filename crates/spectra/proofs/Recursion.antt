-- The transform of a table by its halves (specs/Recursion.antt). Half h = 2 ^ (n − 1) of the memory is lent on for each half of the table;
-- the top bit of the polarity, k / h, says which half of the table comes first.
--
--   Halved                what is known where the transform halves the memory
--   halved, halved_at     it is known there, of a half that is known and of one that the code works out
--   half_shift            by a shift of few bits
--   top_le                the top bit of the polarity is 0 or 1
--   other_le              and so is the other bit
--   down                  the number of inputs falls
--   inner_asked           what the transform asks of a half
--   front_inside          the first half lies within the memory
--   back_size             the size of the second half
--   combine_asked         what combining asks: two halves of numbers that are at most 2 ^ 14
--   transformed           the combined halves are the spectrum
--   transformed_one       the spectrum of one entry
--   row_asked             what the transform asks of a whole table
use Prim.Native.Nat.{ℕ, suc, ◌+◌, ◌-◌, ◌*◌, ◌/◌, ◌%◌, ◌^◌, ◌≤◌, ◌<◌, zero-le}
use native.Mathlib.Nat.{div-lt_iff_lt-mul, div-add-mod', mod-lt, mul-le-mul_right, mul_assoc, add_assoc, add-zero, one-mul, le_trans}
use native.Mathlib.Omega.{arith}
use mathlib.Core.Path.{◌≡◌, refl, sym, ap, ap₂, subst, ◌∙◌}
use mathlib.Core.List.{List, [], ◌∷◌, ◌++◌}
use mathlib.Core.Logic.{⊎_elim}
use lib.ListN.{length, get_or, take, drop, set, length-append, get_or-append, get_or-eq_default}
use lib.Seq.{get_or-append-add, take_at, drop_at}
use lib.Pow.{pow_pos, pow_mono, pow-add, mod-mod-pow}
use Rattle.bits.specs.Packed.{entry}
use Rattle.bits.proofs.Below.{lt_or_ge}
use Rattle.bits.proofs.Fields.{shift_exact}
use Rattle.bits.proofs.Packed.{entry_lt}
use Rattle.job.specs.Layout.{max_inputs}
use Rattle.job.proofs.Sizes.{most_inputs}
use Rattle.bits.specs.Sizes.{table_bytes}
use Rattle.spectra.specs.Recursion.{half_sums, Summed, Asks, entries_from, Most, combined}
use Rattle.spectra.specs.Spectrum.{spectrum}
use Rattle.spectra.specs.declared.Kind.TheVariants.{Mrm}
use Rattle.spectra.proofs.Bounds.{coefficient_le, length_spectrum, spectrum_at, spectrum_ext}
use Rattle.spectra.proofs.Halves.{spectrum_halves, spectrum_one}
use Rattle.spectra.proofs.Sums.{pow_double}

-- ---- the two halves

pub record Halved (out : List ℕ) (sums : List (List ℕ)) (len at n k h : ℕ) : Type 0 where
  pub asks : Asks (length out) sums len at n k
  pub some : 1 ≤ n
  pub half : h ≡ 2 ^ (n - 1)
  pub half_some : 0 < h
  pub half_few : h ≤ 2 ^ 14
  pub room : length out ≡ h + h
  pub below : k < h + h
  pub inside : at + (h + h) ≤ 8 * len
  pub fits : at + (h + h) < 2 ^ 64

doubled : (n h : ℕ) → 1 ≤ n → h ≡ 2 ^ (n - 1) → 2 ^ n ≡ h + h
doubled n h some e =
    let s : n ≡ suc (n - 1) = omega arith in
    ap (λ (x : ℕ). 2 ^ x) s ∙ pow_double (n - 1) ∙ ap₂ ◌+◌ (sym e) (sym e)

pub halved : (out : List ℕ) (sums : List (List ℕ)) (len at n k : ℕ) {h : ℕ} → Asks (length out) sums len at n k → 1 ≤ n → h ≡ 2 ^ (n - 1)
    → Halved out sums len at n k h
halved out sums len at n k {h} asks some e =
    let d : 2 ^ n ≡ h + h = doubled n h some e in
    let most : 2 ^ (n - 1) ≤ 2 ^ 14 = pow_mono {i = n - 1} {j = 14} (omega (arith, asks.few)) in
    let least : 0 < 2 ^ (n - 1) = pow_pos (n - 1) in
    record {
      asks = asks;
      some = some;
      half = e;
      half_some = omega arith;
      half_few = omega arith;
      room = asks.room ∙ d;
      below = omega (arith, asks.polarity);
      inside = omega (arith, asks.within);
      fits = omega (arith, asks.fits);
    }

-- half the entries, as the code shifts them
abbrev pub half_size : ℕ → ℕ
half_size n = 1 * 2 ^ (n - 1) % 2 ^ 64

pub half_shift : {places : ℕ} {sums : List (List ℕ)} {len at n k : ℕ} → Asks places sums len at n k → n - 1 < 64
half_shift asks = omega (arith, asks.few)

pub halved_at : (out : List ℕ) (sums : List (List ℕ)) (len at n k : ℕ) → Asks (length out) sums len at n k → (n ≡ 0 → ⊥) → Halved out sums len at n k (half_size n)
halved_at out sums len at n k asks ne = halved out sums len at n k asks (omega arith) (shift_exact (n - 1) (half_shift asks))

pub down : {n t : ℕ} → 1 ≤ n → n ≡ t → n - 1 < t
down some e = omega arith

times_le : (x h : ℕ) → x ≤ 1 → x * h ≤ h
times_le x h l = subst (λ (y : ℕ). x * h ≤ y) (one-mul h) (mul-le-mul_right h l)

-- a half of so many entries, if they have three inputs or more, begins at a multiple of 8, and its polarity has the same three lowest bits
module _ (n h : ℕ) (e : h ≡ 2 ^ (n - 1)) (three : 3 ≤ n - 1) where
  whole_half : (at x : ℕ) → at % 8 ≡ 0 → (at + x * h) % 8 ≡ 0
  whole_half at x z =
      let over : n - 1 ≡ (n - 4) + 3 = omega arith in
      let place : x * h ≡ x * 2 ^ (n - 4) * 8 =
      ap (λ (y : ℕ). x * y) (e ∙ ap (λ (y : ℕ). 2 ^ y) over ∙ pow-add 2 (n - 4) 3) ∙ sym (mul_assoc x (2 ^ (n - 4)) 8) in
      omega arith

  low_half : (k : ℕ) → k % h % 8 ≡ k % 8
  low_half k =
      let over : n - 1 ≡ (n - 4) + 3 = omega arith in
      ap (λ (y : ℕ). k % y % 8) (e ∙ ap (λ (y : ℕ). 2 ^ y) over) ∙ mod-mod-pow k (n - 4) 3

module _ {out : List ℕ} {sums : List (List ℕ)} {len at n k h : ℕ} (p : Halved out sums len at n k h) where
  pub top_le : k / h ≤ 1
  top_le = let l : k / h < 2 = (div-lt_iff_lt-mul {k = h} {x = k} {y = 2} p.half_some).1 (omega (arith, p.below)) in omega arith

  pub other_le : 1 - k / h ≤ 1
  other_le = omega arith

  module _ (x : ℕ) (l : x ≤ 1) where
    pub inner_asked : {places : ℕ} → places ≡ h → Asks places sums len (at + x * h) (n - 1) (k % h)
    inner_asked e =
        let b = times_le x h l in
        let r : k % h < h = mod-lt k p.half_some in
        record {
          few = omega (arith, p.asks.few);
          room = e ∙ p.half;
          polarity = omega (arith, p.half);
          within = omega (arith, p.half, p.inside);
          fits = omega (arith, p.half, p.fits);
          whole = λ three. whole_half n h p.half three at x (p.asks.whole (omega arith));
          summed = λ three. p.asks.summed (omega arith) ∙ ap half_sums (sym (low_half n h p.half three k));
        }

  pub front_inside : h ≤ length out
  front_inside = omega (arith, p.room)

  pub back_size : {places : ℕ} → places + h ≡ length out → places ≡ h
  back_size e = omega (arith, p.room)

-- ---- the size of the numbers

most_append : (m : ℕ) (a b : List ℕ) → Most m a → Most m b → Most m (a ++ b)
most_append m a b ha hb i =
    ⊎_elim (λ l. subst (λ (x : ℕ). x ≤ m) (sym (get_or-append a b 0 i l)) (ha i))
    (λ l. let e : length a + (i - length a) ≡ i = omega arith in
    subst (λ (x : ℕ). x ≤ m) (sym (get_or-append-add a b (i - length a) 0) ∙ ap (λ (x : ℕ). get_or (a ++ b) x 0) e) (hb (i - length a)))
    (lt_or_ge i (length a))

most_spectrum : (m r : ℕ) (s : List ℕ) (at : ℕ) → r < 2 ^ m → Most (2 ^ m) (spectrum Mrm m r (entries_from s at))
most_spectrum m r s at h i =
    ⊎_elim
    (λ l. subst (λ (x : ℕ). x ≤ 2 ^ m) (sym (spectrum_at Mrm m r (entries_from s at) i l))
    (coefficient_le Mrm m r (entries_from s at) i (λ x _. entry_lt s (at + x)) h))
    (λ l. subst (λ (x : ℕ). x ≤ 2 ^ m)
    (sym (get_or-eq_default (spectrum Mrm m r (entries_from s at)) 0 {n = i} (rw length_spectrum l))) zero-le)
    (lt_or_ge i (2 ^ m))

-- ---- the spectrum of the whole

module _ (s : List ℕ) (at m r : ℕ) (l : r < 2 ^ m) where
  moved : (x : ℕ) → spectrum Mrm m r (λ j. entries_from s at (x + j)) ≡ spectrum Mrm m r (entries_from s (at + x))
  moved x = spectrum_ext Mrm m r (λ j. entries_from s at (x + j)) (entries_from s (at + x)) l (λ j _. ap (entry s) (sym (add_assoc at x j)))

  pub halves_at : (b d : ℕ) → b + d ≡ 1
      → spectrum Mrm (suc m) (b * 2 ^ m + r) (entries_from s at)
      ≡ combined (2 ^ m) (spectrum Mrm m r (entries_from s (at + b * 2 ^ m))) (spectrum Mrm m r (entries_from s (at + d * 2 ^ m)))
  halves_at b d e =
      spectrum_halves Mrm m b d r (entries_from s at) e l
      ∙ ap₂ (λ (x y : List ℕ). combined (2 ^ m) x y) (moved (b * 2 ^ m)) (moved (d * 2 ^ m))

module _ (s : List ℕ) {out : List ℕ} {sums : List (List ℕ)} {at n k h : ℕ} (p : Halved out sums (length s) at n k h) where
  -- the spectrum of half x of the table
  abbrev half_of : ℕ → List ℕ
  half_of x = spectrum Mrm (n - 1) (k % h) (entries_from s (at + x * h))

  rest_below : k % h < 2 ^ (n - 1)
  rest_below = subst (λ (x : ℕ). k % h < x) p.half (mod-lt k p.half_some)

  whole_spectrum : spectrum Mrm n k (entries_from s at) ≡ combined h (half_of (k / h)) (half_of (1 - k / h))
  whole_spectrum =
      let top = top_le p in
      let one : k / h + (1 - k / h) ≡ 1 = omega arith in
      let up : n ≡ suc (n - 1) = omega (arith, p.some) in
      ap₂ (λ (x y : ℕ). spectrum Mrm x y (entries_from s at)) up (sym (div-add-mod' k h))
      ∙ ap (λ (x : ℕ). spectrum Mrm (suc (n - 1)) (k / h * x + k % h) (entries_from s at)) p.half
      ∙ halves_at s at (n - 1) (k % h) rest_below (k / h) (1 - k / h) one
      ∙ ap
      (λ (x : ℕ). combined x (spectrum Mrm (n - 1) (k % h) (entries_from s (at + k / h * x)))
      (spectrum Mrm (n - 1) (k % h) (entries_from s (at + (1 - k / h) * x))))
      (sym p.half)

  module _ (lo hi : List ℕ) (low : lo ≡ half_of (k / h)) (high : hi ≡ half_of (1 - k / h)) where
    low_length : length lo ≡ h
    low_length = ap length low ∙ length_spectrum Mrm (n - 1) (k % h) (entries_from s (at + k / h * h)) ∙ sym p.half

    high_length : length hi ≡ h
    high_length = ap length high ∙ length_spectrum Mrm (n - 1) (k % h) (entries_from s (at + (1 - k / h) * h)) ∙ sym p.half

    most_half : (x : ℕ) → Most (2 ^ 14) (half_of x)
    most_half x i = let l = most_spectrum (n - 1) (k % h) s (at + x * h) rest_below i in omega (arith, p.half, p.half_few)

    pub combine_asked : (h + h ≡ length (lo ++ hi)) × Most (2 ^ 14) (lo ++ hi)
    combine_asked = (
      sym (length-append lo hi ∙ ap₂ ◌+◌ low_length high_length),
      subst (λ (x : List ℕ). Most (2 ^ 14) x) (sym (ap₂ ◌++◌ low high)) (most_append (2 ^ 14) (half_of (k / h)) (half_of (1 - k / h)) (most_half (k / h)) (most_half (1 - k / h))),
    )

    pub transformed : (after : List ℕ) → after ≡ combined h (take h (lo ++ hi)) (drop h (lo ++ hi)) → after ≡ spectrum Mrm n k (entries_from s at)
    transformed after q =
        q
        ∙ ap₂ (λ (x y : List ℕ). combined h x y)
        (take_at lo hi h low_length ∙ low) (drop_at lo hi h low_length ∙ high)
        ∙ sym whole_spectrum

-- ---- the smallest tables

one_number : (out : List ℕ) (x : ℕ) → length out ≡ 1 → set out 0 x ≡ x ∷ []
one_number [] x e = absurd (omega arith)
one_number (y ∷ []) x e = refl
one_number (y ∷ z ∷ out) x e = absurd (omega arith)

pub transformed_one : (s out : List ℕ) (at n k x : ℕ) → n ≡ 0 → length out ≡ 2 ^ n → k < 2 ^ n → x ≡ entry s at
    → set out 0 x ≡ spectrum Mrm n k (entries_from s at)
transformed_one s out at n k x z size below e =
    let size_one : length out ≡ 1 = size ∙ ap (λ (m : ℕ). 2 ^ m) z in
    let below_one : k < 1 = subst (λ (m : ℕ). k < 2 ^ m) z below in
    let none : k ≡ 0 = omega arith in
    one_number out x size_one
    ∙ ap (λ (y : ℕ). y ∷ []) (e ∙ ap (entry s) (sym (add-zero at)))
    ∙ sym (spectrum_one Mrm (entries_from s at) (entry_lt s (at + 0)))
    ∙ ap₂ (λ (m y : ℕ). spectrum Mrm m y (entries_from s at)) (sym z) (sym none)

-- the place of a whole table
pub row_asked : {places len n k : ℕ} {sums : List (List ℕ)} → n ≤ max_inputs → places ≡ 2 ^ n → k < 2 ^ n → len ≡ table_bytes n → Summed n k sums
    → Asks places sums len 0 n k
row_asked {places} {len} {n} few room polarity bytes summed =
    let l : n ≤ 15 = le_trans few most_inputs in
    let most : 2 ^ n ≤ 2 ^ 15 = pow_mono l in
    record { few = l; room = room; polarity = polarity; within = omega arith; fits = omega arith; whole = λ _. refl; summed = summed }
