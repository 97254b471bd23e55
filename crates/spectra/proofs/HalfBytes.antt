-- The leaf (specs/Recursion.antt): the spectrum of a byte is the sum of those of its halves, which stand in the rows of sums.
--
--   subset_plus      the subset sums of a sum of two tables are the sums of theirs
--   byte_halves      those of a byte are those of its upper half and of its lower half, added
--   byte_worked      the spectrum of a byte, sum by sum
--   leaf_fits        their sums fit
--   leaf_made        the two rows, added, are the spectrum of the leaf
use Prim.Native.Nat.{ℕ, ◌+◌, ◌-◌, ◌*◌, ◌/◌, ◌%◌, ◌^◌, ◌≤◌, ◌<◌}
use native.Mathlib.Nat.{zero-add, mod-eq_of_lt, mul-one}
use native.Mathlib.Omega.{arith}
use mathlib.Core.Path.{◌≡◌, refl, sym, ap, ap₂, subst, ◌∙◌}
use mathlib.Core.Bool.{Bool, true, false, cond}
use mathlib.Core.List.{List, [], ◌∷◌}
use lib.Bits.{bit_xor, xor_zero_l}
use lib.Dec.{lit≤}
use lib.ListN.{length, get_or}
use mir.Syntax.{w16}
use mir.Val.{Fits}
use Rattle.bits.specs.Packed.{entry, tabulate}
use Rattle.bits.proofs.Below.{equal_below}
use Rattle.bits.proofs.Digits.{digit_lt}
use Rattle.bits.proofs.Packed.{tabulate_at, tabulate_ext}
use Rattle.bits.proofs.Splice.{Written, filled_all}
use Rattle.std.proofs.lemmas.List.FromFn.{length-map-range_with_len, get_or-map-range_with_len}
use Rattle.spectra.specs.Recursion.{byte_entry, sums_of, byte_sums, half_byte, half_sums, sum_at, Asks, LeafAsks, entries_from}
use Rattle.spectra.specs.Operations.{at}
use Rattle.spectra.specs.Spectrum.{inside, sum_to, subset_sum, coefficient, spectrum}
use Rattle.spectra.specs.declared.Kind.TheVariants.{Mrm}
use Rattle.spectra.proofs.Bounds.{coefficient_le, subset_ext}
use Rattle.spectra.proofs.Sums.{sum_to_ext, sum_to_plus, term}

-- ---- a byte and its halves

cond_plus : (p : Bool) (x y : ℕ) → cond p (x + y) 0 ≡ cond p x 0 + cond p y 0
cond_plus true x y = refl
cond_plus false x y = refl

pub subset_plus : (n k : ℕ) (f g : ℕ → ℕ) (j : ℕ) → subset_sum n k (λ m. f m + g m) j ≡ subset_sum n k f j + subset_sum n k g j
unfolding subset_sum
subset_plus n k f g j =
    sum_to_ext (2 ^ n) (term k (λ m. f m + g m) j) (λ t. term k f j t + term k g j t)
    (λ t _. cond_plus (inside t j) (f (bit_xor t k)) (g (bit_xor t k)))
    ∙ sum_to_plus (2 ^ n) (term k f j) (term k g j)

entry_halves : (byte t : ℕ) → byte < 256 → t < 8 → byte_entry byte t ≡ byte_entry (byte / 16 * 16) t + byte_entry (byte % 16) t
entry_halves byte t hb ht = equal_below byte_entry (λ b u. byte_entry (b / 16 * 16) u + byte_entry (b % 16) u) 256 8 tt byte t hb ht

pub byte_halves : (k byte j : ℕ) → k < 8 → byte < 256
    → subset_sum 3 k (byte_entry byte) j ≡ subset_sum 3 k (byte_entry (byte / 16 * 16)) j + subset_sum 3 k (byte_entry (byte % 16)) j
byte_halves k byte j hk h =
    subset_ext 3 k (byte_entry byte) (λ t. byte_entry (byte / 16 * 16) t + byte_entry (byte % 16) t) j hk (λ t l. entry_halves byte t h l)
    ∙ subset_plus 3 k (byte_entry (byte / 16 * 16)) (byte_entry (byte % 16)) j

-- the sum of the numbers of a function at the t inside j
abbrev inside_sum : (ℕ → ℕ) → ℕ → ℕ
inside_sum g j = sum_to 8 (λ t. cond (inside t j) (g t) 0)

module _ (g : ℕ → ℕ) where
  sum_0 : g 0 ≡ inside_sum g 0
  unfolding sum_to inside
  sum_0 = omega arith

  sum_1 : g 0 + g 1 ≡ inside_sum g 1
  unfolding sum_to inside
  sum_1 = omega arith

  sum_2 : g 0 + g 2 ≡ inside_sum g 2
  unfolding sum_to inside
  sum_2 = omega arith

  sum_3 : g 0 + g 1 + (g 2 + g 3) ≡ inside_sum g 3
  unfolding sum_to inside
  sum_3 = omega arith

  sum_4 : g 0 + g 4 ≡ inside_sum g 4
  unfolding sum_to inside
  sum_4 = omega arith

  sum_5 : g 0 + g 1 + (g 4 + g 5) ≡ inside_sum g 5
  unfolding sum_to inside
  sum_5 = omega arith

  sum_6 : g 0 + g 2 + (g 4 + g 6) ≡ inside_sum g 6
  unfolding sum_to inside
  sum_6 = omega arith

  sum_7 : g 0 + g 1 + (g 2 + g 3) + (g 4 + g 5 + (g 6 + g 7)) ≡ inside_sum g 7
  unfolding sum_to inside
  sum_7 = omega arith

eight_sums_lem : (g : ℕ → ℕ) → sums_of (g 0) (g 1) (g 2) (g 3) (g 4) (g 5) (g 6) (g 7) ≡ tabulate 8 (inside_sum g)
unfolding tabulate
eight_sums_lem g = λ i. sum_0 g i ∷ sum_1 g i ∷ sum_2 g i ∷ sum_3 g i ∷ sum_4 g i ∷ sum_5 g i ∷ sum_6 g i ∷ sum_7 g i ∷ []

pub byte_worked : (k byte : ℕ) → byte_sums k byte ≡ tabulate 8 (subset_sum 3 k (byte_entry byte))
unfolding subset_sum
byte_worked k byte =
    let g : ℕ → ℕ = λ t. byte_entry byte (bit_xor t k) in
    ap (λ (x : ℕ). sums_of x (g 1) (g 2) (g 3) (g 4) (g 5) (g 6) (g 7)) (ap (byte_entry byte) (sym (xor_zero_l k))) ∙ eight_sums_lem g

-- ---- the rows of half bytes

upper_byte : (i : ℕ) → i < 16 → half_byte i ≡ i * 16
upper_byte i h =
    let m : i % 16 ≡ i = omega arith in
    let w : 16 - 15 * (i / 16) ≡ 16 = omega arith in
    ap₂ ◌*◌ m w

lower_byte : (i : ℕ) → i < 16 → half_byte (16 + i) ≡ i
lower_byte i h =
    let m : (16 + i) % 16 ≡ i = omega arith in
    let w : 16 - 15 * ((16 + i) / 16) ≡ 1 = omega arith in
    ap₂ ◌*◌ m w ∙ mul-one i

module _ (k : ℕ) where
  length_sums : length (half_sums k) ≡ 32
  unfolding half_sums
  length_sums = length-map-range_with_len (λ i. byte_sums k (half_byte i)) 0 32

  half_row : (i : ℕ) (d : List ℕ) → i < 32 → get_or (half_sums k) i d ≡ byte_sums k (half_byte i)
  unfolding half_sums
  half_row i d h = get_or-map-range_with_len (λ i. byte_sums k (half_byte i)) 0 32 i i d h (zero-add i)

-- ---- the leaf

row_at : (k byte j : ℕ) {x : List ℕ} → j < 8 → x ≡ byte_sums k byte → get_or x j 0 ≡ subset_sum 3 k (byte_entry byte) j
row_at k byte j h e =
    ap (λ (l : List ℕ). get_or l j 0) (e ∙ byte_worked k byte) ∙ tabulate_at 8 (subset_sum 3 k (byte_entry byte)) j h

byte_le : (k byte j : ℕ) {x : List ℕ} → k < 8 → j < 8 → x ≡ byte_sums k byte → get_or x j 0 ≤ 8
unfolding coefficient
byte_le k byte j hk hj e =
    subst (λ (v : ℕ). v ≤ 8)
    (sym (row_at k byte j hj e))
    (coefficient_le Mrm 3 k (byte_entry byte) j (λ t _. digit_lt byte (7 - t % 8)) hk)

-- the spectrum of the byte at a place is that of three inputs
byte_there : (s : List ℕ) (at k : ℕ) → k < 8 → at % 8 ≡ 0 → byte_sums k (get_or s (at / 8) 0) ≡ spectrum Mrm 3 k (entries_from s at)
unfolding spectrum coefficient entry
byte_there s at k hk z =
    byte_worked k (get_or s (at / 8) 0)
    ∙ tabulate_ext 8 (subset_sum 3 k (byte_entry (get_or s (at / 8) 0))) (subset_sum 3 k (entries_from s at))
    (λ j _. subset_ext 3 k (byte_entry (get_or s (at / 8) 0)) (entries_from s at) j hk
    (λ t h.
    let byte : at / 8 ≡ (at + t) / 8 = omega arith in
    let place : t % 8 ≡ (at + t) % 8 = omega arith in
    ap₂ (λ (x y : ℕ). get_or s x 0 / 2 ^ (7 - y) % 2) byte place))

-- the rows of a byte's halves
module _ (k byte : ℕ) {sums : List (List ℕ)} (hk : k < 8) (h : byte < 256) (e : sums ≡ half_sums k) where
  upper_row : {x : List ℕ} → x ≡ get_or sums (byte / 16) [] → x ≡ byte_sums k (byte / 16 * 16)
  upper_row p =
      let l : byte / 16 < 16 = omega arith in
      p ∙ ap (λ (s : List (List ℕ)). get_or s (byte / 16) []) e ∙ half_row k (byte / 16) [] (omega arith) ∙ ap (byte_sums k) (upper_byte (byte / 16) l)

  lower_row : {y : List ℕ} → y ≡ get_or sums (16 + byte % 16) [] → y ≡ byte_sums k (byte % 16)
  lower_row p =
      p ∙ ap (λ (s : List (List ℕ)). get_or s (16 + byte % 16) []) e ∙ half_row k (16 + byte % 16) [] (omega arith)
      ∙ ap (byte_sums k) (lower_byte (byte % 16) (omega arith))

  module _ {x y : List ℕ} (p : x ≡ get_or sums (byte / 16) []) (q : y ≡ get_or sums (16 + byte % 16) []) where
    rows_added : tabulate 8 (sum_at x y) ≡ byte_sums k byte
    rows_added =
        tabulate_ext 8 (sum_at x y) (subset_sum 3 k (byte_entry byte))
        (λ j l. ap₂ ◌+◌ (row_at k (byte / 16 * 16) j l (upper_row p)) (row_at k (byte % 16) j l (lower_row q)) ∙ sym (byte_halves k byte j hk h))
        ∙ sym (byte_worked k byte)

    sum_fits : (j : ℕ) → j < 8 → sum_at x y j < 2 ^ 16
    sum_fits j l = omega (arith, byte_le k (byte / 16 * 16) j hk l (upper_row p), byte_le k (byte % 16) j hk l (lower_row q))

-- the sums that a leaf has are for its own polarity
leaf_sums : {places : ℕ} {sums : List (List ℕ)} {len at k : ℕ} → Asks places sums len at 3 k → sums ≡ half_sums k
leaf_sums asks = asks.summed (lit≤ tt) ∙ ap half_sums (mod-eq_of_lt asks.polarity)

module _ {places : ℕ} {sums : List (List ℕ)} (s : List ℕ) {at : ℕ} (l : LeafAsks places sums (length s) at) where
  module _ (h : get_or s (at / 8) 0 < 256) where
    abbrev byte : ℕ
    byte = get_or s (at / 8) 0

    module _ {x y : List ℕ} (p : x ≡ get_or sums (byte / 16) []) (q : y ≡ get_or sums (16 + byte % 16) []) where
      pub leaf_fits : (j : ℕ) → j < 8 → Fits w16 (sum_at x y j)
      leaf_fits j h₈ = record { fits = sum_fits l.polarity byte l.asks.polarity h (leaf_sums l.asks) p q j h₈ }

      pub leaf_made : {start out : List ℕ} {j : ℕ} → Written start 0 8 (sum_at x y) out j → length start ≡ places → 8 ≤ j
          → (k : ℕ) → Asks places sums (length s) at 3 k → out ≡ spectrum Mrm 3 k (entries_from s at)
      leaf_made w e all k asks =
          filled_all w (e ∙ asks.room) all
          ∙ rows_added k byte asks.polarity h (leaf_sums asks) p q ∙ byte_there s at k asks.polarity (asks.whole (lit≤ tt))
