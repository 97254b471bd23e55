-- Laws of a field at a place (specs/Field.antt), and of the parser that takes it off a string (specs/Parser.antt).
--
--   length_from      how many bits there are from a place on
--   from_past        the string behind a field is the string without it
--   bits_from        there are bits alone from a place on
--   field_at_cut     where a field has no room, it is cut
--   field_at_value   where it has room, its value stands there
--   field_at_far, field_at_short, field_at_window   the same for the tests and the arithmetic of the code
--   window_early, place_early   where a field begins in one of the early bytes, both its bytes are there, and it is not past the last place
--   room_near       where they are, the field has room
--   shift_exact     a one shifted within a word is a power of two
--   spare_none, spare_more, spare_last   which bits are spare bits alone, for the tests and the arithmetic of the code
--   field_found     what a field that was read says of the string
--   field_near      the place behind it is near
--   field_value     what is read at a place is what the parser takes
--   field_cut       what is cut at a place the parser refuses
--   field_lt        a field's value fits its width
use Prim.Native.Nat.{ℕ, suc, ◌+◌, ◌*◌, ◌-◌, ◌/◌, ◌%◌, ◌^◌, ◌≤◌, ◌<◌}
use mathlib.Core.Path.{◌≡◌, refl, sym, ap, ap₂, ◌∙◌, subst}
use mathlib.Core.Bool.{Bool, true, false, ◌&&◌, cond}
use mathlib.Core.List.{List, ◌++◌, append-nil}
use native.Mathlib.Nat.{one-mul}
use native.Mathlib.Omega.{arith}
use borrow.Author.Tests.{le-leb, lt-leb, leb-true, le-ltb, lt-ltb}
use lib.Dec.{leb, ltb, eqb, lit<}
use Rattle.std.specs.Prelude.{Option, Some, None, unwrap_or}
use lib.Pow.{shl_exact}
use lib.ListN.{length, get_or, take, drop, length-drop, drop_of_length-le}
use lib.Seq.{drop-drop, length-take-le}
use Rattle.bits.specs.Answer.{unless}
use Rattle.bits.specs.Answer.Answer.{refused}
use Rattle.bits.specs.Bits.{bits_of, string_of, value_of, value_from}
use Rattle.bits.specs.Field.{from, past, max_place, max_width, is_width, field_at, spare_only, window_at}
use Rattle.bits.specs.Parser.{parsed, field}
use Rattle.bits.specs.declared.Cursor.{Cursor}
use Rattle.bits.proofs.FieldParser.{field_room}
use Rattle.bits.proofs.Tests.{and_l, and_r, and_i}
use Rattle.bits.proofs.Bits.{AllBits, bits_take, bits_drop, bits_string_of, length_bits_of, length_string_of, bits_of_drop, drop_at_byte, value_of_bits_of, value_of_lt}
use Rattle.bits.proofs.Packed.{Bytes}
use Rattle.bits.proofs.Window.{value_of_window}

pub length_from : (s : List ℕ) (c : Cursor) → length (from s c) ≡ length s * 8 - c.bit
unfolding from
length_from s c = length-drop c.bit (string_of s) ∙ ap (λ (k : ℕ). k - c.bit) (length_string_of s)

pub from_past : (s : List ℕ) (c : Cursor) (w : ℕ) → from s (past c w) ≡ drop w (from s c)
unfolding from
from_past s c w = sym (drop-drop w c.bit (string_of s))

pub bits_from : (s : List ℕ) (c : Cursor) → AllBits (from s c)
unfolding from
bits_from s c = bits_drop c.bit (string_of s) (bits_string_of s)

-- a width of the layout, at a place that is read
abbrev is_field : Cursor → ℕ → Bool
is_field c w = is_width w && leb c.bit max_place

-- which of the two a field is goes by one test
field_at_test : (s : List ℕ) (c : Cursor) (w : ℕ) (t : Bool) → is_field c w && leb w (length (from s c)) ≡ t
    → field_at s c w ≡ cond t (Some (value_of (take w (from s c)), past c w)) None
unfolding field_at
field_at_test s c w t e = ap (λ (b : Bool). cond b (Some (value_of (take w (from s c)), past c w)) None) e

pub field_at_cut : (s : List ℕ) (c : Cursor) (w : ℕ) → (1 ≤ w → w ≤ max_width → c.bit ≤ max_place → length (from s c) < w) → field_at s c w ≡ None
field_at_cut s c w h = field_at_test s c w false (go (leb 1 w) refl (leb w max_width) refl (leb c.bit max_place) refl)
  where
    go : (t : Bool) → leb 1 w ≡ t → (u : Bool) → leb w max_width ≡ u → (v : Bool) → leb c.bit max_place ≡ v → is_field c w && leb w (length (from s c)) ≡ false
    go false p u q v r = ap (λ (b : Bool). b && leb w max_width && leb c.bit max_place && leb w (length (from s c))) p
    go true p false q v r = ap₂ (λ (b d : Bool). b && d && leb c.bit max_place && leb w (length (from s c))) p q
    go true p true q false r =
        ap₂ (λ (b d : Bool). b && d && leb c.bit max_place && leb w (length (from s c))) p q
        ∙ ap (λ (b : Bool). b && leb w (length (from s c))) r
    go true p true q true r =
        ap₂ (λ (b d : Bool). b && d && leb c.bit max_place && leb w (length (from s c))) p q
        ∙ ap (λ (b : Bool). b && leb w (length (from s c))) r
        ∙ lt-leb w (length (from s c)) (h (leb-true 1 w p) (leb-true w max_width q) (leb-true c.bit max_place r))

pub field_at_value : (s : List ℕ) (c : Cursor) (w : ℕ) → 1 ≤ w → w ≤ max_width → c.bit ≤ max_place → w ≤ length (from s c)
    → field_at s c w ≡ Some (value_of (take w (from s c)), past c w)
field_at_value s c w p q r h =
    field_at_test s c w true
    (ap₂ (λ (b d : Bool). b && d && leb c.bit max_place && leb w (length (from s c))) (le-leb 1 w p) (le-leb w max_width q)
    ∙ ap (λ (b : Bool). b && leb w (length (from s c))) (le-leb c.bit max_place r)
    ∙ le-leb w (length (from s c)) h)

pub shift_exact : (n : ℕ) → n < 64 → 1 * 2 ^ n % 2 ^ 64 ≡ 2 ^ n
shift_exact n h = shl_exact 1 n 64 (lit< tt) (omega arith) ∙ one-mul (2 ^ n)

-- The code's tests and arithmetic: the byte and the bit at which a field starts, and the number of two bytes.
module _ (s : List ℕ) (c : Cursor) (w : ℕ) where
  abbrev at_byte : ℕ
  at_byte = c.bit / 8

  abbrev to_bit : ℕ
  to_bit = c.bit % 8 + w

  pub field_at_far : max_place < c.bit → field_at s c w ≡ None
  field_at_far h = field_at_cut s c w (λ p q r. absurd (omega arith))

  pub field_at_short : length s < at_byte + (to_bit + 7) / 8 → field_at s c w ≡ None
  field_at_short h = field_at_cut s c w (λ p q r. rw length_from (omega arith))

  module _ {early : ℕ} (e : (early ≤ length s - 1) × (early * 8 ≤ max_place)) (h : at_byte < early) where
    pub window_early : at_byte + 1 < length s
    window_early = omega (arith, e.0)

    pub place_early : c.bit ≤ max_place
    place_early = omega (arith, e.1)

  pub room_near : w ≤ max_width → at_byte + 1 < length s → at_byte + (to_bit + 7) / 8 ≤ length s
  room_near q h = omega arith

  pub field_at_window : {v word : ℕ} → Bytes s → 1 ≤ w → w ≤ max_width → c.bit ≤ max_place → at_byte + (to_bit + 7) / 8 ≤ length s
      → word ≡ window_at s at_byte → v ≡ word / 2 ^ (16 - to_bit) % 2 ^ w
      → Some (v, past c w) ≡ field_at s c w
  unfolding from
  field_at_window bytes p q r h f e =
      let start : c.bit ≡ at_byte * 8 + c.bit % 8 = omega arith in
      let l : w ≤ length s * 8 - c.bit = omega arith in
      let inside : at_byte * 8 + c.bit % 8 + w ≤ length s * 8 = omega arith in
      ap (λ (x : ℕ). Some (x, past c w))
      (e
      ∙ ap (λ (x : ℕ). x / 2 ^ (16 - to_bit) % 2 ^ w) f
      ∙ sym (value_of_window s at_byte (c.bit % 8) w bytes inside (omega arith))
      ∙ ap (λ (k : ℕ). value_of (take w (drop k (string_of s)))) (sym start))
      ∙ sym (field_at_value s c w p q r (rw length_from l))

-- A field that is read has room for its bits, and its value and the place behind it are those of the string.
pub record Found (s : List ℕ) (c : Cursor) (w v : ℕ) (next : Cursor) : Type 0 where
  pub narrow : w ≤ max_width
  pub room : w ≤ length (from s c)
  pub value : value_of (take w (from s c)) ≡ v
  pub behind : past c w ≡ next

pub field_found : (s : List ℕ) (c : Cursor) (w v : ℕ) (next : Cursor) → field_at s c w ≡ Some (v, next) → Found s c w v next
field_found s c w v next e = go (is_field c w && leb w (length (from s c))) refl
  where
    go : (t : Bool) → is_field c w && leb w (length (from s c)) ≡ t → Found s c w v next
    go false p = let z : ◌≡◌ {A = ℕ} 0 1 = cc (field_at_test s c w false p, e) in absurd (omega arith)
    go true p =
        let pair : Some (value_of (take w (from s c)), past c w) ≡ Some (v, next) = cc (field_at_test s c w true p, e) in
        record {
          narrow =
              leb-true w max_width
              (and_r (leb 1 w) (leb w max_width)
              (and_l (is_width w) (leb c.bit max_place) (and_l (is_field c w) (leb w (length (from s c))) p)));
          room = leb-true w (length (from s c)) (and_r (is_field c w) (leb w (length (from s c))) p);
          value = ap (λ (o : Option (ℕ × Cursor)). (unwrap_or o (0, c)).0) pair;
          behind = ap (λ (o : Option (ℕ × Cursor)). (unwrap_or o (0, c)).1) pair;
        }

pub field_near : (s : List ℕ) (c : Cursor) (w v : ℕ) (next : Cursor) → field_at s c w ≡ Some (v, next) → next.bit ≤ c.bit + max_width
field_near s c w v next e =
    let f = field_found s c w v next e in
    let b : c.bit + w ≡ next.bit = ap (λ (x : Cursor). x.bit) f.behind in
    omega (arith, f.narrow)

pub field_value : (s : List ℕ) (c : Cursor) (w v : ℕ) (next : Cursor) → field_at s c w ≡ Some (v, next) → field w (from s c) ≡ parsed v (from s next)
unfolding field
field_value s c w v next e =
    let f = field_found s c w v next e in
    field_room w (from s c) f.room
    ∙ ap₂ (λ (x : ℕ) (rest : List ℕ). parsed x rest) f.value (sym (from_past s c w) ∙ ap (from s) f.behind)

pub field_cut : (s : List ℕ) (c : Cursor) (w : ℕ) → is_width w ≡ true → c.bit ≤ max_place → field_at s c w ≡ None → field w (from s c) ≡ refused 1
unfolding field
field_cut s c w h near e = ap (λ (t : Bool). unless t 1 (parsed (value_of (take w (from s c))) (drop w (from s c)))) (go (leb w (length (from s c))) refl)
  where
    go : (t : Bool) → leb w (length (from s c)) ≡ t → leb w (length (from s c)) ≡ false
    go false p = p
    go true p = let z : ◌≡◌ {A = ℕ} 0 1 = cc (field_at_test s c w true (and_i (and_i h (le-leb c.bit max_place near)) p), e) in absurd (omega arith)

pub field_lt : (s : List ℕ) (c : Cursor) (w v : ℕ) (next : Cursor) → field_at s c w ≡ Some (v, next) → v < 2 ^ w
field_lt s c w v next e =
    let f = field_found s c w v next e in
    subst (λ (x : ℕ). x < 2 ^ w) f.value
    (subst (λ (k : ℕ). value_of (take w (from s c)) < 2 ^ k) (length-take-le w (from s c) f.room)
    (value_of_lt (take w (from s c)) (bits_take w (from s c) (bits_from s c))))

pub spare_none : (s : List ℕ) (c : Cursor) → length s ≤ c.bit / 8 → true ≡ spare_only (from s c)
unfolding from spare_only value_of value_from
spare_none s c h =
    let k : length s * 8 ≤ c.bit = omega arith in
    sym (ap spare_only (drop_of_length-le (string_of s) (subst (λ (n : ℕ). n ≤ c.bit) (sym (length_string_of s)) k)))

pub spare_more : (s : List ℕ) (c : Cursor) → 8 ≤ length s * 8 - c.bit → false ≡ spare_only (from s c)
unfolding spare_only
spare_more s c h = sym (ap (λ (t : Bool). t && eqb (value_of (from s c)) 0) (le-ltb (length (from s c)) 8 (rw length_from h)))

pub spare_last : (s : List ℕ) (c : Cursor) {x : ℕ} → x ≡ get_or s (c.bit / 8) 0 → c.bit / 8 < length s → length s ≤ c.bit / 8 + 1 → (c.bit % 8 ≡ 0 → ⊥)
    → eqb (x % ((1 * 2 ^ (8 - c.bit % 8)) % 18446744073709551616)) 0 ≡ spare_only (from s c)
unfolding from spare_only string_of
spare_last s c {x} e h l ne =
    let at = c.bit / 8 in
    let used = c.bit % 8 in
    let left = 8 - used in
    let z : c.bit ≡ at * 8 + used = omega arith in
    let k : 8 ≡ used + left = omega arith in
    let n : length s ≤ suc at = omega arith in
    let rest : from s c ≡ bits_of left x =
    ap (λ (i : ℕ). drop i (string_of s)) z
    ∙ drop_at_byte s at used h
    ∙ ap (λ (r : List ℕ). drop used (bits_of 8 (get_or s at 0) ++ string_of r)) (drop_of_length-le s n)
    ∙ ap (drop used) (append-nil (bits_of 8 (get_or s at 0)) ∙ ap (λ (i : ℕ). bits_of i (get_or s at 0)) k)
    ∙ bits_of_drop used left (get_or s at 0)
    ∙ ap (bits_of left) (sym e)
    in
    ap (λ (i : ℕ). eqb (x % i) 0) (shift_exact left (omega arith))
    ∙ sym (ap spare_only rest ∙ ap₂ (λ (t : Bool) (v : ℕ). t && eqb v 0) (ap (λ (i : ℕ). ltb i 8) (length_bits_of left x) ∙ lt-ltb left 8 (omega arith)) (value_of_bits_of left x))
