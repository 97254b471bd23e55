-- Laws of strings of bits and of the bytes that hold them (specs/Bits.antt). All are stated over the width.
--
--   length_bits_of     bits_of w v has w bits
--   bits_of_split      the a + b bits of v are the a upper ones, then the b lower ones
--   bits_of_mod        bits_of w v depends on the w lowest bits of v alone
--   bits_of_join       the bits of a number put together from two parts are those of the parts
--   value_of_bits_of   the number in the w bits of v is v modulo 2 ^ w
--   AllBits            each element of a list is 0 or 1
--   value_of_lt        a number of w bits is below 2 ^ w
--   bits_of_value_of   the bits of the number that bits give are those bits
--   length_string_of   a byte holds eight bits
--   drop_string_of     the string without its first i * 8 bits is that of the bytes without the first i
--   bits_string_of     a string of bits has bits alone
--   drop_at_byte       the string from bit o of byte i on
--   bits_of_drop       the bits of a number without the first are its lower bits
--   take_window        w bits within the bits of a number are those of the number shifted
use Prim.Native.Nat.{ℕ, zero, suc, ◌+◌, ◌*◌, ◌/◌, ◌%◌, ◌^◌, ◌<◌}
use mathlib.Core.Path.{◌≡◌, refl, sym, ap, ap₂, ◌∙◌, subst}
use mathlib.Core.List.{List, [], ◌∷◌, ◌++◌, append_assoc}
use lib.Dec.{lit<}
use lib.Arith.{digits_lt}
use native.Mathlib.Nat.{mod-lt, div-one, mod-eq_of_lt, zero-add, suc-add, add-zero, add_assoc, add-mul, mul_assoc, add_comm, mod-mod, mod-one, zero-mul, pow-succ', mul-one}
use native.Mathlib.Omega.{arith}
use lib.ListN.{length, take, drop, length-append}
use lib.Seq.{take_at, drop_at, drop-nil, drop-append-add, drop-drop, drop-cons}
use lib.ListN.{get_or}
use lib.Pow.{shr-shr, mod-pow-add, mod-mod-pow, field, high, low, pow_pos}
use Rattle.bits.specs.Bits.{bits_of, value_from, value_of, string_of}

pub length_bits_of : (w v : ℕ) → length (bits_of w v) ≡ w
unfolding bits_of
length_bits_of zero v = refl
length_bits_of (suc w) v = ap suc (length_bits_of w v)

pub bits_of_split : (a b v : ℕ) → bits_of (a + b) v ≡ bits_of a (v / 2 ^ b) ++ bits_of b v
unfolding bits_of
bits_of_split zero b v = ap (λ (k : ℕ). bits_of k v) (zero-add b)
bits_of_split (suc a) b v =
    ap (λ (k : ℕ). bits_of k v) (suc-add a b)
    ∙ ap₂ (λ (x : ℕ) (l : List ℕ). x % 2 ∷ l) (ap (λ (k : ℕ). v / 2 ^ k) (add_comm a b) ∙ sym (shr-shr v b a)) (bits_of_split a b v)

pub bits_of_mod : (w v : ℕ) → bits_of w v ≡ bits_of w (v % 2 ^ w)
unfolding bits_of
bits_of_mod zero v = refl
bits_of_mod (suc w) v =
    ap₂ (λ (x : ℕ) (l : List ℕ). x ∷ l)
    (sym (mod-mod (v / 2 ^ w) 2) ∙ ap (λ (x : ℕ). x % 2) (sym (field v 1 w) ∙ ap (λ (k : ℕ). v % 2 ^ k / 2 ^ w) (one_more w)))
    (bits_of_mod w v ∙ ap (λ (x : ℕ). bits_of w x) (sym (mod-mod-pow v 1 w) ∙ ap (λ (k : ℕ). v % 2 ^ k % 2 ^ w) (one_more w)) ∙ sym (bits_of_mod w (v % 2 ^ suc w)))
  where
    one_more : (w : ℕ) → 1 + w ≡ suc w
    one_more w = omega arith

pub bits_of_join : (a b x y : ℕ) → y < 2 ^ b → bits_of (a + b) (x * 2 ^ b + y) ≡ bits_of a x ++ bits_of b y
bits_of_join a b x y h =
    bits_of_split a b (x * 2 ^ b + y)
    ∙ ap₂ (λ (u v : List ℕ). u ++ v) (ap (bits_of a) (high x b h)) (bits_of_mod b (x * 2 ^ b + y) ∙ ap (bits_of b) (low x b h))

value_from_bits_of : (w v u : ℕ) → value_from u (bits_of w v) ≡ u * 2 ^ w + v % 2 ^ w
unfolding bits_of value_from
value_from_bits_of zero v u = sym (ap₂ ◌+◌ (mul-one u) (mod-one v) ∙ add-zero u)
value_from_bits_of (suc w) v u =
    value_from_bits_of w v (u * 2 + v / 2 ^ w % 2)
    ∙ ap (λ (x : ℕ). x + v % 2 ^ w) (add-mul (u * 2) (v / 2 ^ w % 2) (2 ^ w) ∙ ap (λ (x : ℕ). x + v / 2 ^ w % 2 * 2 ^ w) (mul_assoc u 2 (2 ^ w) ∙ ap (λ (x : ℕ). u * x) (sym (pow-succ' 2 w))))
    ∙ add_assoc (u * 2 ^ suc w) (v / 2 ^ w % 2 * 2 ^ w) (v % 2 ^ w)
    ∙ ap (λ (x : ℕ). u * 2 ^ suc w + x) (sym (mod-pow-add v 1 w) ∙ ap (λ (k : ℕ). v % 2 ^ k) one_more)
  where
    one_more : 1 + w ≡ suc w
    one_more = omega arith

pub value_of_bits_of : (w v : ℕ) → value_of (bits_of w v) ≡ v % 2 ^ w
unfolding value_of
value_of_bits_of w v = value_from_bits_of w v 0 ∙ ap (λ (x : ℕ). x + v % 2 ^ w) (zero-mul (2 ^ w)) ∙ zero-add (v % 2 ^ w)

abbrev pub AllBits : List ℕ → Type 0
AllBits [] = Unit {0}
AllBits (b ∷ bits) = (b < 2) × AllBits bits

pub bits_bits_of : (w v : ℕ) → AllBits (bits_of w v)
unfolding bits_of
bits_bits_of zero v = tt
bits_bits_of (suc w) v = (mod-lt (v / 2 ^ w) (pow_pos 1), bits_bits_of w v)

pub bits_append : (a b : List ℕ) → AllBits a → AllBits b → AllBits (a ++ b)
bits_append [] b p q = q
bits_append (x ∷ a) b p q = (p.0, bits_append a b p.1 q)

pub bits_take : (k : ℕ) (a : List ℕ) → AllBits a → AllBits (take k a)
bits_take zero a p = tt
bits_take (suc k) [] p = tt
bits_take (suc k) (x ∷ a) p = (p.0, bits_take k a p.1)

pub bits_drop : (k : ℕ) (a : List ℕ) → AllBits a → AllBits (drop k a)
bits_drop zero a p = p
bits_drop (suc k) [] p = tt
bits_drop (suc k) (x ∷ a) p = bits_drop k a p.1

-- the number from v on is v shifted, with the rest behind it
value_from_rest : (v : ℕ) (bits : List ℕ) → value_from v bits ≡ v * 2 ^ length bits + value_of bits
unfolding value_from value_of
value_from_rest v [] = sym (add-zero (v * 1) ∙ mul-one v)
value_from_rest v (b ∷ bits) =
    value_from_rest (v * 2 + b) bits
    ∙ ap (λ (x : ℕ). x + value_from 0 bits) (add-mul (v * 2) b (2 ^ length bits) ∙ ap (λ (x : ℕ). x + b * 2 ^ length bits) (mul_assoc v 2 (2 ^ length bits) ∙ ap (λ (x : ℕ). v * x) (sym (pow-succ' 2 (length bits)))))
    ∙ add_assoc (v * 2 ^ suc (length bits)) (b * 2 ^ length bits) (value_from 0 bits)
    ∙ ap (λ (x : ℕ). v * 2 ^ suc (length bits) + x) (sym (value_from_rest (0 * 2 + b) bits ∙ ap (λ (x : ℕ). x * 2 ^ length bits + value_from 0 bits) (zero-add b)))

value_of_cons : (b : ℕ) (bits : List ℕ) → value_of (b ∷ bits) ≡ b * 2 ^ length bits + value_of bits
unfolding value_from value_of
value_of_cons b bits = value_from_rest (0 * 2 + b) bits ∙ ap (λ (x : ℕ). x * 2 ^ length bits + value_from 0 bits) (zero-add b)

pub value_of_lt : (bits : List ℕ) → AllBits bits → value_of bits < 2 ^ length bits
unfolding value_of value_from
value_of_lt [] p = lit< tt
value_of_lt (b ∷ bits) p =
    subst (λ (x : ℕ). value_of (b ∷ bits) < x) (sym (pow-succ' 2 (length bits)))
    (subst (λ (x : ℕ). x < 2 * 2 ^ length bits) (sym (value_of_cons b bits)) (digits_lt p.0 (value_of_lt bits p.1)))

bits_of_one : (b : ℕ) → b < 2 → bits_of 1 b ≡ b ∷ []
unfolding bits_of
bits_of_one b h = ap (λ (x : ℕ). x ∷ []) (ap (λ (x : ℕ). x % 2) (div-one b) ∙ mod-eq_of_lt h)

pub bits_of_value_of : (bits : List ℕ) → AllBits bits → bits_of (length bits) (value_of bits) ≡ bits
unfolding bits_of
bits_of_value_of [] p = refl
bits_of_value_of (b ∷ bits) p =
    let e : suc (length bits) ≡ 1 + length bits = omega arith in
    ap₂ bits_of e (value_of_cons b bits)
    ∙ bits_of_join 1 (length bits) b (value_of bits) (value_of_lt bits p.1)
    ∙ ap₂ (λ (u v : List ℕ). u ++ v) (bits_of_one b p.0) (bits_of_value_of bits p.1)

pub length_string_of : (s : List ℕ) → length (string_of s) ≡ length s * 8
unfolding string_of
length_string_of [] = refl
length_string_of (b ∷ s) = length-append (bits_of 8 b) (string_of s) ∙ ap₂ ◌+◌ (length_bits_of 8 b) (length_string_of s) ∙ sym (omega arith)

pub bits_string_of : (s : List ℕ) → AllBits (string_of s)
unfolding string_of
bits_string_of [] = tt
bits_string_of (b ∷ s) = bits_append (bits_of 8 b) (string_of s) (bits_bits_of 8 b) (bits_string_of s)

pub drop_string_of : (i : ℕ) (s : List ℕ) → drop (i * 8) (string_of s) ≡ string_of (drop i s)
unfolding string_of
drop_string_of zero s = refl
drop_string_of (suc i) [] = drop-nil (suc i * 8)
drop_string_of (suc i) (b ∷ s) =
    let e : suc i * 8 ≡ 8 + i * 8 = omega arith in
    ap (λ (k : ℕ). drop k (bits_of 8 b ++ string_of s)) (e ∙ ap (λ (k : ℕ). k + i * 8) (sym (length_bits_of 8 b)))
    ∙ drop-append-add (bits_of 8 b) (string_of s) (i * 8)
    ∙ drop_string_of i s

pub bits_of_drop : (o r x : ℕ) → drop o (bits_of (o + r) x) ≡ bits_of r x
bits_of_drop o r x = ap (drop o) (bits_of_split o r x) ∙ drop_at (bits_of o (x / 2 ^ r)) (bits_of r x) o (length_bits_of o (x / 2 ^ r))

pub take_window : (o w r x : ℕ) (rest : List ℕ) → take w (drop o (bits_of (o + (w + r)) x ++ rest)) ≡ bits_of w (x / 2 ^ r)
take_window o w r x rest =
    ap (λ (l : List ℕ). take w (drop o (l ++ rest))) (bits_of_split o (w + r) x)
    ∙ ap (λ (l : List ℕ). take w (drop o l)) (append_assoc (bits_of o (x / 2 ^ (w + r))) (bits_of (w + r) x) rest)
    ∙ ap (take w) (drop_at (bits_of o (x / 2 ^ (w + r))) (bits_of (w + r) x ++ rest) o (length_bits_of o (x / 2 ^ (w + r))))
    ∙ ap (λ (l : List ℕ). take w (l ++ rest)) (bits_of_split w r x)
    ∙ ap (take w) (append_assoc (bits_of w (x / 2 ^ r)) (bits_of r x) rest)
    ∙ take_at (bits_of w (x / 2 ^ r)) (bits_of r x ++ rest) w (length_bits_of w (x / 2 ^ r))

pub drop_at_byte : (s : List ℕ) (i o : ℕ) → i < length s → drop (i * 8 + o) (string_of s) ≡ drop o (bits_of 8 (get_or s i 0) ++ string_of (drop (suc i) s))
unfolding string_of
drop_at_byte s i o h =
    sym (drop-drop o (i * 8) (string_of s)) ∙ ap (drop o) (drop_string_of i s ∙ ap string_of (drop-cons s i 0 h))
