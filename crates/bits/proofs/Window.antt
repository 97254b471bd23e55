-- A field within two bytes, from the number that they make (specs/Field.antt); a byte past the end is 0.
--
--   two_bytes         the bits of two bytes in turn are those of the number that they make
--   take_before       bits of a string do not depend on what stands behind it
--   drop_two          the string from bit o of byte i on, where two bytes stand
--   window_zeros      zeros behind the bytes do not change the number
--   value_of_window   the field's value, from the number
use Prim.Native.Nat.{ℕ, suc, ◌+◌, ◌*◌, ◌-◌, ◌/◌, ◌%◌, ◌^◌, ◌≤◌, ◌<◌}
use mathlib.Core.Path.{◌≡◌, sym, ap, ap₂, ◌∙◌, subst}
use mathlib.Core.List.{List, ◌++◌, append_assoc}
use native.Mathlib.Omega.{arith}
use lib.ListN.{length, get_or, take, drop, replicate, length-append, length-drop}
use lib.Seq.{take-append-le, drop-append-le, drop-cons}
use Rattle.bits.specs.Bits.{bits_of, string_of, value_of}
use Rattle.bits.specs.Field.{window_at}
use Rattle.bits.proofs.Bits.{bits_of_join, drop_at_byte, length_string_of, take_window, value_of_bits_of}
use Rattle.bits.proofs.Bytes.{string_of_append}
use Rattle.bits.proofs.Packed.{Bytes, get_or_zeros}

two_bytes : (x y : ℕ) (rest : List ℕ) → y < 256 → bits_of 8 x ++ (bits_of 8 y ++ rest) ≡ bits_of 16 (x * 256 + y) ++ rest
two_bytes x y rest h =
    sym (append_assoc (bits_of 8 x) (bits_of 8 y) rest) ∙ ap (λ (l : List ℕ). l ++ rest) (sym (bits_of_join 8 8 x y h))

take_before : (w k : ℕ) (bits behind : List ℕ) → k + w ≤ length bits → take w (drop k (bits ++ behind)) ≡ take w (drop k bits)
take_before w k bits behind h =
    let inside : k ≤ length bits = omega arith in
    let left : w ≤ length bits - k = omega arith in
    ap (take w) (drop-append-le k bits behind inside)
    ∙ take-append-le w (drop k bits) behind (subst (λ (n : ℕ). w ≤ n) (sym (length-drop k bits)) left)

string_of_cons : (s : List ℕ) (i : ℕ) → i < length s → string_of (drop i s) ≡ bits_of 8 (get_or s i 0) ++ string_of (drop (i + 1) s)
unfolding string_of
string_of_cons s i h =
    let next : suc i ≡ i + 1 = omega arith in
    ap string_of (drop-cons s i 0 h) ∙ ap (λ (k : ℕ). bits_of 8 (get_or s i 0) ++ string_of (drop k s)) next

drop_two : (s : List ℕ) (i o : ℕ) → Bytes s → i + 1 < length s
    → drop (i * 8 + o) (string_of s) ≡ drop o (bits_of 16 (window_at s i) ++ string_of (drop (i + 1 + 1) s))
unfolding window_at
drop_two s i o bytes h =
    let first : i < length s = omega arith in
    let next : suc i ≡ i + 1 = omega arith in
    drop_at_byte s i o first
    ∙ ap (drop o)
    (ap (λ (l : List ℕ). bits_of 8 (get_or s i 0) ++ l) (ap (λ (k : ℕ). string_of (drop k s)) next ∙ string_of_cons s (i + 1) h)
    ∙ two_bytes (get_or s i 0) (get_or s (i + 1) 0) (string_of (drop (i + 1 + 1) s)) (bytes (i + 1)))

window_zeros : (s : List ℕ) (n i : ℕ) → window_at (s ++ replicate n 0) i ≡ window_at s i
unfolding window_at
window_zeros s n i = rw (get_or_zeros s n i, get_or_zeros s n (i + 1))

pub value_of_window : (s : List ℕ) (i o w : ℕ) → Bytes s → i * 8 + o + w ≤ length s * 8 → o + w ≤ 16
    → value_of (take w (drop (i * 8 + o) (string_of s))) ≡ window_at s i / 2 ^ (16 - (o + w)) % 2 ^ w
value_of_window s i o w bytes inside h =
    ap value_of
    (sym (take_before w (i * 8 + o) (string_of s) (string_of zeros) (subst (λ (n : ℕ). i * 8 + o + w ≤ n) (sym (length_string_of s)) inside))
    ∙ ap (λ (l : List ℕ). take w (drop (i * 8 + o) l)) (sym (string_of_append s zeros))
    ∙ ap (take w) (drop_two padded i o (λ k. subst (λ (x : ℕ). x < 256) (sym (same k)) (bytes k)) long)
    ∙ ap (λ (l : List ℕ). take w (drop o (l ++ behind))) (ap₂ bits_of split (window_zeros s 2 i))
    ∙ take_window o w (16 - (o + w)) (window_at s i) behind)
    ∙ value_of_bits_of w (window_at s i / 2 ^ (16 - (o + w)))
  where
    zeros : List ℕ
    zeros = replicate 2 0

    padded : List ℕ
    padded = s ++ zeros

    behind : List ℕ
    behind = string_of (drop (i + 1 + 1) padded)

    same : (k : ℕ) → get_or padded k 0 ≡ get_or s k 0
    same k = get_or_zeros s 2 k

    long : i + 1 < length padded
    long = omega (arith, length-append s zeros)

    split : 16 ≡ o + (w + (16 - (o + w)))
    split = omega arith
