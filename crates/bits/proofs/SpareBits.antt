-- Laws of a string of bits and the bytes that hold it (specs/Bits.antt), and of spare bits (specs/Field.antt).
--
--   spare_count          how many spare bits fill up the last byte of a string of so many bits
--   string_of_bytes_of   the bytes of a string of bits hold that string, then its spare bits, which are zeros
--   bytes_bytes_of       the bytes of a string of bits are below 256
--   string_of_same       bytes that hold the same string are the same
--   zeros_spare          fewer than eight zeros are spare bits alone
--   spare_zeros          spare bits alone are fewer than eight zeros
--   bytes_of_spare       bytes that hold a string of bits and then spare bits alone are the bytes of that string
use Prim.Native.Nat.{ℕ, zero, suc, ◌+◌, ◌-◌, ◌*◌, ◌/◌, ◌%◌, ◌^◌, ◌≤◌, ◌<◌}
use native.Mathlib.Nat.{mod-eq_of_lt, zero-div, not-suc-le-zero, le_of_suc-le-suc}
use native.Mathlib.Omega.{arith}
use mathlib.Core.Path.{◌≡◌, refl, sym, ap, ap₂, ◌∙◌, subst}
use mathlib.Core.Bool.{true}
use mathlib.Core.List.{List, [], ◌∷◌, ◌++◌, append_assoc}
use mathlib.Core.Logic.{⊎_elim}
use borrow.Author.Tests.{lt-ltb, ltb-true, eqb-true}
use lib.Dec.{ltb, eqb}
use lib.ListN.{length, take, drop, replicate, length-append, length-take, length-drop, length-replicate, take-append-drop, drop_of_length-le, replicate-append-replicate}
use lib.Seq.{take_at, drop_at, take-append-le, take-append-add}
use Rattle.bits.specs.Bits.{bits_of, value_from, value_of, string_of, bytes_to, bytes_of}
use Rattle.bits.specs.Field.{spare_only}
use Rattle.bits.proofs.Below.{lt_or_ge}
use Rattle.bits.proofs.Bits.{AllBits, bits_append, bits_take, bits_drop, bits_of_value_of, length_bits_of, length_string_of, value_of_bits_of, value_of_lt}
use Rattle.bits.proofs.Packed.{Bytes}
use Rattle.bits.proofs.Tests.{and_l, and_r, and_i}

take_zeros : (i n : ℕ) → i ≤ n → ◌≡◌ {A = List ℕ} (take i (replicate n 0)) (replicate i 0)
take_zeros zero n h = refl
take_zeros (suc i) zero h = absurd (not-suc-le-zero h)
take_zeros (suc i) (suc n) h = ap (λ (l : List ℕ). 0 ∷ l) (take_zeros i n (le_of_suc-le-suc h))

bits_zeros : (n : ℕ) → AllBits (replicate n 0)
bits_zeros zero = tt
bits_zeros (suc n) = (omega arith, bits_zeros n)

-- the eight bits that go into the next byte
next : List ℕ → List ℕ
next bits = take 8 (bits ++ replicate 8 0)

length_next : (bits : List ℕ) → length (next bits) ≡ 8
unfolding next
length_next bits = simp (length-take, length-append) (omega arith)

bits_next : (bits : List ℕ) → AllBits bits → AllBits (next bits)
unfolding next
bits_next bits h = bits_take 8 (bits ++ replicate 8 0) (bits_append bits (replicate 8 0) h (bits_zeros 8))

bits_of_next : (bits : List ℕ) → AllBits bits → bits_of 8 (value_of (next bits)) ≡ next bits
bits_of_next bits h = ap (λ (k : ℕ). bits_of k (value_of (next bits))) (sym (length_next bits)) ∙ bits_of_value_of (next bits) (bits_next bits h)

next_long : (bits : List ℕ) (m : ℕ) → 8 ≤ length bits → next bits ++ (drop 8 bits ++ replicate m 0) ≡ bits ++ replicate m 0
unfolding next
next_long bits m h =
    ap (λ (x : List ℕ). x ++ (drop 8 bits ++ replicate m 0)) (take-append-le 8 bits (replicate 8 0) h)
    ∙ sym (append_assoc (take 8 bits) (drop 8 bits) (replicate m 0))
    ∙ ap (λ (x : List ℕ). x ++ replicate m 0) (take-append-drop 8 bits)

next_short : (bits : List ℕ) (m : ℕ) → length bits < 8 → next bits ++ (drop 8 bits ++ replicate m 0) ≡ bits ++ replicate (8 - length bits + m) 0
unfolding next
next_short bits m h =
    let e : 8 ≡ length bits + (8 - length bits) = omega arith in
    let l : length bits ≤ 8 = omega arith in
    let k : 8 - length bits ≤ 8 = omega arith in
    ap₂ (λ (x y : List ℕ). x ++ (y ++ replicate m 0))
    (ap (λ (k : ℕ). take k (bits ++ replicate 8 0)) e ∙ take-append-add bits (replicate 8 0) (8 - length bits) ∙ ap (λ (x : List ℕ). bits ++ x) (take_zeros (8 - length bits) 8 k))
    (drop_of_length-le bits l)
    ∙ append_assoc bits (replicate (8 - length bits) 0) (replicate m 0)
    ∙ ap (λ (x : List ℕ). bits ++ x) (replicate-append-replicate (8 - length bits) m 0)

string_of_bytes_to : (n : ℕ) (bits : List ℕ) → AllBits bits → length bits ≤ n * 8 → string_of (bytes_to n bits) ≡ bits ++ replicate (n * 8 - length bits) 0
unfolding string_of bytes_to next
string_of_bytes_to zero [] h room = refl
string_of_bytes_to zero (b ∷ bits) h room = absurd (omega arith)
string_of_bytes_to (suc n) bits h room =
    ap₂ (λ (x y : List ℕ). x ++ y) (bits_of_next bits h)
    (string_of_bytes_to n (drop 8 bits) (bits_drop 8 bits h) (simp length-drop (omega arith)))
    ∙ ap (λ (k : ℕ). next bits ++ (drop 8 bits ++ replicate (n * 8 - k) 0)) (length-drop 8 bits)
    ∙ ⊎_elim
    (λ l. let e : 8 - length bits + (n * 8 - (length bits - 8)) ≡ suc n * 8 - length bits = omega arith in
    next_short bits (n * 8 - (length bits - 8)) l ∙ ap (λ (k : ℕ). bits ++ replicate k 0) e)
    (λ l. let e : n * 8 - (length bits - 8) ≡ suc n * 8 - length bits = omega arith in
    next_long bits (n * 8 - (length bits - 8)) l ∙ ap (λ (k : ℕ). bits ++ replicate k 0) e)
    (lt_or_ge (length bits) 8)

abbrev pub spare_count : ℕ → ℕ
spare_count n = (n + 7) / 8 * 8 - n

pub string_of_bytes_of : (bits : List ℕ) → AllBits bits → string_of (bytes_of bits) ≡ bits ++ replicate (spare_count (length bits)) 0
unfolding bytes_of
string_of_bytes_of bits h = string_of_bytes_to ((length bits + 7) / 8) bits h (omega arith)

bytes_bytes_to : (n : ℕ) (bits : List ℕ) → AllBits bits → Bytes (bytes_to n bits)
unfolding bytes_to next
bytes_bytes_to zero bits h i = omega arith
bytes_bytes_to (suc n) bits h zero = subst (λ (k : ℕ). value_of (next bits) < 2 ^ k) (length_next bits) (value_of_lt (next bits) (bits_next bits h))
bytes_bytes_to (suc n) bits h (suc i) = bytes_bytes_to n (drop 8 bits) (bits_drop 8 bits h) i

pub bytes_bytes_of : (bits : List ℕ) → AllBits bits → Bytes (bytes_of bits)
unfolding bytes_of
bytes_bytes_of bits h = bytes_bytes_to ((length bits + 7) / 8) bits h

byte_same : (a b : ℕ) → a < 256 → b < 256 → bits_of 8 a ≡ bits_of 8 b → a ≡ b
byte_same a b ha hb e = sym (value_of_bits_of 8 a ∙ mod-eq_of_lt ha) ∙ ap value_of e ∙ (value_of_bits_of 8 b ∙ mod-eq_of_lt hb)

pub string_of_same : (s t : List ℕ) → Bytes s → Bytes t → string_of s ≡ string_of t → s ≡ t
unfolding string_of
string_of_same [] [] hs ht e = refl
string_of_same [] (b ∷ t) hs ht e = let l = ap length e ∙ length_string_of (b ∷ t) in absurd (omega arith)
string_of_same (a ∷ s) [] hs ht e = let l = sym (ap length e) ∙ length_string_of (a ∷ s) in absurd (omega arith)
string_of_same (a ∷ s) (b ∷ t) hs ht e =
    ap₂ (λ (x : ℕ) (l : List ℕ). x ∷ l)
    (byte_same a b (hs 0) (ht 0)
    (sym (take_at (bits_of 8 a) (string_of s) 8 (length_bits_of 8 a)) ∙ ap (take 8) e ∙ take_at (bits_of 8 b) (string_of t) 8 (length_bits_of 8 b)))
    (string_of_same s t (λ i. hs (suc i)) (λ i. ht (suc i))
    (sym (drop_at (bits_of 8 a) (string_of s) 8 (length_bits_of 8 a)) ∙ ap (drop 8) e ∙ drop_at (bits_of 8 b) (string_of t) 8 (length_bits_of 8 b)))

value_of_zeros : (n : ℕ) → value_of (replicate n 0) ≡ 0
unfolding value_of value_from
value_of_zeros zero = refl
value_of_zeros (suc n) = value_of_zeros n

pub zeros_spare : (n : ℕ) → n < 8 → spare_only (replicate n 0) ≡ true
unfolding spare_only
zeros_spare n h =
    and_i (ap (λ (k : ℕ). ltb k 8) (length-replicate n 0) ∙ lt-ltb n 8 h) (ap (λ (v : ℕ). eqb v 0) (value_of_zeros n))

bits_of_zero : (w : ℕ) → bits_of w 0 ≡ replicate w 0
unfolding bits_of
bits_of_zero zero = refl
bits_of_zero (suc w) = ap₂ (λ (x : ℕ) (l : List ℕ). x % 2 ∷ l) (zero-div (2 ^ w)) (bits_of_zero w)

pub spare_zeros : (bits : List ℕ) → AllBits bits → spare_only bits ≡ true → (length bits < 8) × (bits ≡ replicate (length bits) 0)
unfolding spare_only
spare_zeros bits h e = (
  ltb-true (length bits) 8 (and_l (ltb (length bits) 8) (eqb (value_of bits) 0) e),
  sym (bits_of_value_of bits h)
      ∙ ap (bits_of (length bits)) (eqb-true (value_of bits) 0 (and_r (ltb (length bits) 8) (eqb (value_of bits) 0) e))
      ∙ bits_of_zero (length bits),
)

pub bytes_of_spare : (s bits rest : List ℕ) → Bytes s → AllBits bits → AllBits rest → string_of s ≡ bits ++ rest → spare_only rest ≡ true → bytes_of bits ≡ s
bytes_of_spare s bits rest hs hb hr e o =
    let z = spare_zeros rest hr o in
    let few : length rest < 8 = z.0 in
    let long : length s * 8 ≡ length bits + length rest = sym (length_string_of s) ∙ ap length e ∙ length-append bits rest in
    let same : spare_count (length bits) ≡ length rest = omega arith in
    string_of_same (bytes_of bits) s (bytes_bytes_of bits hb) hs
    (string_of_bytes_of bits hb ∙ ap (λ (k : ℕ). bits ++ replicate k 0) same ∙ ap (λ (x : List ℕ). bits ++ x) (sym z.1) ∙ sym e)
