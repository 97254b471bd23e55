-- Laws of the bytes that hold a string of bits (specs/Bits.antt).
--
--   length_bytes_of    the number of bytes, the last one filled up
--   string_of_append   the string of two runs of bytes is that of the one, then that of the other
--   bytes_of_byte      eight bits at the front are a byte of their own
--   bytes_of_string    bytes whose string stands at the front are bytes of their own
--   bytes_of_last      fewer than eight bits are one byte, shifted to its top
use Prim.Native.Nat.{ℕ, zero, suc, ◌+◌, ◌*◌, ◌-◌, ◌/◌, ◌%◌, ◌^◌, ◌≤◌, ◌<◌}
use mathlib.Core.Path.{◌≡◌, refl, sym, ap, ap₂, ◌∙◌}
use mathlib.Core.List.{List, [], ◌∷◌, ◌++◌, append_assoc}
use native.Mathlib.Nat.{mod-eq_of_lt, zero-div, add-zero}
use native.Mathlib.Omega.{arith}
use lib.ListN.{length, take, replicate, length-append}
use lib.Pow.{pow_pos, shl_lt}
use lib.Seq.{take_at, drop_at, take-append-add}
use Rattle.bits.specs.Bits.{bits_of, value_of, string_of, bytes_to, bytes_of}
use Rattle.bits.proofs.Bits.{length_bits_of, bits_of_join, value_of_bits_of}
use Rattle.bits.proofs.Packed.{Bytes, length_bytes_to}

pub length_bytes_of : (bits : List ℕ) → length (bytes_of bits) ≡ (length bits + 7) / 8
unfolding bytes_of
length_bytes_of bits = length_bytes_to ((length bits + 7) / 8) bits

pub string_of_append : (s t : List ℕ) → string_of (s ++ t) ≡ string_of s ++ string_of t
unfolding string_of
string_of_append [] t = refl
string_of_append (b ∷ s) t = ap (λ (l : List ℕ). bits_of 8 b ++ l) (string_of_append s t) ∙ sym (append_assoc (bits_of 8 b) (string_of s) (string_of t))

pub bytes_of_byte : (b : ℕ) (rest : List ℕ) → b < 2 ^ 8 → bytes_of (bits_of 8 b ++ rest) ≡ b ∷ bytes_of rest
unfolding bytes_of bytes_to
bytes_of_byte b rest h =
    ap (λ (k : ℕ). bytes_to k (bits_of 8 b ++ rest)) (ap (λ (n : ℕ). (n + 7) / 8) (length-append (bits_of 8 b) rest ∙ ap (λ (n : ℕ). n + length rest) (length_bits_of 8 b)) ∙ one_more)
    ∙ ap₂ (λ (x : ℕ) (l : List ℕ). x ∷ bytes_to ((length rest + 7) / 8) l)
    (ap value_of (ap (take 8) (append_assoc (bits_of 8 b) rest (replicate 8 0)) ∙ take_at (bits_of 8 b) (rest ++ replicate 8 0) 8 (length_bits_of 8 b)) ∙ value_of_bits_of 8 b ∙ mod-eq_of_lt h)
    (drop_at (bits_of 8 b) rest 8 (length_bits_of 8 b))
  where
    one_more : (8 + length rest + 7) / 8 ≡ suc ((length rest + 7) / 8)
    one_more = omega arith

pub bytes_of_string : (s bits : List ℕ) → Bytes s → bytes_of (string_of s ++ bits) ≡ s ++ bytes_of bits
unfolding string_of
bytes_of_string [] bits h = refl
bytes_of_string (b ∷ s) bits h =
    ap bytes_of (append_assoc (bits_of 8 b) (string_of s) bits)
    ∙ bytes_of_byte b (string_of s ++ bits) (h 0)
    ∙ ap (λ (l : List ℕ). b ∷ l) (bytes_of_string s bits (λ i. h (suc i)))

zeros : (w : ℕ) → replicate {A = ℕ} w 0 ≡ bits_of w 0
unfolding bits_of
zeros zero = refl
zeros (suc w) = ap₂ (λ (x : ℕ) (l : List ℕ). x ∷ l) (sym (ap (λ (x : ℕ). x % 2) (zero-div (2 ^ w)))) (zeros w)

take_zeros : (n m : ℕ) → n ≤ m → take {A = ℕ} n (replicate m 0) ≡ replicate n 0
take_zeros zero m h = refl
take_zeros (suc n) zero h = absurd (omega arith)
take_zeros (suc n) (suc m) h = ap (λ (l : List ℕ). 0 ∷ l) (take_zeros n m (omega arith))

pub bytes_of_last : (c v : ℕ) → 0 < c → c < 8 → v < 2 ^ c → bytes_of (bits_of c v) ≡ v * 2 ^ (8 - c) ∷ []
unfolding bytes_of bytes_to
bytes_of_last c v some few fits =
    ap (λ (k : ℕ). bytes_to k (bits_of c v)) (ap (λ (n : ℕ). (n + 7) / 8) (length_bits_of c v) ∙ one)
    ∙ ap (λ (x : ℕ). x ∷ [])
    (ap value_of (eight ∙ sym (bits_of_join c (8 - c) v 0 (pow_pos (8 - c))) ∙ ap₂ bits_of whole (add-zero (v * 2 ^ (8 - c))))
    ∙ value_of_bits_of 8 (v * 2 ^ (8 - c)) ∙ mod-eq_of_lt (rw whole at (shl_lt c (8 - c) fits)))
  where
    one : (c + 7) / 8 ≡ 1
    one = omega arith

    whole : c + (8 - c) ≡ 8
    whole = omega arith

    eight : take 8 (bits_of c v ++ replicate 8 0) ≡ bits_of c v ++ bits_of (8 - c) 0
    eight =
        ap (λ (n : ℕ). take n (bits_of c v ++ replicate 8 0)) (sym (ap (λ (n : ℕ). n + (8 - c)) (length_bits_of c v) ∙ whole))
        ∙ take-append-add (bits_of c v) (replicate 8 0) (8 - c)
        ∙ ap (λ (l : List ℕ). bits_of c v ++ l) (take_zeros (8 - c) 8 (omega arith) ∙ zeros (8 - c))
