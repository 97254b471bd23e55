-- Believed: strings of bits and the bytes that hold them (document 01, "Job layout" and the packed tables of "Tables").
--
--   bits_of w v     the w lowest bits of v, most significant first
--   value_of bits   the number that bits give, most significant first
--   string_of s     the string of bits that bytes hold, most significant first in each byte
--   bytes_of bits   the bytes that hold a string of bits, its last byte filled up with zero bits
use Rattle.std.specs.Prelude.{ℕ, zero, suc, ◌+◌, ◌*◌, ◌/◌, ◌%◌, ◌^◌, List, [], ◌∷◌, ◌++◌, length, take, drop, replicate}

unfoldable pub bits_of : ℕ → ℕ → List ℕ
bits_of zero v = []
bits_of (suc w) v = v / 2 ^ w % 2 ∷ bits_of w v

unfoldable pub value_from : ℕ → List ℕ → ℕ
value_from v [] = v
value_from v (b ∷ bits) = value_from (v * 2 + b) bits

unfoldable pub value_of : List ℕ → ℕ
unfolding value_from
value_of bits = value_from 0 bits

unfoldable pub string_of : List ℕ → List ℕ
unfolding bits_of
string_of [] = []
string_of (b ∷ s) = bits_of 8 b ++ string_of s

-- so many bytes from the start of a string; bits past its end are zero
unfoldable pub bytes_to : ℕ → List ℕ → List ℕ
unfolding value_of
bytes_to zero bits = []
bytes_to (suc k) bits = value_of (take 8 (bits ++ replicate 8 0)) ∷ bytes_to k (drop 8 bits)

unfoldable pub bytes_of : List ℕ → List ℕ
unfolding bytes_to
bytes_of bits = bytes_to ((length bits + 7) / 8) bits
