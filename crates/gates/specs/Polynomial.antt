-- Kept by the code: the gate step over packed bytes, a gate's answers as a polynomial over xor and and.
--
--   mask_of           the bits of each of its bytes that are entries
--   step              eight answers, for two bytes of eight entries each
--   combined          byte i of a table of answers, for the tables at two places
--   polynomial_of     the polynomial of a row of four answers, over the bits of a mask
--   kind_polynomial   the polynomial of a kind of gate
--   pattern_of        every byte of the table of one of the first three inputs, spare bits not yet cut off
--   alternating       byte i of the table of an input from the fourth on: eight copies of a bit of i
use Rattle.std.specs.Prelude.{ℕ, ◌+◌, ◌*◌, ◌/◌, ◌%◌, ◌^◌, List, [], ◌∷◌, get_or}
use Rattle.std.specs.Int.Bits.{bit_and, bit_xor}
use Rattle.gates.specs.Answers.{answers}
use Rattle.gates.specs.declared.Polynomial.{Polynomial}

-- the bits of a table's bytes that are no spare bits: one, two and four of n 0, 1 and 2, else all
abbrev pub mask_of : ℕ → ℕ
mask_of n = get_or (128 ∷ 192 ∷ 240 ∷ []) n 255

abbrev pub step : Polynomial → ℕ → ℕ → ℕ
step f x y = bit_xor (bit_xor (bit_xor f.constant (bit_and f.first x)) (bit_and f.second y)) (bit_and f.both (bit_and x y))

abbrev pub combined : Polynomial → ℕ → ℕ → List ℕ → ℕ → ℕ
combined f x y rows i = step f (get_or rows (x + i) 0) (get_or rows (y + i) 0)

-- 01010101, 00110011 and 00001111
abbrev pub pattern_of : ℕ → ℕ
pattern_of line = get_or (85 ∷ 51 ∷ []) line 15

abbrev pub alternating : ℕ → ℕ → ℕ
alternating bit i = 255 * (i / 2 ^ bit % 2)

-- the polynomial of a row of four answers, its constants made of bits
unfoldable pub polynomial_with : (ℕ → ℕ) → List ℕ → Polynomial
polynomial_with made row =
    record {
      constant = made (get_or row 0 0);
      first = made (bit_xor (get_or row 0 0) (get_or row 2 0));
      second = made (bit_xor (get_or row 0 0) (get_or row 1 0));
      both = made (bit_xor (bit_xor (get_or row 0 0) (get_or row 1 0)) (bit_xor (get_or row 2 0) (get_or row 3 0)));
    }

unfoldable pub polynomial_of : List ℕ → ℕ → Polynomial
unfolding polynomial_with
polynomial_of row mask = polynomial_with (λ b. bit_and (255 * b) mask) row

abbrev pub kind_polynomial : ℕ → ℕ → Polynomial
kind_polynomial kind mask = polynomial_of (get_or answers kind []) mask
