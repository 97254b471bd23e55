-- Kept by the code: the transform as it is made, from the halves of a table, combined (document 01, "Spectra"; source document 001, section 3.6). Its leaf is
-- a table of three inputs in one byte, whose spectrum is the sum of those of its two halves, each with zeros in the place of the other.
--
--   entries_from   the table of the entries from one on
--   Most           every number of a list is at most m
--   combined       the MRM spectrum of a table from those of its two halves
--   all_reduced    numbers as the kind has them
--   byte_entry    entry t mod 8 of a byte, the first its highest bit
--   byte_sums     the MRM spectrum of a byte's eight entries in polarity k, sum by sum
--   half_byte     byte i of those of which one half is 0: sixteen with lower halves that are 0, and then sixteen with upper halves that are 0
--   half_sums     their spectra
--   sum_at        number j of two rows, added
--   Summed        the sums are those for the three lowest bits of the polarity, where there is a leaf
--   Asks          what the transform asks, of so many places of memory and so many bytes of tables
--   LeafAsks      what a leaf asks: what the transform of three inputs does, in some polarity
--   LeafMade      what a leaf makes, in whatever polarity that is
use Rattle.std.specs.Prelude.{ℕ, ◌+◌, ◌≤◌, ◌-◌, ◌*◌, ◌/◌, ◌%◌, ◌^◌, ◌<◌, List, ◌++◌, [], ◌∷◌, map, length, get_or, ◌≡◌}
use Rattle.std.specs.List.{range_with_len}
use Rattle.bits.specs.Packed.{entry, tabulate}
use Rattle.spectra.specs.Spectrum.{reduce, spectrum}
use Rattle.spectra.specs.declared.Kind.{Kind}
use Rattle.std.specs.Int.Bits.{bit_xor}
use Rattle.spectra.specs.declared.Kind.TheVariants.{Mrm}

-- the table of the entries from one on
abbrev pub entries_from : List ℕ → ℕ → ℕ → ℕ
entries_from bytes at m = entry bytes (at + m)

-- past the end of a list stands 0
abbrev pub Most : ℕ → List ℕ → Type 0
Most m numbers = (i : ℕ) → get_or numbers i 0 ≤ m

-- the lower half as it is, and then the sums of both halves
abbrev pub combined : ℕ → List ℕ → List ℕ → List ℕ
combined half lo hi = lo ++ tabulate half (λ i. get_or lo i 0 + get_or hi i 0)

-- the transform works out sums, and the kind comes last
abbrev pub all_reduced : Kind → List ℕ → List ℕ
all_reduced kind numbers = tabulate (length numbers) (λ j. reduce kind (get_or numbers j 0))

abbrev pub byte_entry : ℕ → ℕ → ℕ
byte_entry byte t = byte / 2 ^ (7 - t % 8) % 2

-- the eight sums of eight numbers
abbrev pub sums_of : ℕ → ℕ → ℕ → ℕ → ℕ → ℕ → ℕ → ℕ → List ℕ
sums_of a b c d e f g h =
    a ∷ (a + b) ∷ (a + c) ∷ (a + b + (c + d)) ∷ (a + e) ∷ (a + b + (e + f)) ∷ (a + c + (e + g)) ∷ (a + b + (c + d) + (e + f + (g + h))) ∷ []

abbrev pub byte_sums : ℕ → ℕ → List ℕ
byte_sums k byte =
    sums_of (byte_entry byte k) (byte_entry byte (bit_xor 1 k)) (byte_entry byte (bit_xor 2 k)) (byte_entry byte (bit_xor 3 k))
    (byte_entry byte (bit_xor 4 k)) (byte_entry byte (bit_xor 5 k)) (byte_entry byte (bit_xor 6 k)) (byte_entry byte (bit_xor 7 k))

abbrev pub half_byte : ℕ → ℕ
half_byte i = i % 16 * (16 - 15 * (i / 16))

unfoldable pub half_sums : ℕ → List (List ℕ)
half_sums k = map (λ i. byte_sums k (half_byte i)) (range_with_len 0 32)

-- number j of two rows, added
abbrev pub sum_at : List ℕ → List ℕ → ℕ → ℕ
sum_at x y j = get_or x j 0 + get_or y j 0

abbrev pub Summed : ℕ → ℕ → List (List ℕ) → Type 0
Summed n k sums = 3 ≤ n → sums ≡ half_sums (k % 8)

pub record Asks (places : ℕ) (sums : List (List ℕ)) (len at n k : ℕ) : Type 0 where
  pub few : n ≤ 15
  pub room : places ≡ 2 ^ n
  pub polarity : k < 2 ^ n
  pub within : at + 2 ^ n ≤ 8 * len
  pub fits : at + 2 ^ n < 2 ^ 64
  pub whole : 3 ≤ n → at % 8 ≡ 0
  pub summed : Summed n k sums

pub record LeafAsks (places : ℕ) (sums : List (List ℕ)) (len at : ℕ) : Type 0 where
  pub polarity : ℕ
  pub asks : Asks places sums len at 3 polarity

abbrev pub LeafMade : ℕ → List (List ℕ) → List ℕ → ℕ → List ℕ → Type 0
LeafMade places sums s at out = (k : ℕ) → Asks places sums (length s) at 3 k → out ≡ spectrum Mrm 3 k (entries_from s at)
