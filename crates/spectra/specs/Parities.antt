-- Kept by the code: parities of numbers as a packed table (document 01, "Spectra").
--
--   parity_at    entry m: the parity of number (m xor k)
--   Closed       an index below a size stays below it, xor k
--   Packs        a table that has room for the parities of the numbers
--   Lent         what undoing in lent memory asks of it, of the numbers and of the polarity
use Rattle.std.specs.Prelude.{ℕ, ◌+◌, ◌/◌, ◌%◌, ◌^◌, ◌<◌, ◌≡◌, true, List, length}
use Rattle.std.specs.Int.Bits.{bit_xor}
use Rattle.job.specs.Check.{inputs_ok}
use Rattle.bits.specs.Sizes.{table_bytes}
use Rattle.spectra.specs.Operations.{at}

abbrev pub parity_at : List ℕ → ℕ → ℕ → ℕ
parity_at numbers k m = at numbers (bit_xor m k) % 2

abbrev pub Closed : ℕ → ℕ → Type 0
Closed size k = (m : ℕ) → m < size → bit_xor m k < size

pub record Packs (k : ℕ) (numbers table : List ℕ) : Type 0 where
  pub closed : Closed (length numbers) k
  pub few : length numbers < 2 ^ 63
  pub room : length table ≡ (length numbers + 7) / 8

pub record Lent (n k : ℕ) (numbers table sums : List ℕ) : Type 0 where
  pub inputs : inputs_ok n ≡ true
  pub polarity : k < 2 ^ n
  pub count : length numbers ≡ 2 ^ n
  pub bytes : length table ≡ table_bytes n
  pub places : length sums ≡ 2 ^ n
