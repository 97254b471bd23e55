-- Believed: undoing in document 01's words ("Spectra", "Refusal by operation"), with no word of how a table is found. `undone_of` computes, and is
-- what the contract of `spectra::undo` says of the code; `undoing` in proofs/Undoing.antt shows that it is what is said here.
--
--   IsTable        a table of n inputs
--   SameTable      two tables are one
--   HasSpectrum    a table has this spectrum
--   OnlyTable      and no other has it
--   NotSpectrum    14
--   Undone         what undoing gives for a valid number of inputs and a valid polarity
--   Undoes         and with 2 and 13
--   Undoing        for whatever is given, and whatever room is lent
use Rattle.std.specs.Prelude.{ℕ, ◌^◌, ◌≤◌, ◌<◌, ◌≡◌, true, false, List, ◌⊎◌, length}
use Rattle.bits.specs.Answer.Answer.{gives, refused}
use Rattle.bits.specs.Packed.{packed}
use Rattle.bits.specs.Sizes.{table_bytes}
use Rattle.job.specs.Check.{inputs_ok}
use Rattle.spectra.specs.Operations.{polarity_ok, undone_of}
use Rattle.spectra.specs.Spectrum.{spectrum}
use Rattle.spectra.specs.declared.Kind.{Kind}

-- N entries, each 0 or 1, "with N = 2 to the power n"
abbrev pub IsTable : ℕ → (ℕ → ℕ) → Type 0
IsTable n t = (m : ℕ) → m < 2 ^ n → t m < 2

abbrev pub SameTable : ℕ → (ℕ → ℕ) → (ℕ → ℕ) → Type 0
SameTable n t u = (m : ℕ) → m < 2 ^ n → t m ≡ u m

abbrev pub HasSpectrum : Kind → ℕ → ℕ → List ℕ → (ℕ → ℕ) → Type 0
HasSpectrum kind n k numbers t = IsTable n t × (spectrum kind n k t ≡ numbers)

-- "that table": there is no other
abbrev pub OnlyTable : Kind → ℕ → ℕ → List ℕ → (ℕ → ℕ) → Type 0
OnlyTable kind n k numbers t = HasSpectrum kind n k numbers t × ((u : ℕ → ℕ) → HasSpectrum kind n k numbers u → SameTable n u t)

-- "not exactly N numbers or no table has this spectrum"
abbrev pub NotSpectrum : Kind → ℕ → ℕ → List ℕ → Type 0
NotSpectrum kind n k numbers = (length numbers ≡ 2 ^ n → ⊥) ⊎ ((t : ℕ → ℕ) → HasSpectrum kind n k numbers t → ⊥)

pub record Undone (n : ℕ) (numbers : List ℕ) (kind : Kind) (k room : ℕ) : Type 0 where
  -- "14, not exactly N numbers or no table has this spectrum": exactly then, however much room is lent
  pub none_if : NotSpectrum kind n k numbers → undone_of n numbers kind k room ≡ refused 14
  pub none_only : undone_of n numbers kind k room ≡ refused 14 → NotSpectrum kind n k numbers
  -- "Undoing accepts exactly the spectra of some table": in every other case a table has this spectrum, the only one
  pub otherwise : (NotSpectrum kind n k numbers → ⊥) → (t : ℕ → ℕ) × OnlyTable kind n k numbers t
  -- "and returns that table", packed; "table, spectrum and undoing give success alone"
  pub returned : (t : ℕ → ℕ) → HasSpectrum kind n k numbers t → table_bytes n ≤ room
      → undone_of n numbers kind k room ≡ gives (record { value = tt; filled = packed (2 ^ n) t })
  -- "10, the lent memory is too short": it has fewer than "(N+7) div 8 bytes"
  pub short : (t : ℕ → ℕ) → HasSpectrum kind n k numbers t → room < table_bytes n → undone_of n numbers kind k room ≡ refused 10

-- "Undoing a spectrum: 2; 13; 14, not exactly N numbers or no table has this spectrum; 10."
pub record Undoes (n : ℕ) (numbers : List ℕ) (kind : Kind) (k room : ℕ) : Type 0 where
  -- "2, n isn't 1 to 8"
  pub inputs : inputs_ok n ≡ false → undone_of n numbers kind k room ≡ refused 2
  -- "13, polarity not below N"
  pub polarity : inputs_ok n ≡ true → polarity_ok n k ≡ false → undone_of n numbers kind k room ≡ refused 13
  pub valid : inputs_ok n ≡ true → polarity_ok n k ≡ true → Undone n numbers kind k room

abbrev pub Undoing : Type 0
Undoing = (n : ℕ) (numbers : List ℕ) (kind : Kind) (k room : ℕ) → Undoes n numbers kind k room
