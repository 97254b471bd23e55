-- Comparing numbers read at entries with readings, as the code does it: Comparing (spectra/proofs/Recovery.antt) by the readings' length.
--
--   compared_none, compared_stop, compared_more, compared_all   its start, its ways out and its step
use Prim.Native.Nat.{ℕ, ◌+◌, ◌*◌, ◌≤◌, ◌<◌}
use mathlib.Core.Path.{◌≡◌, sym, subst, ◌∙◌}
use mathlib.Core.Bool.{true, false}
use mathlib.Core.List.{List}
use lib.ListN.{length, get_or}
use Rattle.spectra.specs.Listed.{entries_at}
use Rattle.spectra.specs.Operations.{same_numbers}
use Rattle.spectra.proofs.Recovery.{Comparing, comparing_none, comparing_stop, comparing_more, comparing_all}
use Rattle.locating.specs.Scanning.{numbers_at, Within}
use Rattle.locating.proofs.Indices.{numbers_at_lem, numbers_length}

module _ (work : List ℕ) {size start : ℕ} {indices outputs : List ℕ} (r : Within start size indices outputs (length work)) where
  abbrev numbers : List ℕ
  numbers = numbers_at work start size (entries_at indices outputs)

  long : length numbers ≡ length indices
  long = numbers_length work start size indices outputs r.paired

  module _ (readings : List ℕ) (indexed : length indices ≡ length readings) where
    pub compared_none : Comparing numbers readings 0
    compared_none = comparing_none (long ∙ indexed)

    inside : {i : ℕ} → i < length readings → i < length numbers
    inside {i} h = subst (λ (x : ℕ). i < x) (sym (long ∙ indexed)) h

    module _ {i : ℕ} (h : i < length readings) (w : Comparing numbers readings i) where
      -- number i, as the code reads it
      abbrev number : ℕ
      number = get_or work (start + (get_or outputs i 0 * size + get_or indices i 0)) 0

      read : number ≡ get_or numbers i 0
      read = sym (numbers_at_lem work start size indices outputs r.paired i (subst (λ (x : ℕ). i < x) (sym indexed) h))

      pub compared_stop : (number ≡ get_or readings i 0 → ⊥) → false ≡ same_numbers numbers readings
      compared_stop d = comparing_stop w (inside h) (λ e. d (read ∙ e))

      pub compared_more : number ≡ get_or readings i 0 → Comparing numbers readings (i + 1)
      compared_more e = comparing_more w (inside h) (sym read ∙ e)

    pub compared_all : {i : ℕ} → Comparing numbers readings i → length readings ≤ i → true ≡ same_numbers numbers readings
    compared_all {i} w h = comparing_all w (subst (λ (x : ℕ). x ≤ i) (sym (long ∙ indexed)) h)
