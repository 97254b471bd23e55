-- Believed: the coefficients of listed circuits, and where they stand in the work (document 01, "Spectra", "Choosing" and "Words of demand 3"; document 02,
-- CR 2).
--
--   Entry            "A signature entry is an index and an output"
--   coef_of          the coefficient of a circuit at an entry
--   readings_of      "A circuit's readings for a list are its coefficients at the list's indices, in list order"
--   family_spectra   the spectra of all listed circuits
--   places           as many numbers as they are
--   indices_of, outputs_of   the indices and the outputs of entries
--   entries_at       the entries that indices and outputs stand for, an index and an output each
use Rattle.std.specs.Prelude.{ℕ, ◌*◌, ◌^◌, List, [], ◌∷◌, map}
use Rattle.bits.specs.Blocks.{block}
use Rattle.tables.specs.Family.{Family}
use Rattle.spectra.specs.Spectrum.{coefficient, spectrum}
use Rattle.spectra.specs.declared.Kind.{Kind}

pub record Entry : Type 0 where
  pub index : ℕ
  pub output : ℕ

abbrev pub coef_of : Kind → ℕ → Family → ℕ → Entry → ℕ
coef_of kind k F c e = coefficient kind F.inputs k (F.entry c e.output) e.index

abbrev pub readings_of : Kind → ℕ → Family → List Entry → ℕ → List ℕ
readings_of kind k F list c = map (coef_of kind k F c) list

-- "Work place ((c × outputs) + output) × N + j holds a coefficient": circuit after circuit, and output after output
abbrev pub family_spectra : Kind → ℕ → Family → List ℕ
family_spectra kind k F = block F.circuits (λ c. block F.outputs (λ o. spectrum kind F.inputs k (F.entry c o)))

-- "and 10 follows that size"
abbrev pub places : Family → ℕ
places F = F.circuits * F.outputs * 2 ^ F.inputs

abbrev pub indices_of : List Entry → List ℕ
indices_of list = map (λ (e : Entry). e.index) list

abbrev pub outputs_of : List Entry → List ℕ
outputs_of list = map (λ (e : Entry). e.output) list

-- as far as both lists go
unfoldable pub entries_at : List ℕ → List ℕ → List Entry
entries_at [] outputs = []
entries_at (i ∷ indices) [] = []
entries_at (i ∷ indices) (o ∷ outputs) = record { index = i; output = o } ∷ entries_at indices outputs
