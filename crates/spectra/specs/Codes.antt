-- Kept by the code: an entry as one number, the place of its coefficient among those of a circuit.
--
--   code_of    the number of an entry, for so many coefficients an output
--   codes_of   those of entries
use Rattle.std.specs.Prelude.{ℕ, ◌+◌, ◌*◌, List, map}
use Rattle.spectra.specs.Listed.{Entry}

abbrev pub code_of : ℕ → Entry → ℕ
code_of size e = e.output * size + e.index

abbrev pub codes_of : ℕ → List Entry → List ℕ
codes_of size list = map (code_of size) list
