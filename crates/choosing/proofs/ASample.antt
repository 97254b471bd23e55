-- Two small families, by computation (specs/Choosing.antt).
--
--   output_last   entries are looked at by index, then by output
--   ten_first     circuits that are alike are refused with 10 where the work is too short
use mathlib.Core.List.{[], ◌∷◌}
use mathlib.Core.Path.{◌≡◌, refl}
use lib.Count.{ones_in, ones}
use Rattle.bits.specs.Answer.Answer.{refused}
use Rattle.bits.specs.Passing.{passing}
use Rattle.tables.specs.Family.{Family}
use Rattle.spectra.specs.declared.Kind.TheVariants.{Mrm}
use Rattle.method.specs.Method.{some_below, some_pair}
use Rattle.choosing.specs.Choosing.{scan_to, outputs_at, entries_of, scan_entries, chosen_from}
use Rattle.choosing.specs.declared.Purpose.TheVariants.{Isolating}

-- of one input and two outputs
abbrev paired : Family
paired = record { inputs = 1; circuits = 1; outputs = 2; part = λ c. c; entry = λ c o m. 0 }

pub output_last : scan_entries paired
    ≡ record { index = 0; output = 0 } ∷ record { index = 0; output = 1 } ∷ record { index = 1; output = 0 } ∷ record { index = 1; output = 1 } ∷ []
unfolding scan_to passing ones ones_in outputs_at entries_of
output_last = refl

-- of one input, both 0 throughout
abbrev twins : Family
twins = record { inputs = 1; circuits = 2; outputs = 1; part = λ c. c; entry = λ c o m. 0 }

pub ten_first : chosen_from Isolating twins Mrm 0 3 ≡ refused 10
unfolding chosen_from some_pair some_below
ten_first = refl
