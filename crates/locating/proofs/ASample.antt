-- A small family, and circuits that agree, by computation (specs/Locating.antt).
--
--   sixteen_first      a list with an index that is too high is refused with 16, whatever its outputs and its length
--   circuits_counted   of three agreeing circuits, two of which have one part, three are told
use mathlib.Core.Bool.{false}
use mathlib.Core.List.{[], ◌∷◌}
use mathlib.Core.Path.{◌≡◌, refl}
use Rattle.bits.specs.Answer.Answer.{refused}
use Rattle.bits.specs.Bounds.{all_below}
use Rattle.bits.specs.Passing.{passing}
use Rattle.tables.specs.Family.{Family}
use Rattle.tables.specs.Operations.{part_in}
use Rattle.spectra.specs.declared.Kind.TheVariants.{Mrm}
use Rattle.locating.specs.Locating.{each_of, location, prepared_by}
use Rattle.locating.specs.Locating.Location.{several}

-- of one input and one output
abbrev single : Family
single = record { inputs = 1; circuits = 1; outputs = 1; part = λ c. 0; entry = λ c o m. 0 }

-- index 0 of output 1, then index 2 of output 0
pub sixteen_first : prepared_by false single Mrm 0 (0 ∷ 2 ∷ []) (1 ∷ 0 ∷ []) 2 ≡ refused 16
unfolding prepared_by all_below
sixteen_first = refl

pub circuits_counted : location (part_in (0 ∷ 1 ∷ 1 ∷ 2 ∷ [])) (1 ∷ 2 ∷ 3 ∷ []) ≡ several 1 3
unfolding each_of passing
circuits_counted = refl
