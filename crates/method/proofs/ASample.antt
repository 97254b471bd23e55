-- The method applied to job A of document 01, "The report program": the MRM spectra of its four circuits at polarity 0, every two to be told apart.
-- Of what is taken, 1 2 3, dropping from the last to the first leaves 1 3 (P8); from the first to the last it would leave 2 3.
--
--   taken_A       what is taken
--   signature_A   what dropping leaves of it
--   pair_A        the first two circuits that entry 1 doesn't tell apart
use Prim.Native.Nat.{ℕ}
use mathlib.Core.Path.{◌≡◌, refl}
use mathlib.Core.Bool.{Bool, true}
use mathlib.Core.List.{List, [], ◌∷◌}
use lib.ListN.{get_or}
use Rattle.method.specs.Method.{without, some_below, agree, some_pair, useful, full, takes, drops, signature, pair_with, pair_from, first_pair}
use Rattle.method.specs.Method.Pair.{pair}

abbrev spectra_a : List (List ℕ)
spectra_a = (0 ∷ 0 ∷ 0 ∷ 1 ∷ []) ∷ (0 ∷ 0 ∷ 0 ∷ 0 ∷ []) ∷ (0 ∷ 0 ∷ 1 ∷ 2 ∷ []) ∷ (0 ∷ 1 ∷ 0 ∷ 2 ∷ []) ∷ []

abbrev coef_a : ℕ → ℕ → ℕ
coef_a c e = get_or (get_or spectra_a c []) e 0

abbrev scan_a : List ℕ
scan_a = 0 ∷ 1 ∷ 2 ∷ 3 ∷ []

abbrev every_two : ℕ → ℕ → Bool
every_two a b = true

pub taken_A : takes coef_a 4 every_two [] scan_a ≡ 1 ∷ 2 ∷ 3 ∷ []
unfolding takes useful some_pair some_below agree
taken_A = refl

pub signature_A : signature coef_a 4 every_two scan_a ≡ 1 ∷ 3 ∷ []
unfolding signature drops without full takes useful some_pair some_below agree
signature_A = refl

pub pair_A : first_pair 4 (agree coef_a (1 ∷ [])) ≡ pair 0 1
unfolding pair_from pair_with agree
pair_A = refl
