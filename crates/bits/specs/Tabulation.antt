-- Kept by the code: an array of the values of a function.
--
--   Tabulates   the first numbers of a list are the function's values at 0, 1, ..
use Rattle.std.specs.Prelude.{ℕ, ◌<◌, ◌≡◌, List, get_or}

abbrev pub Tabulates : ℕ → (ℕ → ℕ) → List ℕ → Type 0
Tabulates count f l = (i : ℕ) → i < count → get_or l i 0 ≡ f i
