-- Believed: lists that grow at the end.
--
--   built_to   the first entries of a list of which each is made of those before it
use Rattle.std.specs.Prelude.{ℕ, zero, suc, List, [], ◌∷◌, ◌++◌}

-- entry l is made of its place and the entries before it
unfoldable pub built_to : {A : Type 0} → (ℕ → List A → A) → ℕ → List A
built_to next zero = []
built_to next (suc l) = let before = built_to next l in before ++ (next l before ∷ [])
