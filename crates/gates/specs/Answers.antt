-- Believed: the answers of the gates (document 01, "Job layout").
use Rattle.std.specs.Prelude.{ℕ, ◌+◌, ◌*◌, List, [], ◌∷◌, get_or}

-- "The answers of the eight kinds on 00, 01, 10 and 11 stand in a table": AND, OR, NAND, NOR, XOR, XNOR, NOT and BUF
unfoldable pub answers : List (List ℕ)
answers =
    (0 ∷ 0 ∷ 0 ∷ 1 ∷ [])
    ∷ (0 ∷ 1 ∷ 1 ∷ 1 ∷ [])
    ∷ (1 ∷ 1 ∷ 1 ∷ 0 ∷ [])
    ∷ (1 ∷ 0 ∷ 0 ∷ 0 ∷ [])
    ∷ (0 ∷ 1 ∷ 1 ∷ 0 ∷ [])
    ∷ (1 ∷ 0 ∷ 0 ∷ 1 ∷ [])
    ∷ (1 ∷ 1 ∷ 0 ∷ 0 ∷ [])
    ∷ (0 ∷ 0 ∷ 1 ∷ 1 ∷ [])
    ∷ []

-- the answer of a kind of gate where its lines a and b have the values x and y
unfoldable pub answer : ℕ → ℕ → ℕ → ℕ
unfolding answers
answer kind x y = get_or (get_or answers kind []) (2 * x + y) 0
