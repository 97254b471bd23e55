-- Believed: what is chosen from a matrix of numbers that stand row after row in lent memory (document 01, "Choosing").
--
--   max_rows        no more rows than that
--   max_signature   no signature has more entries
--   cell            the number of a row at an entry
--   differ          two rows are to be told apart: their marks differ
--   fits            the rows are there, no more than a job has circuits, and every entry lies within a row
--   signature_of    entries as a signature, the places past them 0
--   choice_over     what the method chooses, over a relation of needed pairs
--   choice          the same where each row has a mark, and rows are to be told apart whose marks differ
use Rattle.std.specs.Prelude.{ℕ, zero, suc, ◌-◌, ◌+◌, ◌*◌, Bool, not, cond, ◌&&◌, List, [], ◌∷◌, ◌++◌, Result, Ok, Err, leb, eqb, length, get_or}
use Rattle.bits.specs.Bounds.{all_below}
use Rattle.method.specs.Method.{agree, signature, first_pair}
use Rattle.method.specs.Method as method
use Rattle.method.specs.Method.Pair.{nobody, pair}
use Rattle.chooser.specs.declared.Untold.{Untold}
use Rattle.chooser.specs.declared.Untold.TheVariants.{Pair, NoMatrix}
use Rattle.chooser.specs.declared.Signature.{Signature}

-- as many rows as a job has circuits, "0 to f"
unfoldable pub max_rows : ℕ
max_rows = 64

-- the method takes fewer entries than there are rows
unfoldable pub max_signature : ℕ
max_signature = 63

abbrev pub cell : List ℕ → ℕ → ℕ → ℕ → ℕ
cell work width c e = get_or work (c * width + e) 0

abbrev pub differ : List ℕ → ℕ → ℕ → Bool
differ marks a b = not (eqb (get_or marks a 0) (get_or marks b 0))

unfoldable pub fits : List ℕ → ℕ → ℕ → List ℕ → Bool
fits work width rows scan = leb 1 rows && (leb rows max_rows && (leb 1 width && (leb (rows * width) (length work) && all_below width scan)))

unfoldable pub zeros : ℕ → List ℕ
zeros zero = []
zeros (suc n) = 0 ∷ zeros n

-- the entries, and 0 at the places past them
abbrev pub signature_of : List ℕ → Signature
signature_of l = record { count = length l; entries = l ++ zeros (max_signature - length l) }

-- a signature, unless there is a pair that nothing tells apart
abbrev pub choice_by : method.Pair → List ℕ → Result Signature Untold
choice_by nobody l = Ok (signature_of l)
choice_by (pair a b) l = Err (Pair a b)

unfoldable pub choice_over : List ℕ → ℕ → ℕ → (ℕ → ℕ → Bool) → List ℕ → Result Signature Untold
choice_over work width rows needed scan =
    choice_by (first_pair rows (λ a b. needed a b && agree (cell work width) scan a b)) (signature (cell work width) rows needed scan)

abbrev pub no_matrix : Result Signature Untold
no_matrix = Err NoMatrix

unfoldable pub choice : List ℕ → ℕ → ℕ → List ℕ → List ℕ → Result Signature Untold
choice work width rows marks scan = cond (leb rows (length marks) && fits work width rows scan) (choice_over work width rows (differ marks) scan) no_matrix
