-- Kept by the code: the pairs of rows that are not told apart yet, as a set of rows for each row, and the method over them.
--
--   numbers      the number of a row at an entry, in a matrix
--   pair_of      two rows are a pair
--   base         the pairs before any entry is taken: two rows whose marks differ
--   Counted      a set has the numbers below a bound
--   Marked       the rows of each mark, of those below a bound
--   Paired       each row is paired with those of other marks
--   Listed       the rows that are in a pair, as a set
--   Within       the rows of a set have their numbers in the work
--   There        the rows that are in a pair do
--   Sound        what the code asks of pairs: they go both ways, no row is paired with itself, and two rows that are paired with a third but not with each
--                other are paired with the same rows
--   Having       the rows of a set that have a number at an entry
--   Narrowed     the rows of a set stay paired with each other only
--   Leaves       the pairs that remain where a test holds of two rows
--   meets        some pair passes a test
--   clear        an entry tells no pair apart
--   keeps        what is kept of the entries from here on: taking on the way down, dropping on the way up
--   pair_or_nobody   a pair that may be none, as the method's
use Rattle.std.specs.Prelude.{ℕ, suc, ◌*◌, ◌^◌, ◌≤◌, ◌<◌, ◌≡◌, Bool, true, false, not, cond, ◌&&◌, List, [], ◌∷◌, Option, Some, None, eqb, ltb, length, get_or}
use Rattle.std.specs.Int.Bits.{bit_and}
use Rattle.bits.specs.Sets.{has}
use Rattle.method.specs.Method.{agree, some_below, Pair}
use Rattle.method.specs.Method.Pair.{nobody, pair as first_two}
use Rattle.chooser.specs.Matrix.{max_rows, cell, differ}
use Rattle.chooser.specs.declared.matrix.Matrix.{Matrix}

abbrev pub numbers : Matrix → ℕ → ℕ → ℕ
numbers matrix = cell matrix.work.now matrix.width

unfoldable pub pair_of : List ℕ → ℕ → ℕ → Bool
pair_of pairs a b = has (get_or pairs a 0) b

-- ---- the first pairs

abbrev pub base : ℕ → List ℕ → ℕ → ℕ → Bool
base rows marks a b = ltb a rows && (ltb b rows && differ marks a b)

-- a mark is a byte
abbrev pub max_marks : ℕ
max_marks = 256

pub record Counted (rows set : ℕ) : Type 0 where
  pub each : (k : ℕ) → has set k ≡ ltb k rows

pub record Marked (rows : ℕ) (marks sets : List ℕ) : Type 0 where
  pub size : length sets ≡ max_marks
  pub word : (m : ℕ) → get_or sets m 0 < 2 ^ 64
  pub each : (m k : ℕ) → m < max_marks → has (get_or sets m 0) k ≡ ltb k rows && eqb (get_or marks k 0) m

pub record Paired (rows : ℕ) (marks pairs : List ℕ) : Type 0 where
  pub size : length pairs ≡ max_rows
  pub word : (a : ℕ) → get_or pairs a 0 < 2 ^ 64
  pub each : (a b : ℕ) → pair_of pairs a b ≡ base rows marks a b

-- ---- pairs

pub record Listed (rows : ℕ) (pairs : List ℕ) : Type 0 where
  pub each : (c : ℕ) → has rows c ≡ not (eqb (get_or pairs c 0) 0)

pub record Within (matrix : Matrix) (set : ℕ) : Type 0 where
  pub each : (c : ℕ) → has set c ≡ true → suc c * matrix.width ≤ length matrix.work.now

pub record There (matrix : Matrix) (pairs : List ℕ) : Type 0 where
  pub each : (a b : ℕ) → pair_of pairs a b ≡ true → suc a * matrix.width ≤ length matrix.work.now

pub record Sound (pairs : List ℕ) : Type 0 where
  pub size : length pairs ≡ max_rows
  pub word : (a : ℕ) → get_or pairs a 0 < 2 ^ 64
  pub back : (a b : ℕ) → pair_of pairs a b ≡ true → pair_of pairs b a ≡ true
  pub itself : (a : ℕ) → pair_of pairs a a ≡ false
  pub alike : (a b c d : ℕ) → pair_of pairs a b ≡ true → pair_of pairs c b ≡ true → pair_of pairs a c ≡ false → pair_of pairs a d ≡ pair_of pairs c d

pub record Having (test : ℕ → Bool) (rows set : ℕ) : Type 0 where
  pub each : (k : ℕ) → has set k ≡ has rows k && test k

pub record Narrowed (set : ℕ) (pairs left : List ℕ) : Type 0 where
  pub size : length left ≡ max_rows
  pub each : (a : ℕ) → get_or left a 0 ≡ cond (has set a) (bit_and (get_or pairs a 0) set) (get_or pairs a 0)

pub record Leaves (pairs : List ℕ) (test : ℕ → ℕ → Bool) (left : List ℕ) : Type 0 where
  pub each : (a b : ℕ) → pair_of left a b ≡ pair_of pairs a b && test a b

-- a pair, the lower row first
unfoldable pub meets : (ℕ → ℕ → Bool) → (ℕ → ℕ → Bool) → Bool
meets pair test = some_below max_rows (λ b. some_below b (λ a. pair a b && test a b))

-- ---- the method over pairs

module _ (coef : ℕ → ℕ → ℕ) where
  abbrev pub equal_at : ℕ → ℕ → ℕ → Bool
  equal_at e a b = eqb (coef a e) (coef b e)

  unfoldable pub clear : (ℕ → ℕ → Bool) → ℕ → Bool
  clear pair e = not (meets pair (λ a b. not (equal_at e a b)))

  -- an entry before those kept: it goes where no pair is left both by the entries before it and by those kept
  unfoldable pub puts : (ℕ → ℕ → Bool) → (ℕ → ℕ → Bool) → ℕ → List ℕ → List ℕ
  puts pair all e kept = cond (meets pair (λ a b. all a b && agree coef kept a b)) (e ∷ kept) kept

  unfoldable pub keeps : (ℕ → ℕ → Bool) → (ℕ → ℕ → Bool) → List ℕ → List ℕ
  keeps pair all [] = []
  keeps pair all (e ∷ scan) = cond (clear pair e) (keeps pair all scan) (puts pair all e (keeps (λ a b. pair a b && equal_at e a b) all scan))

abbrev pub pair_or_nobody : Option (ℕ × ℕ) → Pair
pair_or_nobody (Some p) = first_two p.0 p.1
pair_or_nobody None = nobody
