-- Believed: the method of choosing (document 01, "Choosing"), over any matrix of coefficients (a row a circuit, an entry of any type), any number of
-- rows, any scan order and any relation of needed pairs.
--
--   agree        two rows have equal coefficients at every entry of a list
--   tells        "A set of coefficients tells two circuits apart when one of them differs."
--   some_below   a test holds of some number below a bound
--   useful       an entry tells apart a needed pair that a list doesn't
--   full         a list tells apart every needed pair
--   takes        "One is taken when it tells apart a needed pair that those taken before don't."
--   drops        "Then, from the last taken to the first, one is dropped if the rest still tell all needed pairs apart."
--   signature    "The signature keeps the order of taking."
--   first_pair   "the first such pair, by lower number, then by higher"
use Rattle.std.specs.Prelude.{ℕ, zero, suc, ◌-◌, Bool, true, false, not, cond, ◌&&◌, ◌||◌, List, [], ◌∷◌, ◌++◌, eqb, length, take, drop}

-- the list without the entry at a place: "The rest, when one coefficient is dropped, is the signature without that entry."
unfoldable pub without : {E : Type 0} → ℕ → List E → List E
without i l = take i l ++ drop (suc i) l

unfoldable pub some_below : ℕ → (ℕ → Bool) → Bool
some_below zero test = false
some_below (suc n) test = some_below n test || test n

module _ {E : Type 0} (coef : ℕ → E → ℕ) where
  unfoldable pub agree : List E → ℕ → ℕ → Bool
  agree [] a b = true
  agree (e ∷ l) a b = eqb (coef a e) (coef b e) && agree l a b

  abbrev pub tells : List E → ℕ → ℕ → Bool
  tells l a b = not (agree l a b)

  module _ (rows : ℕ) (needed : ℕ → ℕ → Bool) where
    -- a needed pair a below b that passes a test
    unfoldable pub some_pair : (ℕ → ℕ → Bool) → Bool
    some_pair test = some_below rows (λ b. some_below b (λ a. needed a b && test a b))

    unfoldable pub useful : List E → E → Bool
    useful l e = some_pair (λ a b. agree l a b && not (eqb (coef a e) (coef b e)))

    unfoldable pub full : List E → Bool
    full l = not (some_pair (agree l))

    unfoldable pub takes : List E → List E → List E
    takes taken [] = taken
    takes taken (e ∷ scan) = takes (cond (useful taken e) (taken ++ (e ∷ [])) taken) scan

    -- the entries at the places below i are still to be looked at, the last of them first
    unfoldable pub drops : ℕ → List E → List E
    drops zero l = l
    drops (suc i) l = drops i (cond (full (without i l)) (without i l) l)

    unfoldable pub signature : List E → List E
    signature scan = drops (length (takes [] scan)) (takes [] scan)

pub data Pair : Type 0 where
  nobody : Pair
  pair : ℕ → ℕ → Pair

-- the pair of a and the lowest of so many numbers from b on that passes a test, or else another pair
unfoldable pub pair_with : ℕ → (ℕ → Bool) → ℕ → ℕ → Pair → Pair
pair_with a test zero b other = other
pair_with a test (suc left) b other = cond (test b) (pair a b) (pair_with a test left (suc b) other)

-- the first pair below `rows` that passes a test, its lower number one of so many from a on
unfoldable pub pair_from : ℕ → (ℕ → ℕ → Bool) → ℕ → ℕ → Pair
pair_from rows test zero a = nobody
pair_from rows test (suc left) a = pair_with a (test a) (rows - suc a) (suc a) (pair_from rows test left (suc a))

abbrev pub first_pair : ℕ → (ℕ → ℕ → Bool) → Pair
first_pair rows test = pair_from rows test rows 0
