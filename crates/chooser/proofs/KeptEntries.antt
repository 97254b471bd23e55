-- The recursion over pairs is the method (specs/Pairing.antt, `keeps`; method's specs/Method.antt, `signature`).
--
--   base_meets        the needed pairs below a number of rows, as pairs of rows
--   keeps_clear       an entry that tells no pair apart is passed over
--   keeps_puts        another is put before those kept behind it, or goes
--   signature_keeps   what is kept of a scan is its signature
--   keeps_short       a signature has room for it
use Prim.Native.Nat.{ℕ, suc, ◌+◌, ◌≤◌, ◌<◌}
use native.Mathlib.Nat.{lt_of_lt_of_le}
use native.Mathlib.Numerals.{add-one}
use native.Mathlib.Omega.{arith}
use mathlib.Core.Path.{◌≡◌, refl, sym, ap, ap₂, ◌∙◌}
use mathlib.Core.Bool.{Bool, true, false, not, cond, ◌&&◌, and-true, and_assoc, not-not}
use mathlib.Core.List.{List, [], ◌∷◌, ◌++◌, append-nil, append_assoc}
use borrow.Author.Tests.{ltb-true, lt-ltb}
use lib.Dec.{ltb}
use lib.ListN.{length, length-append}
use Rattle.bits.proofs.Tests.{and_l, and_r, and_i, by_test, same_test}
use Rattle.method.specs.Method.{agree, some_pair, useful, full, takes, drops, signature}
use Rattle.method.proofs.Agreement.{agree_append}
use Rattle.method.proofs.Bound.{takes_bounded}
use Rattle.method.proofs.Drops.{drops_goes, drops_stays}
use Rattle.method.proofs.Pairs.{some_pair_some, some_some_pair}
use Rattle.method.proofs.Takes.{takes_useful, takes_idle}
use Rattle.chooser.specs.Matrix.{max_rows, max_signature}
use Rattle.chooser.specs.Pairing.{meets, equal_at, clear, puts, keeps}
use Rattle.chooser.proofs.CommonPairs.{meets_some, some_meets, meets_same}

-- the needed pairs of so many rows
abbrev pub rows_of : ℕ → (ℕ → ℕ → Bool) → ℕ → ℕ → Bool
rows_of rows needed a b = ltb a rows && (ltb b rows && needed a b)

module _ (coef : ℕ → ℕ → ℕ) where
  pub base_meets : (rows : ℕ) (needed : ℕ → ℕ → Bool) → rows ≤ max_rows
      → (test : ℕ → ℕ → Bool) → some_pair coef rows needed test ≡ meets (rows_of rows needed) test
  base_meets rows needed most test =
      same_test
      (λ t.
      let r : (a : ℕ) × (b : ℕ) × (a < b) × (b < rows) × (needed a b ≡ true) × (test a b ≡ true) = some_pair_some coef rows needed test t in
      let low : r.0 < rows = omega (arith, r.2, r.3) in
      some_meets (rows_of rows needed) test r.0 r.1 r.2 (lt_of_lt_of_le r.3 most)
      (and_i (lt-ltb r.0 rows low) (and_i (lt-ltb r.1 rows r.3) r.4)) r.5)
      (λ t.
      let r : (a : ℕ) × (b : ℕ) × (a < b) × (b < max_rows) × (rows_of rows needed a b ≡ true) × (test a b ≡ true) = meets_some (rows_of rows needed) test t in
      let both : ltb r.1 rows && needed r.0 r.1 ≡ true = and_r (ltb r.0 rows) (ltb r.1 rows && needed r.0 r.1) r.4 in
      some_some_pair coef rows needed test r.0 r.1 r.2
      (ltb-true r.1 rows (and_l (ltb r.1 rows) (needed r.0 r.1) both)) (and_r (ltb r.1 rows) (needed r.0 r.1) both) r.5)

  module _ (pair all : ℕ → ℕ → Bool) (e : ℕ) (scan : List ℕ) where
    pub keeps_clear : clear coef pair e ≡ true → keeps coef pair all (e ∷ scan) ≡ keeps coef pair all scan
    unfolding keeps
    keeps_clear t =
        ap (λ (u : Bool). cond u (keeps coef pair all scan) (puts coef pair all e (keeps coef (λ a b. pair a b && equal_at coef e a b) all scan))) t

    pub keeps_puts : clear coef pair e ≡ false
        → keeps coef pair all (e ∷ scan) ≡ puts coef pair all e (keeps coef (λ a b. pair a b && equal_at coef e a b) all scan)
    unfolding keeps
    keeps_puts t =
        ap (λ (u : Bool). cond u (keeps coef pair all scan) (puts coef pair all e (keeps coef (λ a b. pair a b && equal_at coef e a b) all scan))) t

  -- the needed pairs of the method are the pairs of a relation
  module _ (rows : ℕ) (needed first : ℕ → ℕ → Bool) (bridge : (test : ℕ → ℕ → Bool) → some_pair coef rows needed test ≡ meets first test) where
    -- the pairs that a list of entries leaves
    abbrev Left : List ℕ → (ℕ → ℕ → Bool) → Type 0
    Left l pair = (a b : ℕ) → pair a b ≡ first a b && agree coef l a b

    left_more : (l : List ℕ) (pair : ℕ → ℕ → Bool) (e : ℕ) → Left l pair → Left (l ++ (e ∷ [])) (λ a b. pair a b && equal_at coef e a b)
    unfolding agree
    left_more l pair e h a b =
        ap (λ (t : Bool). t && equal_at coef e a b) (h a b)
        ∙ and_assoc (first a b) (agree coef l a b) (equal_at coef e a b)
        ∙ ap (λ (t : Bool). first a b && (agree coef l a b && t)) (sym (and-true (equal_at coef e a b)))
        ∙ ap (λ (t : Bool). first a b && t) (sym (agree_append coef l (e ∷ []) a b))

    useful_clear : (l : List ℕ) (pair : ℕ → ℕ → Bool) (e : ℕ) → Left l pair → useful coef rows needed l e ≡ not (clear coef pair e)
    unfolding useful clear
    useful_clear l pair e h =
        bridge (λ a b. agree coef l a b && not (equal_at coef e a b))
        ∙ meets_same first pair (λ a b. agree coef l a b && not (equal_at coef e a b)) (λ a b. not (equal_at coef e a b))
        (λ a b. sym (and_assoc (first a b) (agree coef l a b) (not (equal_at coef e a b))) ∙ ap (λ (t : Bool). t && not (equal_at coef e a b)) (sym (h a b)))
        ∙ sym (not-not (meets pair (λ a b. not (equal_at coef e a b))))

    twice : (x y z : Bool) → x && (y && z) ≡ (x && y) && (x && z)
    twice true y z = refl
    twice false y z = refl

    full_apart : (l kept : List ℕ) (pair : ℕ → ℕ → Bool) → Left l pair
        → full coef rows needed (l ++ kept) ≡ not (meets pair (λ a b. first a b && agree coef kept a b))
    unfolding full
    full_apart l kept pair h =
        ap not (bridge (agree coef (l ++ kept))
        ∙ meets_same first pair (agree coef (l ++ kept)) (λ a b. first a b && agree coef kept a b)
        (λ a b. ap (λ (t : Bool). first a b && t) (agree_append coef l kept a b)
        ∙ twice (first a b) (agree coef l a b) (agree coef kept a b)
        ∙ ap (λ (t : Bool). t && (first a b && agree coef kept a b)) (sym (h a b))))

    -- dropping goes on with the entries kept behind those taken
    abbrev dropped : ℕ → List ℕ → List ℕ
    dropped i l = drops coef rows needed i l

    abbrev taken : List ℕ → List ℕ → List ℕ
    taken l scan = takes coef rows needed l scan

    one_up : (l kept : List ℕ) (pair : ℕ → ℕ → Bool) (e : ℕ) → Left l pair
        → dropped (length (l ++ (e ∷ []))) (l ++ (e ∷ []) ++ kept) ≡ dropped (length l) (l ++ puts coef pair first e kept)
    unfolding puts
    one_up l kept pair e h =
        let long : length (l ++ (e ∷ [])) ≡ suc (length l) = length-append l (e ∷ []) ∙ add-one (length l) in
        ap₂ dropped long (append_assoc l (e ∷ []) kept)
        ∙ by_test (meets pair (λ a b. first a b && agree coef kept a b))
        (λ t. drops_stays coef rows needed l e kept (full_apart l kept pair h ∙ ap not t)
        ∙ ap (λ (u : Bool). dropped (length l) (l ++ cond u (e ∷ kept) kept)) (sym t))
        (λ t. drops_goes coef rows needed l e kept (full_apart l kept pair h ∙ ap not t)
        ∙ ap (λ (u : Bool). dropped (length l) (l ++ cond u (e ∷ kept) kept)) (sym t))

    all_up : (scan l : List ℕ) (pair : ℕ → ℕ → Bool) → Left l pair
        → dropped (length (taken l scan)) (taken l scan) ≡ dropped (length l) (l ++ keeps coef pair first scan)
    unfolding takes keeps
    all_up [] l pair h = ap (dropped (length l)) (sym (append-nil l))
    all_up (e ∷ scan) l pair h =
        by_test (clear coef pair e)
        (λ t. ap (λ (m : List ℕ). dropped (length m) m) (takes_idle coef rows needed l e scan (useful_clear l pair e h ∙ ap not t))
        ∙ all_up scan l pair h
        ∙ ap (λ (m : List ℕ). dropped (length l) (l ++ m)) (sym (keeps_clear pair first e scan t)))
        (λ t. ap (λ (m : List ℕ). dropped (length m) m) (takes_useful coef rows needed l e scan (useful_clear l pair e h ∙ ap not t))
        ∙ all_up scan (l ++ (e ∷ [])) (λ a b. pair a b && equal_at coef e a b) (left_more l pair e h)
        ∙ one_up l (keeps coef (λ a b. pair a b && equal_at coef e a b) first scan) pair e h
        ∙ ap (λ (m : List ℕ). dropped (length l) (l ++ m)) (sym (keeps_puts pair first e scan t)))

    signature_kept : (scan : List ℕ) → signature coef rows needed scan ≡ keeps coef first first scan
    unfolding signature drops agree
    signature_kept scan = all_up scan [] first (λ a b. sym (and-true (first a b)))

    puts_long : (pair all : ℕ → ℕ → Bool) (e : ℕ) (kept : List ℕ) → length (puts coef pair all e kept) ≤ suc (length kept)
    unfolding puts
    puts_long pair all e kept =
        by_test (meets pair (λ a b. all a b && agree coef kept a b)) (λ t. rw t (omega arith)) (λ t. rw t (omega arith))

    kept_long : (all : ℕ → ℕ → Bool) (scan l : List ℕ) (pair : ℕ → ℕ → Bool) → Left l pair
        → length l + length (keeps coef pair all scan) ≤ length (taken l scan)
    unfolding takes keeps
    kept_long all [] l pair h = omega arith
    kept_long all (e ∷ scan) l pair h =
        by_test (clear coef pair e)
        (λ t.
        let r : length l + length (keeps coef pair all scan) ≤ length (taken l scan) = kept_long all scan l pair h in
        let x : length (taken l (e ∷ scan)) ≡ length (taken l scan) = ap length (takes_idle coef rows needed l e scan (useful_clear l pair e h ∙ ap not t)) in
        let y : length (keeps coef pair all (e ∷ scan)) ≡ length (keeps coef pair all scan) = ap length (keeps_clear pair all e scan t) in
        omega arith)
        (λ t.
        let less : ℕ → ℕ → Bool = λ a b. pair a b && equal_at coef e a b in
        let r : length (l ++ (e ∷ [])) + length (keeps coef less all scan) ≤ length (taken (l ++ (e ∷ [])) scan) =
        kept_long all scan (l ++ (e ∷ [])) less (left_more l pair e h) in
        let x : length (taken l (e ∷ scan)) ≡ length (taken (l ++ (e ∷ [])) scan) =
        ap length (takes_useful coef rows needed l e scan (useful_clear l pair e h ∙ ap not t)) in
        let y : length (keeps coef pair all (e ∷ scan)) ≡ length (puts coef pair all e (keeps coef less all scan)) = ap length (keeps_puts pair all e scan t) in
        let z : length (puts coef pair all e (keeps coef less all scan)) ≤ suc (length (keeps coef less all scan)) = puts_long pair all e (keeps coef less all scan) in
        let n : length (l ++ (e ∷ [])) ≡ length l + 1 = length-append l (e ∷ []) in
        omega arith)

  pub signature_keeps : (rows : ℕ) (needed : ℕ → ℕ → Bool) → rows ≤ max_rows → (scan : List ℕ)
      → signature coef rows needed scan ≡ keeps coef (rows_of rows needed) (rows_of rows needed) scan
  signature_keeps rows needed most scan = signature_kept rows needed (rows_of rows needed) (base_meets rows needed most) scan

  pub keeps_short : (pair all : ℕ → ℕ → Bool) (scan : List ℕ) → length (keeps coef pair all scan) ≤ max_signature
  unfolding max_rows max_signature meets some_pair agree
  keeps_short pair all scan =
      let h : 0 + length (keeps coef pair all scan) ≤ length (takes coef max_rows pair [] scan) =
      kept_long max_rows pair pair (λ test. refl) all scan [] pair (λ a b. sym (and-true (pair a b))) in
      let k : length (takes coef max_rows pair [] scan) + 1 ≤ 64 = takes_bounded coef max_rows pair (omega arith) scan in
      omega arith
