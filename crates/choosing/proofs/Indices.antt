-- The indices in the order of looking (specs/Choosing.antt).
--
--   passing_has, passing_below   which numbers pass
--   length_passing               how many pass below one number more
--   passing_more                 below more numbers, no fewer pass
--   scan_has, scan_below         every index below N is looked at, and no other
--   length_scan_to               no more indices are listed than there are
--   length_all                   and as many, once no index has a higher order
--   length_one                   with no input there is one index, of order 0
--   pascal                       Pascal's rule: with one input more, an index has its bit and one order more, or has it not
use Prim.Native.Nat.{ℕ, zero, suc, ◌+◌, ◌^◌, ◌≤◌, ◌<◌}
use native.Mathlib.Nat.{not-suc-le-zero, eq-or-lt_of_le, le_of_suc-le-suc, le_refl, add-zero, add-suc, one-mul}
use native.Mathlib.Numerals.{add-one}
use native.Mathlib.Omega.{arith}
use mathlib.Core.Path.{◌≡◌, refl, sym, ap, ◌∙◌}
use mathlib.Core.Bool.{Bool, true, false, cond}
use mathlib.Core.Logic.{⊎_elim}
use mathlib.Core.List.Memᴰ
use mathlib.Core.List.{[], ◌∷◌, Memᴰ}
use borrow.Author.Tests.{eq-eqb, ne_eqb, lt-ltb, le-ltb}
use lib.Count.{ones, ones_in, ones-le, ones_cat}
use lib.Dec.{eqb, ltb, leb-suc-suc}
use lib.ListN.{length, length-append}
use Rattle.bits.proofs.Below.{lt_or_ge}
use Rattle.bits.proofs.Tests.{clash}
use Rattle.bits.specs.Passing.{passing}
use Rattle.bits.proofs.Passing.{at_most}
use Rattle.choosing.specs.Choosing.{scan_to, scan_order}

-- ---- the numbers that pass

has_last : (u : Bool) (n : ℕ) {x : ℕ} → x ≡ n → u ≡ true → Memᴰ x (cond u (n ∷ []) [])
has_last true n e t = Memᴰ.head e
has_last false n e t = absurd (clash t refl)

pub passing_has : (test : ℕ → Bool) (n x : ℕ) → x < n → test x ≡ true → Memᴰ x (passing test n)
unfolding passing
passing_has test zero x h t = absurd (not-suc-le-zero h)
passing_has test (suc n) x h t =
    ⊎_elim (λ e. Memᴰ.append_right (passing test n) (has_last (test n) n e (ap test (sym e) ∙ t)))
    (λ l. Memᴰ.append_left (cond (test n) (n ∷ []) []) (passing_has test n x l t))
    (eq-or-lt_of_le (le_of_suc-le-suc h))

last_is : (u : Bool) (n : ℕ) {x : ℕ} → Memᴰ x (cond u (n ∷ []) []) → (x ≡ n) × (u ≡ true)
last_is true n m = (Memᴰ.eq_of_singleton m, refl)
last_is false n m = absurd (Memᴰ.not-nil m)

pub passing_below : (test : ℕ → Bool) (n : ℕ) {x : ℕ} → Memᴰ x (passing test n) → (x < n) × (test x ≡ true)
unfolding passing
passing_below test zero m = absurd (Memᴰ.not-nil m)
passing_below test (suc n) {x} m =
    ⊎_elim
    (λ p. let r : (x < n) × (test x ≡ true) = passing_below test n p in (omega (arith, r.0), r.1))
    (λ p. let r : (x ≡ n) × (test n ≡ true) = last_is (test n) n p in (omega (arith, r.0), ap test r.0 ∙ r.1))
    (Memᴰ.append_cases (passing test n) m)

length_last : (u : Bool) (n : ℕ) → length (cond u (n ∷ []) []) ≡ cond u 1 0
length_last true n = refl
length_last false n = refl

pub length_passing : (test : ℕ → Bool) (n : ℕ) → length (passing test (suc n)) ≡ length (passing test n) + cond (test n) 1 0
unfolding passing
length_passing test n =
    length-append (passing test n) (cond (test n) (n ∷ []) []) ∙ ap (λ (x : ℕ). length (passing test n) + x) (length_last (test n) n)

pub passing_more : (test : ℕ → Bool) (m n : ℕ) → m ≤ n → length (passing test m) ≤ length (passing test n)
passing_more test m zero h = let e : m ≡ 0 = omega arith in rw e (omega arith)
passing_more test m (suc n) h =
    ⊎_elim (λ (e : m ≡ suc n). rw e (omega arith))
    (λ (l : m < suc n). omega (arith, passing_more test m n (le_of_suc-le-suc l), length_passing test n))
    (eq-or-lt_of_le h)

-- ---- the indices by order

scan_to_has : (size order e : ℕ) → e < size → ones e < order → Memᴰ e (scan_to size order)
unfolding scan_to
scan_to_has size zero e h o = absurd (not-suc-le-zero o)
scan_to_has size (suc order) e h o =
    ⊎_elim (λ p. Memᴰ.append_right (scan_to size order) (passing_has (λ e. eqb (ones e) order) size e h (eq-eqb (ones e) order p)))
    (λ l. Memᴰ.append_left (passing (λ e. eqb (ones e) order) size) (scan_to_has size order e h l))
    (eq-or-lt_of_le (le_of_suc-le-suc o))

scan_to_below : (size order : ℕ) {e : ℕ} → Memᴰ e (scan_to size order) → e < size
unfolding scan_to
scan_to_below size zero m = absurd (Memᴰ.not-nil m)
scan_to_below size (suc order) m =
    ⊎_elim (λ p. scan_to_below size order p) (λ p. (passing_below (λ e. eqb (ones e) order) size p).0) (Memᴰ.append_cases (scan_to size order) m)

pub scan_has : (n e : ℕ) → e < 2 ^ n → Memᴰ e (scan_order n)
scan_has n e h = let o = ones-le n e h in scan_to_has (2 ^ n) (n + 1) e h (omega arith)

pub scan_below : (n : ℕ) {e : ℕ} → Memᴰ e (scan_order n) → e < 2 ^ n
scan_below n m = scan_to_below (2 ^ n) (n + 1) m

-- ---- how many they are

below_next : (o order : ℕ) → cond (ltb o order) 1 0 + cond (eqb o order) 1 0 ≡ cond (ltb o (suc order)) 1 0
below_next o order =
    ⊎_elim
    (λ (l : o < order). rw (lt-ltb o order l, ne_eqb o order (λ e. absurd (omega arith)), lt-ltb o (suc order) (omega arith)))
    (λ (g : order ≤ o). ⊎_elim
    (λ (l : order < o). rw (le-ltb o order g, ne_eqb o order (λ e. absurd (omega arith)), le-ltb o (suc order) l))
    (λ (l : o ≤ order). rw (le-ltb o order g, eq-eqb o order (omega arith), lt-ltb o (suc order) (omega arith)))
    (lt_or_ge order o))
    (lt_or_ge o order)

length_suc : (size order : ℕ) → length (scan_to (suc size) order) ≡ length (scan_to size order) + cond (ltb (ones size) order) 1 0
unfolding scan_to
length_suc size zero = rw (le-ltb (ones size) 0 (omega arith))
length_suc size (suc order) =
    let test : ℕ → Bool = λ e. eqb (ones e) order in
    let a = length-append (scan_to (suc size) order) (passing test (suc size)) in
    let b = length-append (scan_to size order) (passing test size) in
    let p = length_passing test size in
    let s = length_suc size order in
    let w = below_next (ones size) order in
    omega arith

length_none : (order : ℕ) → length (scan_to 0 order) ≡ 0
unfolding scan_to passing
length_none zero = refl
length_none (suc order) = rw length-append (omega (arith, length_none order))

pub length_scan_to : (size order : ℕ) → length (scan_to size order) ≤ size
length_scan_to zero order = let e = length_none order in omega arith
length_scan_to (suc size) order =
    let s = length_suc size order in
    let small = length_scan_to size order in
    let one = at_most (ltb (ones size) order) in
    omega arith

-- if all orders below a size are few, all indices are listed
pub length_all : (size order : ℕ) → ((e : ℕ) → e < size → ones e < order) → length (scan_to size order) ≡ size
length_all zero order h = length_none order
length_all (suc size) order h =
    let s : length (scan_to (suc size) order) ≡ length (scan_to size order) + 1 = length_suc size order ∙ rw (lt-ltb (ones size) order (h size (omega arith))) in
    let small : length (scan_to size order) ≡ size = length_all size order (λ e l. h e (omega arith)) in
    omega arith

pub length_one : (order : ℕ) → length (scan_to 1 (suc order)) ≡ 1
length_one order = length_all 1 (suc order) (λ e h. omega (arith, ones-le 0 e h))

one_more : (m i : ℕ) → i < 2 ^ m → ones (2 ^ m + i) ≡ suc (ones i)
unfolding ones ones_in
one_more m i h = ap (λ (x : ℕ). ones (x + i)) (sym (one-mul (2 ^ m))) ∙ ones_cat m 1 i h ∙ omega arith

-- the first so many indices that have the bit of one input more are, by order, those that have it not
length_more : (m i order : ℕ) → i ≤ 2 ^ m → length (scan_to (2 ^ m + i) (suc order)) ≡ length (scan_to (2 ^ m) (suc order)) + length (scan_to i order)
length_more m zero order h = ap (λ (x : ℕ). length (scan_to x (suc order))) (add-zero (2 ^ m)) ∙ omega (arith, length_none order)
length_more m (suc i) order h =
    let last : ltb (ones (2 ^ m + i)) (suc order) ≡ ltb (ones i) order = ap (λ (x : ℕ). ltb x (suc order)) (one_more m i h) ∙ leb-suc-suc (suc (ones i)) order in
    let upper = length_suc (2 ^ m + i) (suc order) ∙ ap (λ (t : Bool). length (scan_to (2 ^ m + i) (suc order)) + cond t 1 0) last in
    ap (λ (x : ℕ). length (scan_to x (suc order))) (add-suc (2 ^ m) i) ∙ omega (arith, upper, length_suc i order, length_more m i order (omega arith))

pub pascal : (m order : ℕ) → length (scan_to (2 ^ (m + 1)) (suc order)) ≡ length (scan_to (2 ^ m) (suc order)) + length (scan_to (2 ^ m) order)
pascal m order =
    let double : 2 ^ (m + 1) ≡ 2 ^ m + 2 ^ m = ap (λ (x : ℕ). 2 ^ x) (add-one m) ∙ omega arith in
    ap (λ (x : ℕ). length (scan_to x (suc order))) double ∙ length_more m (2 ^ m) order (le_refl (2 ^ m))
