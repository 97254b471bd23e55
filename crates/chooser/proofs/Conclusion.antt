-- The answer: the first pair that is left, or the entries kept (specs/Matrix.antt, `choice_over`).
--
--   first_is          a pair that passes and is before every other that does is the first
--   first_same        the first pair of more rows, where no row past a bound is in a pair
--   first_none        where no row is in a pair, there is no first pair
--   first_low         the first pair is the lowest row that is in a pair, and the lowest that it is paired with
--   first_some        the same, as the code finds it
--   signature_agree   a needed pair agrees on the signature when it agrees on the scan
--   choice_kept       what is concluded from the entries kept is the choice
use Prim.Native.Nat.{ℕ, zero, suc, ◌^◌, ◌≤◌, ◌<◌}
use native.Mathlib.Nat.{lt_of_lt_of_le}
use native.Mathlib.Omega.{arith}
use mathlib.Core.Path.{◌≡◌, refl, sym, ap, ap₂, subst, ◌∙◌}
use mathlib.Core.Bool.{Bool, true, ◌&&◌, and-false}
use mathlib.Core.Logic.{◌⊎◌, inl, inr, ⊎_elim}
use mathlib.Core.List.{List, []}
use borrow.Author.Tests.{ltb-true, lt-ltb, le-leb}
use lib.Dec.{ltb}
use lib.ListN.{length, get_or}
use Rattle.bits.specs.Sets.{lowest}
use Rattle.bits.proofs.Below.{lt_or_ge}
use Rattle.bits.proofs.Membership.{set_some, set_lowest}
use Rattle.bits.proofs.Tests.{and_l, and_r, and_i, clash, by_test, by_cond, same_test}
use Rattle.method.specs.Method.{without, agree, full, takes, drops, signature, first_pair, Pair}
use Rattle.method.specs.Method.Pair.{nobody, pair}
use Rattle.method.proofs.Agreement.{agree_without}
use Rattle.method.proofs.Firsts.{first_pair_nobody, nobody_first_pair, first_pair_pair}
use Rattle.method.proofs.Signatures.{signature_tell}
use Rattle.method.proofs.Takes.{takes_agree}
use Rattle.chooser.specs.Matrix.{max_rows, cell, differ, fits, choice_by, choice_over, choice}
use Rattle.chooser.specs.Pairing.{pair_of, base, Paired, Listed, Sound, Leaves, keeps}
use Rattle.std.specs.Prelude.{Result}
use Rattle.chooser.specs.declared.Signature.{Signature}
use Rattle.chooser.specs.declared.Untold.{Untold}
use Rattle.chooser.proofs.KeptEntries.{signature_keeps}
use Rattle.chooser.proofs.Soundness.{none_listed, pair_below, pair_listed, listed_pair, low_first}

-- ---- the first pair

pub first_is : (n : ℕ) (test : ℕ → ℕ → Bool) (a b : ℕ) → a < b → b < n → test a b ≡ true
    → ((x y : ℕ) → x < y → y < n → test x y ≡ true → (a < x) ⊎ ((a ≡ x) × (b ≤ y))) → first_pair n test ≡ pair a b
first_is n test a b h k t first = go (first_pair n test) refl
  where
    same : (x y : ℕ) → (a < x) ⊎ ((a ≡ x) × (b ≤ y)) → (x < a) ⊎ ((x ≡ a) × (y ≤ b)) → pair x y ≡ pair a b
    same x y (inl p) (inl q) = absurd (omega arith)
    same x y (inl p) (inr q) = absurd (omega (arith, q.0))
    same x y (inr p) (inl q) = absurd (omega (arith, p.0))
    same x y (inr p) (inr q) = let r : y ≡ b = omega (arith, p.1, q.1) in ap₂ pair q.0 r

    go : (p : Pair) → first_pair n test ≡ p → first_pair n test ≡ pair a b
    go nobody e = absurd (clash t (first_pair_nobody n test e a b h k))
    go (pair x y) e =
        let r = first_pair_pair n test x y e in
        e ∙ same x y (first x y r.0 r.1 r.2) (r.3 a b h k t)

pub first_same : (n m : ℕ) (p q : ℕ → ℕ → Bool) → m ≤ n → ((a b : ℕ) → a < b → b < n → p a b ≡ ltb b m && q a b) → first_pair n p ≡ first_pair m q
first_same n m p q most same = go (first_pair m q) refl
  where
    there : (a b : ℕ) → a < b → b < n → p a b ≡ true → (b < m) × (q a b ≡ true)
    there a b h k t =
        let u : ltb b m && q a b ≡ true = sym (same a b h k) ∙ t in
        (ltb-true b m (and_l (ltb b m) (q a b) u), and_r (ltb b m) (q a b) u)

    go : (r : Pair) → first_pair m q ≡ r → first_pair n p ≡ first_pair m q
    go nobody e =
        nobody_first_pair n p (λ a b h k.
        by_test (p a b) (λ t. let u = there a b h k t in absurd (clash u.1 (first_pair_nobody m q e a b h u.0))) (λ f. f))
        ∙ sym e
    go (pair a b) e =
        let r = first_pair_pair m q a b e in
        let inside : b < n = lt_of_lt_of_le r.1 most in
        first_is n p a b r.0 inside (same a b r.0 inside ∙ and_i (lt-ltb b m r.1) r.2)
        (λ x y h k t. let u = there x y h k t in r.3 x y h u.0 u.1)
        ∙ sym e

pub first_none : {rest : List ℕ} {rows : ℕ} → Listed rows rest → rows ≡ 0 → nobody ≡ first_pair max_rows (pair_of rest)
first_none {rest} l z = sym (nobody_first_pair max_rows (pair_of rest) (λ a b h k. none_listed l z a b))

module _ {rest : List ℕ} {rows : ℕ} (s : Sound rest) (l : Listed rows rest) where
  module _ (few : rows < 2 ^ 64) (some : 0 < rows) where
    abbrev low : ℕ
    low = lowest rows

    abbrev high : ℕ
    high = lowest (get_or rest low 0)

    is_pair_lem : pair_of rest low high ≡ true
    is_pair_lem = listed_pair s l low (set_lowest rows few some).member

    lowest_row : (x y : ℕ) → pair_of rest x y ≡ true → low ≤ x
    lowest_row x y t = ⊎_elim (λ h. absurd (clash (pair_listed l x y t) ((set_lowest rows few some).first x h))) (λ h. h) (lt_or_ge x low)

    above : low < high
    above =
        ⊎_elim (λ h. h)
        (λ (h : high ≤ low).
        let k : low ≤ high = lowest_row high low (s.back low high is_pair_lem) in
        let e : high ≡ low = omega arith in
        absurd (clash is_pair_lem (ap (pair_of rest low) e ∙ s.itself low)))
        (lt_or_ge low high)

    first_low : first_pair max_rows (pair_of rest) ≡ pair (lowest rows) (lowest (get_or rest (lowest rows) 0))
    first_low =
        first_is max_rows (pair_of rest) low high above (pair_below s low high is_pair_lem).1 is_pair_lem
        (λ x y h k t.
        ⊎_elim (λ m. inl m)
        (λ (m : x ≤ low).
        let n : low ≤ x = lowest_row x y t in
        let e : low ≡ x = omega arith in
        inr (e, low_first s low y (subst (λ (v : ℕ). pair_of rest v y ≡ true) (sym e) t)))
        (lt_or_ge low x))

  pub first_some : {a b : ℕ} → rows < 2 ^ 64 → (rows ≡ 0 → ⊥) → a ≡ lowest rows → b ≡ lowest (get_or rest a 0)
      → pair a b ≡ first_pair max_rows (pair_of rest)
  first_some {a} {b} few some p q =
      ap₂ pair p (q ∙ ap (λ (n : ℕ). lowest (get_or rest n 0)) p) ∙ sym (first_low few (set_some some))

-- ---- the signature and the scan

module _ (coef : ℕ → ℕ → ℕ) (rows : ℕ) (needed : ℕ → ℕ → Bool) where
  drops_agree : (i : ℕ) (l : List ℕ) (a b : ℕ) → agree coef l a b ≡ true → agree coef (drops coef rows needed i l) a b ≡ true
  unfolding drops
  drops_agree zero l a b t = t
  drops_agree (suc i) l a b t =
      by_cond (λ m. agree coef (drops coef rows needed i m) a b ≡ true) (full coef rows needed (without i l)) (without i l) l
      (λ u. drops_agree i (without i l) a b (agree_without coef i l a b t)) (λ u. drops_agree i l a b t)

  pub signature_agree : (scan : List ℕ) (a b : ℕ) → a < b → b < rows → needed a b ≡ true
      → agree coef (signature coef rows needed scan) a b ≡ agree coef scan a b
  unfolding signature agree
  signature_agree scan a b h k n =
      same_test (signature_tell coef rows needed scan a b h k n)
      (λ t. drops_agree (length (takes coef rows needed [] scan)) (takes coef rows needed [] scan) a b (takes_agree coef rows needed [] scan a b refl t))

-- ---- the answer

module _ (work : List ℕ) (width rows : ℕ) (marks scan : List ℕ) where
  module _ (marked : rows ≤ length marks) (fit : fits work width rows scan ≡ true) (most : rows ≤ max_rows) where
    choice_over_lem : choice_over work width rows (differ marks) scan ≡ choice work width rows marks scan
    unfolding choice
    choice_over_lem = simp (le-leb rows (length marks) marked, fit)

    module _ {pairs : List ℕ} (p : Paired rows marks pairs) where
      abbrev coef : ℕ → ℕ → ℕ
      coef = cell work width

      kept_signature : keeps coef (pair_of pairs) (pair_of pairs) scan ≡ signature coef rows (differ marks) scan
      kept_signature =
          (λ i. keeps coef (λ a b. p.each a b i) (λ a b. p.each a b i) scan) ∙ sym (signature_keeps coef rows (differ marks) most scan)

      first_untold : (rest : List ℕ) → ((a b : ℕ) → pair_of rest a b ≡ pair_of pairs a b && agree coef (signature coef rows (differ marks) scan) a b)
          → first_pair max_rows (pair_of rest) ≡ first_pair rows (λ a b. differ marks a b && agree coef scan a b)
      first_untold rest left =
          first_same max_rows rows (pair_of rest) (λ a b. differ marks a b && agree coef scan a b) most
          (λ a b h k. left a b ∙ ap (λ (t : Bool). t && agree coef (signature coef rows (differ marks) scan) a b) (p.each a b) ∙ told a b h)
        where
          told : (a b : ℕ) → a < b → base rows marks a b && agree coef (signature coef rows (differ marks) scan) a b ≡ ltb b rows && (differ marks a b && agree coef scan a b)
          told a b h =
              by_test (ltb b rows)
              (λ t.
              let low : a < rows = omega (arith, ltb-true b rows t) in
              by_test (differ marks a b)
              (λ n. simp (lt-ltb a rows low, t, n, signature_agree coef rows (differ marks) scan a b h (ltb-true b rows t) n))
              (λ n. simp (t, n, and-false)))
              (λ t. simp (t, and-false))

      pub choice_kept : {rest entries : List ℕ} {r : Result Signature Untold} → entries ≡ keeps coef (pair_of pairs) (pair_of pairs) scan
          → Leaves pairs (agree coef entries) rest → r ≡ choice_by (first_pair max_rows (pair_of rest)) entries → r ≡ choice work width rows marks scan
      unfolding choice_over
      choice_kept {rest} w left e =
          e ∙ ap₂ choice_by
          (first_untold rest (λ a b. left.each a b ∙ ap (λ (l : List ℕ). pair_of pairs a b && agree coef l a b) (w ∙ kept_signature)))
          (w ∙ kept_signature)
          ∙ choice_over_lem
