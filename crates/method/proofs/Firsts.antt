-- The first pair that passes a test (specs/Method.antt).
--
--   first_pair_same     tests that answer the same below `rows` have the same first pair
--   first_pair_nobody   where there is no first pair, no pair passes
--   nobody_first_pair   where no pair passes, there is no first pair
--   first_pair_pair     the first pair passes, and is before every other that does: by lower number, then by higher
use Prim.Native.Nat.{ℕ, zero, suc, ◌+◌, ◌-◌, ◌≤◌, ◌<◌}
use native.Mathlib.Nat.{eq-or-lt_of_le}
use native.Mathlib.Omega.{arith}
use mathlib.Core.Path.{◌≡◌, refl, sym, ap, ap₂, subst, ◌∙◌}
use mathlib.Core.Bool.{Bool, true, false, cond}
use mathlib.Core.Logic.{◌⊎◌, inl, inr, ⊎_elim}
use Rattle.bits.proofs.Tests.{clash, by_cond}
use Rattle.method.specs.Method.{Pair, pair_with, pair_from, first_pair}
use Rattle.method.specs.Method.Pair.{nobody, pair}

-- what holds of a number holds of one that is not below it, if it holds of those above
up_from : (P : ℕ → Type 0) {b y : ℕ} → b ≤ y → P b → (b < y → P y) → P y
up_from P h here more = ⊎_elim (λ e. subst P e here) more (eq-or-lt_of_le h)

-- ---- one row with those after it

module _ (a : ℕ) where
  with_same : (p q : ℕ → Bool) (left b : ℕ) (other : Pair) → ((y : ℕ) → b ≤ y → y < b + left → p y ≡ q y)
      → pair_with a p left b other ≡ pair_with a q left b other
  unfolding pair_with
  with_same p q zero b other same = refl
  with_same p q (suc left) b other same =
      ap₂ (λ (t : Bool) (o : Pair). cond t (pair a b) o) (same b (omega arith) (omega arith))
      (with_same p q left (suc b) other (λ y h k. same y (omega arith) (omega arith)))

  with_none : (test : ℕ → Bool) (left b : ℕ) (other : Pair) → ((y : ℕ) → b ≤ y → y < b + left → test y ≡ false)
      → pair_with a test left b other ≡ other
  unfolding pair_with
  with_none test zero b other none = refl
  with_none test (suc left) b other none =
      ap (λ (t : Bool). cond t (pair a b) (pair_with a test left (suc b) other)) (none b (omega arith) (omega arith))
      ∙ with_none test left (suc b) other (λ y h k. none y (omega arith) (omega arith))

  -- the other pair, since no number passes
  record Other (test : ℕ → Bool) (left b : ℕ) (other : Pair) (found : Pair) : Type 0 where
    none : (y : ℕ) → b ≤ y → y < b + left → test y ≡ false
    is : other ≡ found

  -- the lowest number that passes
  record Partner (test : ℕ → Bool) (left b x y : ℕ) : Type 0 where
    low : x ≡ a
    from : b ≤ y
    below : y < b + left
    passes : test y ≡ true
    first : (z : ℕ) → b ≤ z → test z ≡ true → y ≤ z

  with_nobody : (test : ℕ → Bool) (left b : ℕ) (other : Pair) → pair_with a test left b other ≡ nobody → Other test left b other nobody
  unfolding pair_with
  with_nobody test zero b other e = record { none = λ y h k. absurd (omega arith); is = e }
  with_nobody test (suc left) b other e =
      by_cond (λ (p : Pair). p ≡ nobody → Other test (suc left) b other nobody) (test b) (pair a b) (pair_with a test left (suc b) other)
      (λ t e. let z : ◌≡◌ {A = ℕ} 0 1 = cc in absurd (omega arith))
      (λ f e.
      let r : Other test left (suc b) other nobody = with_nobody test left (suc b) other e in
      record {
        none = λ y h k. up_from (λ (v : ℕ). test v ≡ false) h f (λ l. r.none y l (omega arith));
        is = r.is;
      })
      e

  with_pair : (test : ℕ → Bool) (left b : ℕ) (other : Pair) (x y : ℕ) → pair_with a test left b other ≡ pair x y
      → Partner test left b x y ⊎ Other test left b other (pair x y)
  unfolding pair_with
  with_pair test zero b other x y e = inr (record { none = λ y h k. absurd (omega arith); is = e })
  with_pair test (suc left) b other x y e =
      by_cond (λ (p : Pair). p ≡ pair x y → Partner test (suc left) b x y ⊎ Other test (suc left) b other (pair x y))
      (test b) (pair a b) (pair_with a test left (suc b) other)
      (λ t e.
      let l : x ≡ a = cc in
      let h : b ≡ y = cc in
      inl (record { low = l; from = omega arith; below = omega arith; passes = subst (λ (v : ℕ). test v ≡ true) h t; first = λ z k u. omega arith }))
      (λ f e.
      ⊎_elim
      (λ (r : Partner test left (suc b) x y).
      inl (record {
        low = r.low;
        from = omega (arith, r.from);
        below = omega (arith, r.below);
        passes = r.passes;
        first = λ z k u. ⊎_elim (λ e. absurd (clash u (subst (λ (v : ℕ). test v ≡ false) e f))) (λ l. r.first z l u) (eq-or-lt_of_le k);
      }))
      (λ (r : Other test left (suc b) other (pair x y)).
      inr (record {
        none = λ v h k. up_from (λ (w : ℕ). test w ≡ false) h f (λ l. r.none v l (omega arith));
        is = r.is;
      }))
      (with_pair test left (suc b) other x y e))
      e

-- ---- the rows from one on

module _ (rows : ℕ) where
  from_same : (p q : ℕ → ℕ → Bool) → ((a b : ℕ) → a < b → b < rows → p a b ≡ q a b) → (left a : ℕ) → a + left ≤ rows
      → pair_from rows p left a ≡ pair_from rows q left a
  unfolding pair_from
  from_same p q same zero a h = refl
  from_same p q same (suc left) a h =
      with_same a (p a) (q a) (rows - suc a) (suc a) (pair_from rows p left (suc a)) (λ y k l. same a y k (omega arith))
      ∙ ap (pair_with a (q a) (rows - suc a) (suc a)) (from_same p q same left (suc a) (omega arith))

  pub first_pair_same : (p q : ℕ → ℕ → Bool) → ((a b : ℕ) → a < b → b < rows → p a b ≡ q a b) → first_pair rows p ≡ first_pair rows q
  first_pair_same p q same = from_same p q same rows 0 (omega arith)

  module _ (test : ℕ → ℕ → Bool) where
    from_none : ((a b : ℕ) → a < b → b < rows → test a b ≡ false) → (left a : ℕ) → a + left ≤ rows → pair_from rows test left a ≡ nobody
    unfolding pair_from
    from_none none zero a h = refl
    from_none none (suc left) a h =
        with_none a (test a) (rows - suc a) (suc a) (pair_from rows test left (suc a)) (λ y k l. none a y k (omega arith))
        ∙ from_none none left (suc a) (omega arith)

    pub nobody_first_pair : ((a b : ℕ) → a < b → b < rows → test a b ≡ false) → first_pair rows test ≡ nobody
    nobody_first_pair none = from_none none rows 0 (omega arith)

    from_nobody : (left a : ℕ) → a + left ≡ rows → pair_from rows test left a ≡ nobody
        → (x y : ℕ) → a ≤ x → x < y → y < rows → test x y ≡ false
    unfolding pair_from
    from_nobody zero a h e x y k l m = absurd (omega arith)
    from_nobody (suc left) a h e x y k l m =
        let r : Other a (test a) (rows - suc a) (suc a) (pair_from rows test left (suc a)) nobody =
        with_nobody a (test a) (rows - suc a) (suc a) (pair_from rows test left (suc a)) e in
        up_from (λ (v : ℕ). test v y ≡ false) k (r.none y (omega arith) (omega arith)) (λ n. from_nobody left (suc a) (omega arith) r.is x y n l m)

    pub first_pair_nobody : first_pair rows test ≡ nobody → (a b : ℕ) → a < b → b < rows → test a b ≡ false
    first_pair_nobody e a b h k = from_nobody rows 0 (omega arith) e a b (omega arith) h k

    record First (from x y : ℕ) : Type 0 where
      order : x < y
      below : y < rows
      passes : test x y ≡ true
      first : (u v : ℕ) → from ≤ u → u < v → v < rows → test u v ≡ true → (x < u) ⊎ ((x ≡ u) × (y ≤ v))

    from_pair : (left a : ℕ) → a + left ≡ rows → (x y : ℕ) → pair_from rows test left a ≡ pair x y → First a x y
    unfolding pair_from
    from_pair zero a h x y e = let z : ◌≡◌ {A = ℕ} 0 1 = cc in absurd (omega arith)
    from_pair (suc left) a h x y e =
        ⊎_elim
        (λ (r : Partner a (test a) (rows - suc a) (suc a) x y).
        record {
          order = omega (arith, r.low, r.from);
          below = omega (arith, r.below);
          passes = subst (λ (v : ℕ). test v y ≡ true) (sym r.low) r.passes;
          first =
              λ u v k l m t.
              ⊎_elim
              (λ e. inr (r.low ∙ e, r.first v (omega arith) (subst (λ (w : ℕ). test w v ≡ true) (sym e) t)))
              (λ n. inl (omega (arith, r.low)))
              (eq-or-lt_of_le k);
        })
        (λ (r : Other a (test a) (rows - suc a) (suc a) (pair_from rows test left (suc a)) (pair x y)).
        let f : First (suc a) x y = from_pair left (suc a) (omega arith) x y r.is in
        record {
          order = f.order;
          below = f.below;
          passes = f.passes;
          first =
              λ u v k l m t.
              ⊎_elim
              (λ e. absurd (clash (subst (λ (w : ℕ). test w v ≡ true) (sym e) t) (r.none v (omega arith) (omega arith))))
              (λ n. f.first u v n l m t)
              (eq-or-lt_of_le k);
        })
        (with_pair a (test a) (rows - suc a) (suc a) (pair_from rows test left (suc a)) x y e)

    pub first_pair_pair : (a b : ℕ) → first_pair rows test ≡ pair a b
        → (a < b) × (b < rows) × (test a b ≡ true) × ((x y : ℕ) → x < y → y < rows → test x y ≡ true → (a < x) ⊎ ((a ≡ x) × (b ≤ y)))
    first_pair_pair a b e =
        let f : First 0 a b = from_pair rows 0 (omega arith) a b e in
        (f.order, f.below, f.passes, λ x y h k t. f.first x y (omega arith) h k t)
