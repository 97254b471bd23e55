-- Only the pairs stay that an entry does not tell apart (specs/Pairing.antt, `Having`, `Narrowed`, `Leaves`).
--
--   Gathering        what a loop knows that gathers the rows of a set that pass a test
--   gathering_start, gathering_in, gathering_out, gathering_end   its start, its step for a row that passes and for another, and its end
--   Narrowing        what a loop knows that narrows the rows of a set
--   narrowing_start, narrowing_next, narrowing_end   its start, its step and its end
--   Refining         what a loop knows that has the rows of a set still to refine
--   refining_start, refining_next, refining_end      its start, its step and its end
--   refining_sound   the pairs that are left are sound
--   refining_row, refining_within   the rows still to refine have their numbers in the work
--   refining_falls   each number takes rows from the set
use Prim.Native.Nat.{ℕ, suc, ◌*◌, ◌^◌, ◌≤◌, ◌<◌}
use native.Mathlib.Nat.{lt_of_le_of_lt}
use native.Mathlib.Omega.{arith}
use mathlib.Core.Path.{◌≡◌, refl, sym, ap, ap₂, subst, ◌∙◌}
use Rattle.std.proofs.Math.Bool.{and-not_self}
use mathlib.Core.Bool.{Bool, true, false, not, cond, ◌&&◌, ◌||◌, and-true, and-false, or-false}
use mathlib.Core.List.{List}
use borrow.Author.Tests.{eqb-true, eqb-false, eq-eqb, not-true}
use lib.Bits.{bit_and, bit_xor, and_le_l, xor_lt}
use lib.Dec.{eqb}
use lib.ListN.{length, get_or, set, length-set}
use lib.Seq.{get_or-set_same, get_or-set_other}
use Rattle.bits.specs.Sets.{has, lowest, joined, First}
use Rattle.bits.proofs.Membership.{either, has_none, has_and, has_xor, set_some, set_lowest, set_joined, joined_word, less_falls, first_member, first_below, first_others, first_word}
use Rattle.bits.proofs.Tests.{and_l, and_r, and_i, clash, by_test, same_test}
use Rattle.chooser.specs.Matrix.{max_rows}
use Rattle.chooser.specs.declared.matrix.Matrix.{Matrix}
use Rattle.chooser.specs.Pairing.{pair_of, Listed, Within, There, Sound, Having, Narrowed, Leaves, equal_at}
use Rattle.chooser.proofs.Soundness.{pair_listed, listed_within, some_word, equal_alike, leaves_sound}

-- ---- the rows that have a number

pub record Gathering (test : ℕ → Bool) (rows got left : ℕ) : Type 0 where
  pub word : left < 2 ^ 64
  pub got_word : got < 2 ^ 64
  pub within : (k : ℕ) → has left k ≡ true → has rows k ≡ true
  pub each : (k : ℕ) → has got k || (has left k && test k) ≡ has rows k && test k

pub gathering_start : (test : ℕ → Bool) {rows left : ℕ} → rows < 2 ^ 64 → left ≡ rows → Gathering test rows 0 left
gathering_start test {rows} h e =
    subst (Gathering test rows 0) (sym e)
    (record {
      word = h;
      got_word = omega arith;
      within = λ k t. t;
      each = λ k. ap (λ (t : Bool). t || (has rows k && test k)) (has_none k);
    })

module _ {test : ℕ → Bool} {rows got left : ℕ} (w : Gathering test rows got left) where
  module _ {low after : ℕ} (f : First left low after) where
    pub gathering_row : has rows low ≡ true
    gathering_row = w.within low (first_member w.word f)

    fewer_rows : (k : ℕ) → has after k ≡ true → has rows k ≡ true
    fewer_rows k t = w.within k (and_l (has left k) (not (eqb low k)) (sym (first_others w.word f k) ∙ t))

    pub gathering_in : test low ≡ true → Gathering test rows (joined got low) after
    gathering_in here =
        record {
          word = first_word w.word f;
          got_word = joined_word low w.got_word;
          within = fewer_rows;
          each = λ k.
              ap₂ (λ (x y : Bool). x || (y && test k)) (set_joined got low k (first_below f)) (first_others w.word f k)
              ∙ step (has got k) (eqb low k) (has left k) (test k)
              (λ t. ap (has left) (sym (eqb-true low k t)) ∙ first_member w.word f) (λ t. ap test (sym (eqb-true low k t)) ∙ here)
              ∙ w.each k;
        }
      where
        step : (g q l t : Bool) → (q ≡ true → l ≡ true) → (q ≡ true → t ≡ true) → (g || q) || ((l && not q) && t) ≡ g || (l && t)
        step true q l t m n = refl
        step false true l t m n = simp (m refl, n refl)
        step false false l t m n = simp and-true

    pub gathering_out : test low ≡ false → Gathering test rows got after
    gathering_out here =
        record {
          word = first_word w.word f;
          got_word = w.got_word;
          within = fewer_rows;
          each = λ k.
              ap (λ (x : Bool). has got k || (x && test k)) (first_others w.word f k)
              ∙ step (has got k) (eqb low k) (has left k) (test k) (λ t. ap test (sym (eqb-true low k t)) ∙ here)
              ∙ w.each k;
        }
      where
        step : (g q l t : Bool) → (q ≡ true → t ≡ false) → g || ((l && not q) && t) ≡ g || (l && t)
        step g true l t n = simp (n refl, and-false)
        step g false l t n = simp and-true

  pub gathering_end : left ≡ 0 → Having test rows got
  gathering_end z = record { each = λ k. sym (none k) ∙ w.each k }
    where
      none : (k : ℕ) → has got k || (has left k && test k) ≡ has got k
      none k = ap (λ (t : Bool). has got k || (t && test k)) (ap (λ (n : ℕ). has n k) z ∙ has_none k) ∙ or-false (has got k)

-- ---- the rows of a set stay paired with each other

pub record Narrowing (these : ℕ) (old pairs : List ℕ) (left : ℕ) : Type 0 where
  pub word : left < 2 ^ 64
  pub size : length pairs ≡ max_rows
  pub within : (a : ℕ) → has left a ≡ true → has these a ≡ true
  pub each : (a : ℕ) → get_or pairs a 0 ≡ cond (has these a && not (has left a)) (bit_and (get_or old a 0) these) (get_or old a 0)

pub narrowing_start : {these left : ℕ} (old : List ℕ) → these < 2 ^ 64 → length old ≡ max_rows → left ≡ these → Narrowing these old old left
narrowing_start {these} old h l e =
    subst (Narrowing these old old) (sym e)
    (record {
      word = h;
      size = l;
      within = λ a t. t;
      each = λ a. sym (ap (λ (t : Bool). cond t (bit_and (get_or old a 0) these) (get_or old a 0)) (and-not_self (has these a)));
    })

module _ {these : ℕ} {old pairs : List ℕ} {left : ℕ} (w : Narrowing these old pairs left) where
  module _ {low after : ℕ} (f : First left low after) where
    narrowing_row : low < max_rows
    unfolding max_rows
    narrowing_row = f.below

    here : has left low ≡ true
    here = first_member w.word f

    fewer : (a : ℕ) → has after a ≡ has left a && not (eqb low a)
    fewer = first_others w.word f

    abbrev next : List ℕ
    next = set pairs low (bit_and (get_or pairs low 0) these)

    was : get_or pairs low 0 ≡ get_or old low 0
    was = w.each low ∙ simp (here, and-false)

    last : has after low ≡ false
    last = fewer low ∙ simp (eq-eqb low low refl, and-false)

    same : get_or next low 0 ≡ cond (has these low && not (has after low)) (bit_and (get_or old low 0) these) (get_or old low 0)
    same =
        get_or-set_same pairs low (bit_and (get_or pairs low 0) these) 0 (subst (λ (n : ℕ). low < n) (sym w.size) narrowing_row)
        ∙ ap (λ (n : ℕ). bit_and n these) was ∙ simp (w.within low here, last)

    other : (a : ℕ) → eqb low a ≡ false
        → get_or next a 0 ≡ cond (has these a && not (has after a)) (bit_and (get_or old a 0) these) (get_or old a 0)
    other a f =
        get_or-set_other pairs low a (bit_and (get_or pairs low 0) these) 0 (λ (e : a ≡ low). eqb-false low a f (sym e))
        ∙ w.each a
        ∙ ap (λ (t : Bool). cond (has these a && not t) (bit_and (get_or old a 0) these) (get_or old a 0))
        (sym (fewer a ∙ ap (λ (t : Bool). has left a && not t) f ∙ and-true (has left a)))

    pub narrowing_next : Narrowing these old next after
    narrowing_next =
        record {
          word = first_word w.word f;
          size = length-set pairs low (bit_and (get_or pairs low 0) these) ∙ w.size;
          within = λ a t. w.within a (and_l (has left a) (not (eqb low a)) (sym (fewer a) ∙ t));
          each = λ a. by_test (eqb low a) (λ t. rw (← (eqb-true low a t)) same) (other a);
        }

  pub narrowing_end : left ≡ 0 → Narrowed these old pairs
  narrowing_end z =
      record {
        size = w.size;
        each = λ a. w.each a
            ∙ ap (λ (t : Bool). cond (has these a && not t) (bit_and (get_or old a 0) these) (get_or old a 0)) (ap (λ (n : ℕ). has n a) z ∙ has_none a)
            ∙ ap (λ (t : Bool). cond t (bit_and (get_or old a 0) these) (get_or old a 0)) (and-true (has these a));
      }

-- ---- number after number

pair_at : (l m : List ℕ) (a b : ℕ) → get_or l a 0 ≡ get_or m a 0 → pair_of l a b ≡ pair_of m a b
unfolding pair_of
pair_at l m a b e = ap (λ (n : ℕ). has n b) e

pub record Refining (coef : ℕ → ℕ → ℕ) (e : ℕ) (old : List ℕ) (rows : ℕ) (pairs : List ℕ) (left : ℕ) : Type 0 where
  pub word : left < 2 ^ 64
  pub size : length pairs ≡ max_rows
  pub words : (a : ℕ) → get_or pairs a 0 < 2 ^ 64
  pub within : (a : ℕ) → has left a ≡ true → has rows a ≡ true
  pub closed : (a b : ℕ) → has left a ≡ true → has rows b ≡ true → coef a e ≡ coef b e → has left b ≡ true
  pub stays : (a : ℕ) → has left a ≡ true → get_or pairs a 0 ≡ get_or old a 0
  pub done : (a b : ℕ) → has left a ≡ false → pair_of pairs a b ≡ pair_of old a b && equal_at coef e a b

module _ (coef : ℕ → ℕ → ℕ) (e : ℕ) {old : List ℕ} {rows : ℕ} (s : Sound old) (l : Listed rows old) where
  pub refining_start : rows < 2 ^ 64 → Refining coef e old rows old rows
  refining_start h =
      record {
        word = h;
        size = s.size;
        words = s.word;
        within = λ a t. t;
        closed = λ a b t u q. u;
        stays = λ a t. refl;
        done = λ a b f. by_test (pair_of old a b) (λ t. absurd (clash (pair_listed l a b t) f))
            (λ t. t ∙ sym (ap (λ (x : Bool). x && equal_at coef e a b) t));
      }

  module _ {pairs : List ℕ} {left : ℕ} (w : Refining coef e old rows pairs left) where
    here_left : {low : ℕ} → (left ≡ 0 → ⊥) → low ≡ lowest left → has left low ≡ true
    here_left h is = ap (has left) is ∙ (set_lowest left w.word (set_some h)).member

    pub refining_row : {matrix : Matrix} {low : ℕ} → There matrix old → (left ≡ 0 → ⊥) → low ≡ lowest left → suc low * matrix.width ≤ length matrix.work.now
    refining_row {low = low} t h is = (listed_within s l t).each low (w.within low (here_left h is))

    pub refining_within : {matrix : Matrix} → There matrix old → Within matrix left
    refining_within t = record { each = λ c h. (listed_within s l t).each c (w.within c h) }

    module _ (number : ℕ) {these : ℕ} (few : these < 2 ^ 64) (got : Having (λ k. eqb (coef k e) number) left these) where
      of_left : (a : ℕ) → has these a ≡ true → has left a ≡ true
      of_left a t = and_l (has left a) (eqb (coef a e) number) (sym (got.each a) ∙ t)

      of_number : (a : ℕ) → has these a ≡ true → coef a e ≡ number
      of_number a t = eqb-true (coef a e) number (and_r (has left a) (eqb (coef a e) number) (sym (got.each a) ∙ t))

      pub refining_falls : {low : ℕ} → (left ≡ 0 → ⊥) → low ≡ lowest left → number ≡ coef low e → bit_xor left these < left
      refining_falls {low} h is n =
          less_falls 64 w.word few of_left
          (some_word these low (got.each low ∙ and_i (here_left h is) (eq-eqb (coef low e) number (sym n))))

      -- a row is still to refine when it was and does not have the number
      still : (a : ℕ) → has (bit_xor left these) a ≡ has left a && not (has these a)
      still a = has_xor left these a ∙ by_test (has these a) (λ t. simp (of_left a t, t)) (λ t. simp (t, and-true) (mask (has left a)))
        where
          mask : (t : Bool) → either t false ≡ t
          mask true = refl
          mask false = refl

      module _ {next : List ℕ} (made : Narrowed these pairs next) where
        unmade : (a : ℕ) → has these a ≡ false → get_or next a 0 ≡ get_or pairs a 0
        unmade a f = made.each a ∙ ap (λ (t : Bool). cond t (bit_and (get_or pairs a 0) these) (get_or pairs a 0)) f

        made_word : (a : ℕ) → get_or next a 0 < 2 ^ 64
        made_word a =
            by_test (has these a)
            (λ t. subst (λ (n : ℕ). n < 2 ^ 64)
            (sym (made.each a ∙ ap (λ (t : Bool). cond t (bit_and (get_or pairs a 0) these) (get_or pairs a 0)) t))
            (lt_of_le_of_lt (and_le_l (get_or pairs a 0) these) (w.words a)))
            (λ f. subst (λ (n : ℕ). n < 2 ^ 64) (sym (unmade a f)) (w.words a))

        -- a row of the set is paired with those that have its number
        these_done : (a b : ℕ) → has these a ≡ true → pair_of next a b ≡ pair_of old a b && equal_at coef e a b
        unfolding pair_of
        these_done a b t =
            ap (λ (n : ℕ). has n b) (made.each a ∙ ap (λ (t : Bool). cond t (bit_and (get_or pairs a 0) these) (get_or pairs a 0)) t)
            ∙ has_and (get_or pairs a 0) these b
            ∙ ap (λ (n : ℕ). has n b && has these b) (w.stays a (of_left a t))
            ∙ by_test (pair_of old a b)
            (λ p. ap (λ (x : Bool). has (get_or old a 0) b && x) (same_test
            (λ u. eq-eqb (coef a e) (coef b e) (of_number a t ∙ sym (of_number b u)))
            (λ u.
            let q : coef a e ≡ coef b e = eqb-true (coef a e) (coef b e) u in
            got.each b ∙ and_i (w.closed a b (of_left a t) (pair_listed l b a (s.back a b p)) q) (eq-eqb (coef b e) number (sym q ∙ of_number a t)))))
            (λ f. ap (λ (x : Bool). x && has these b) f ∙ sym (ap (λ (x : Bool). x && equal_at coef e a b) f))

        pub refining_next : Refining coef e old rows next (bit_xor left these)
        refining_next =
            record {
              word = xor_lt 64 left these w.word few;
              size = made.size;
              words = made_word;
              within = λ a t. w.within a (and_l (has left a) (not (has these a)) (sym (still a) ∙ t));
              closed = λ a b t u q.
                  let p : has left a && not (has these a) ≡ true = sym (still a) ∙ t in
                  still b ∙ and_i (w.closed a b (and_l (has left a) (not (has these a)) p) u q)
                  (by_test (has these b)
                  (λ x. absurd (clash (got.each a ∙ and_i (and_l (has left a) (not (has these a)) p) (eq-eqb (coef a e) number (q ∙ of_number b x)))
                  (not-true (has these a) (and_r (has left a) (not (has these a)) p))))
                  (λ x. ap not x));
              stays = λ a t.
                  let p : has left a && not (has these a) ≡ true = sym (still a) ∙ t in
                  unmade a (not-true (has these a) (and_r (has left a) (not (has these a)) p)) ∙ w.stays a (and_l (has left a) (not (has these a)) p);
              done = λ a b f.
                  by_test (has these a)
                  (λ t. these_done a b t)
                  (λ t. pair_at next pairs a b (unmade a t) ∙ w.done a b (sym (and-true (has left a)) ∙ ap (λ (x : Bool). has left a && not x) (sym t) ∙ sym (still a) ∙ f));
            }

    pub refining_end : left ≡ 0 → Leaves old (equal_at coef e) pairs
    refining_end z = record { each = λ a b. w.done a b (ap (λ (n : ℕ). has n a) z ∙ has_none a) }

    pub refining_sound : left ≡ 0 → Sound pairs
    refining_sound z = leaves_sound (refining_end z) (equal_alike coef e) s w.size w.words
