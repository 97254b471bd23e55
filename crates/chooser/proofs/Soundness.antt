-- Pairs that the code may work on (specs/Pairing.antt, `Sound`).
--
--   some_word        a set that has a number is not empty
--   positive         a number that is not 0 is greater
--   pair_listed      rows that are a pair are in the set of the rows that are in a pair
--   none_listed      where that is empty, there is no pair
--   pair_below       rows that are a pair are rows
--   listed_pair      a row of that set is paired with the lowest row of its own set
--   listed_within    the rows of that set have their numbers in the work
--   low_first        no row that it is paired with is lower
--   alike_low        rows that are paired with the same rows have the same lowest
--   sound_meets      a pair that passes a test that goes both ways, whichever row is lower
--   equal_alike      to have equal numbers at an entry is an equivalence
--   leaves_sound, leaves_there   the pairs that remain where an equivalence holds are sound, and their rows are there
use Prim.Native.Nat.{ℕ, ◌^◌, ◌≤◌, ◌<◌}
use native.Mathlib.Nat.{eq-zero-or-pos}
use native.Mathlib.Omega.{arith}
use mathlib.Core.Path.{◌≡◌, refl, sym, ap, ap₂, subst, ◌∙◌}
use mathlib.Core.Bool.{Bool, true, false, not, ◌&&◌}
use mathlib.Core.Logic.{⊎_elim}
use mathlib.Core.List.{List}
use borrow.Author.Tests.{eqb-true, eqb-false, eq-eqb, ne_eqb, not-true}
use lib.Dec.{eqb}
use lib.ListN.{length, get_or, get_or-eq_default}
use Rattle.bits.specs.Sets.{has, lowest}
use Rattle.bits.proofs.Below.{lt_or_ge}
use Rattle.bits.proofs.Membership.{has_none, sets_equal, set_lowest}
use Rattle.bits.proofs.Tests.{and_l, and_r, and_i, clash, by_test, same_test}
use Rattle.method.proofs.Bound.{Alike}
use Rattle.chooser.specs.Matrix.{max_rows}
use Rattle.chooser.specs.Pairing.{pair_of, Listed, Within, There, Sound, Leaves, meets, equal_at}
use Rattle.chooser.specs.declared.matrix.Matrix.{Matrix}
use Rattle.chooser.proofs.CommonPairs.{some_meets}

pub some_word : (set k : ℕ) → has set k ≡ true → 0 < set
some_word set k t = ⊎_elim (λ e. absurd (clash t (ap (λ (n : ℕ). has n k) e ∙ has_none k))) (λ h. h) (eq-zero-or-pos set)

pub positive : (n : ℕ) → not (eqb n 0) ≡ true → 0 < n
positive n t = ⊎_elim (λ e. absurd (eqb-false n 0 (not-true (eqb n 0) t) e)) (λ h. h) (eq-zero-or-pos n)

pub pair_listed : {rows : ℕ} {pairs : List ℕ} → Listed rows pairs → (a b : ℕ) → pair_of pairs a b ≡ true → has rows a ≡ true
unfolding pair_of
pair_listed {pairs = pairs} l a b t =
    l.each a ∙ ap not (ne_eqb (get_or pairs a 0) 0 (λ e. clash t (ap (λ (n : ℕ). has n b) e ∙ has_none b)))

pub none_listed : {rows : ℕ} {pairs : List ℕ} → Listed rows pairs → rows ≡ 0 → (a b : ℕ) → pair_of pairs a b ≡ false
none_listed {pairs = pairs} l z a b =
    by_test (pair_of pairs a b) (λ t. absurd (clash (pair_listed l a b t) (ap (λ (n : ℕ). has n a) z ∙ has_none a))) (λ f. f)

module _ {pairs : List ℕ} (w : Sound pairs) where
  first_below : (a b : ℕ) → pair_of pairs a b ≡ true → a < max_rows
  unfolding pair_of
  first_below a b t =
      ⊎_elim (λ h. h)
      (λ h. absurd (clash t (ap (λ (n : ℕ). has n b) (get_or-eq_default pairs 0 (subst (λ (n : ℕ). n ≤ a) (sym w.size) h)) ∙ has_none b)))
      (lt_or_ge a max_rows)

  pub pair_below : (a b : ℕ) → pair_of pairs a b ≡ true → (a < max_rows) × (b < max_rows)
  pair_below a b t = (first_below a b t, first_below b a (w.back a b t))

  pub low_first : (a b : ℕ) → pair_of pairs a b ≡ true → lowest (get_or pairs a 0) ≤ b
  unfolding pair_of
  low_first a b t =
      ⊎_elim
      (λ h. absurd (clash t ((set_lowest (get_or pairs a 0) (w.word a) (some_word (get_or pairs a 0) b t)).first b h)))
      (λ h. h)
      (lt_or_ge b (lowest (get_or pairs a 0)))

  pub low_pair : (a b : ℕ) → pair_of pairs a b ≡ true → pair_of pairs a (lowest (get_or pairs a 0)) ≡ true
  unfolding pair_of
  low_pair a b t = (set_lowest (get_or pairs a 0) (w.word a) (some_word (get_or pairs a 0) b t)).member

  pub alike_low : (a b c : ℕ) → pair_of pairs a b ≡ true → pair_of pairs c b ≡ true → pair_of pairs a c ≡ false
      → lowest (get_or pairs a 0) ≡ lowest (get_or pairs c 0)
  unfolding pair_of
  alike_low a b c t u f =
      ap lowest (sets_equal 64 (get_or pairs a 0) (get_or pairs c 0) (w.word a) (w.word c) (λ d h. w.alike a b c d t u f))

  module _ {rows : ℕ} (l : Listed rows pairs) where
    pub listed_pair : (a : ℕ) → has rows a ≡ true → pair_of pairs a (lowest (get_or pairs a 0)) ≡ true
    unfolding pair_of
    listed_pair a t = (set_lowest (get_or pairs a 0) (w.word a) (positive (get_or pairs a 0) (sym (l.each a) ∙ t))).member

    pub listed_within : {matrix : Matrix} → There matrix pairs → Within matrix rows
    listed_within t = record { each = λ c h. t.each c (lowest (get_or pairs c 0)) (listed_pair c h) }

  pub sound_meets : (test : ℕ → ℕ → Bool) → ((a b : ℕ) → test a b ≡ true → test b a ≡ true)
      → (a b : ℕ) → pair_of pairs a b ≡ true → test a b ≡ true → meets (pair_of pairs) test ≡ true
  sound_meets test back a b p t =
      ⊎_elim (λ h. some_meets (pair_of pairs) test a b h (pair_below a b p).1 p t)
      (λ h. some_meets (pair_of pairs) test b a (other h) (pair_below a b p).0 (w.back a b p) (back a b t))
      (lt_or_ge a b)
    where
      other : b ≤ a → b < a
      other h = ⊎_elim (λ (k : b < a). k) (λ (k : a ≤ b). let e : a ≡ b = omega arith in absurd (clash p (ap (pair_of pairs a) (sym e) ∙ w.itself a))) (lt_or_ge b a)

-- ---- the pairs that remain

pub equal_alike : (coef : ℕ → ℕ → ℕ) (e : ℕ) → Alike (equal_at coef e)
equal_alike coef e =
    record {
      itself = λ a. eq-eqb (coef a e) (coef a e) refl;
      back = λ a b t. eq-eqb (coef b e) (coef a e) (sym (eqb-true (coef a e) (coef b e) t));
      along = λ a b c t u. eq-eqb (coef a e) (coef c e) (eqb-true (coef a e) (coef b e) t ∙ eqb-true (coef b e) (coef c e) u);
    }

and_no : (a b : Bool) → b ≡ true → a && b ≡ false → a ≡ false
and_no true b p q = absurd (clash p q)
and_no false b p q = refl

module _ {pairs left : List ℕ} {test : ℕ → ℕ → Bool} (w : Leaves pairs test left) where
  pair_was : (a b : ℕ) → pair_of left a b ≡ true → pair_of pairs a b ≡ true
  pair_was a b t = and_l (pair_of pairs a b) (test a b) (sym (w.each a b) ∙ t)

  pair_passes : (a b : ℕ) → pair_of left a b ≡ true → test a b ≡ true
  pair_passes a b t = and_r (pair_of pairs a b) (test a b) (sym (w.each a b) ∙ t)

  pub leaves_there : {matrix : Matrix} → There matrix pairs → There matrix left
  leaves_there t = record { each = λ a b h. t.each a b (pair_was a b h) }

  pub leaves_sound : Alike test → Sound pairs → length left ≡ max_rows → ((a : ℕ) → get_or left a 0 < 2 ^ 64) → Sound left
  leaves_sound like s long words =
      record {
        size = long;
        word = words;
        back = λ a b t. w.each b a ∙ and_i (s.back a b (pair_was a b t)) (like.back a b (pair_passes a b t));
        itself = λ a. w.each a a ∙ ap (λ (t : Bool). t && test a a) (s.itself a);
        alike = λ a b c d t u f.
            let near : test a c ≡ true = like.along a b c (pair_passes a b t) (like.back c b (pair_passes c b u)) in
            let far : test c a ≡ true = like.back a c near in
            let apart : pair_of pairs a c ≡ false = and_no (pair_of pairs a c) (test a c) near (sym (w.each a c) ∙ f) in
            w.each a d
            ∙ ap₂ (λ (x y : Bool). x && y) (s.alike a b c d (pair_was a b t) (pair_was c b u) apart)
            (same_test (λ x. like.along c a d far x) (λ x. like.along a c d near x))
            ∙ sym (w.each c d);
      }
