-- Whether an entry tells no pair apart (specs/Pairing.antt, `clear`), as the code finds it: by the lowest row that each row is paired with.
--
--   pair_same        if every row has the number of its lowest partner, every pair has equal numbers
--   Clearing         what a loop knows that has the rows of a set still to look at
--   clearing_all, clearing_next, clearing_none   its start, its step and its end
--   clearing_row     the row that it looks at next
--   partner_there    the lowest partner of a row has its numbers in the work
--   clearing_stop    a row that has another number
--   clear_all        where there is no pair, no entry tells one apart
use Prim.Native.Nat.{ℕ, suc, ◌*◌, ◌^◌, ◌≤◌, ◌<◌}
use native.Mathlib.Omega.{arith}
use mathlib.Core.Path.{◌≡◌, sym, ap, subst, ◌∙◌}
use mathlib.Core.Bool.{Bool, true, false, not, ◌&&◌, and-true}
use mathlib.Core.List.{List}
use borrow.Author.Tests.{eqb-true, eqb-false, eq-eqb, ne_eqb, not-true}
use lib.Dec.{eqb}
use lib.ListN.{get_or, length}
use Rattle.bits.specs.Sets.{has, lowest, First}
use Rattle.bits.proofs.Membership.{has_none, first_member, first_others, first_word}
use Rattle.bits.proofs.Tests.{and_l, clash, by_test}
use Rattle.chooser.specs.declared.matrix.Matrix.{Matrix}
use Rattle.chooser.specs.Pairing.{pair_of, Listed, There, Sound, equal_at, clear}
use Rattle.chooser.proofs.CommonPairs.{none_meets}
use Rattle.chooser.proofs.Soundness.{low_first, low_pair, alike_low, pair_listed, none_listed, listed_pair, sound_meets}

module _ {pairs : List ℕ} (w : Sound pairs) (number : ℕ → ℕ) (low_same : (a b : ℕ) → pair_of pairs a b ≡ true → number a ≡ number (lowest (get_or pairs a 0))) where
  abbrev low : ℕ → ℕ
  low a = lowest (get_or pairs a 0)

  pub pair_same : (a b : ℕ) → pair_of pairs a b ≡ true → number a ≡ number b
  pair_same a b t =
      let u : pair_of pairs b a ≡ true = w.back a b t in
      let p : pair_of pairs (low a) a ≡ true = w.back a (low a) (low_pair w a b t) in
      let q : pair_of pairs (low b) b ≡ true = w.back b (low b) (low_pair w b a u) in
      by_test (pair_of pairs (low a) b)
      (λ x. by_test (pair_of pairs (low b) a)
      (λ y.
      let h : low a ≤ low b = low_first w a (low b) (w.back (low b) a y) in
      let k : low b ≤ low a = low_first w b (low a) (w.back (low a) b x) in
      let e : low a ≡ low b = omega arith in
      low_same a b t ∙ ap number e ∙ sym (low_same b a u))
      (λ y. low_same a b t ∙ ap number (sym (alike_low w (low b) b a q t y)) ∙ sym (low_same (low b) b q) ∙ sym (low_same b a u)))
      (λ x. low_same a b t ∙ low_same (low a) a p ∙ ap number (alike_low w (low a) a b p u x) ∙ sym (low_same b a u))

pub record Clearing (number : ℕ → ℕ) (pairs : List ℕ) (rows left : ℕ) : Type 0 where
  pub word : left < 2 ^ 64
  pub within : (c : ℕ) → has left c ≡ true → has rows c ≡ true
  pub done : (c : ℕ) → has rows c ≡ true → has left c ≡ false → number c ≡ number (lowest (get_or pairs c 0))

pub clearing_all : (number : ℕ → ℕ) (pairs : List ℕ) {rows left : ℕ} → rows < 2 ^ 64 → left ≡ rows → Clearing number pairs rows left
clearing_all number pairs {rows} h e = subst (Clearing number pairs rows) (sym e) (record { word = h; within = λ c t. t; done = λ c t f. absurd (clash t f) })

module _ {number : ℕ → ℕ} {pairs : List ℕ} {rows left : ℕ} (w : Clearing number pairs rows left) {low after : ℕ} (f : First left low after) where
  pub clearing_row : has rows low ≡ true
  clearing_row = w.within low (first_member w.word f)

  pub clearing_next : {partner : ℕ} → partner ≡ lowest (get_or pairs low 0) → number low ≡ number partner → Clearing number pairs rows after
  clearing_next {partner} k e =
      record {
        word = first_word w.word f;
        within = λ c t. w.within c (and_l (has left c) (not (eqb low c)) (sym (first_others w.word f c) ∙ t));
        done = λ c t u.
            by_test (eqb low c)
            (λ q. subst (λ (n : ℕ). number n ≡ number (lowest (get_or pairs n 0))) (eqb-true low c q) (e ∙ ap number k))
            (λ q. w.done c t (sym (first_others w.word f c ∙ ap (λ (x : Bool). has left c && not x) q ∙ and-true (has left c)) ∙ u));
      }

pub partner_there : {matrix : Matrix} {pairs : List ℕ} {rows : ℕ} (s : Sound pairs) (l : Listed rows pairs) (c : ℕ) {partner : ℕ} → There matrix pairs → has rows c ≡ true
    → partner ≡ lowest (get_or pairs c 0) → suc partner * matrix.width ≤ length matrix.work.now
partner_there {matrix} {pairs} s l c t h e =
    subst (λ (n : ℕ). suc n * matrix.width ≤ length matrix.work.now) (sym e)
    (t.each (lowest (get_or pairs c 0)) c (s.back c (lowest (get_or pairs c 0)) (listed_pair s l c h)))

-- where there is no pair, no entry tells one apart
pub clear_all : (coef : ℕ → ℕ → ℕ) {pairs : List ℕ} {rows : ℕ} → Listed rows pairs → rows ≡ 0 → (e : ℕ) → clear coef (pair_of pairs) e ≡ true
unfolding clear
clear_all coef {pairs} l z e =
    ap not (none_meets (pair_of pairs) (λ a b. not (equal_at coef e a b)) (λ a b h k t. absurd (clash t (none_listed l z a b))))

module _ (coef : ℕ → ℕ → ℕ) (e : ℕ) {pairs : List ℕ} {rows : ℕ} (s : Sound pairs) (l : Listed rows pairs) where
  pub clearing_none : {left : ℕ} → Clearing (λ c. coef c e) pairs rows left → left ≡ 0 → true ≡ clear coef (pair_of pairs) e
  unfolding clear
  clearing_none {left} w z =
      sym (ap not (none_meets (pair_of pairs) (λ a b. not (equal_at coef e a b))
      (λ a b h k t. ap not (eq-eqb (coef a e) (coef b e) (pair_same s (λ c. coef c e) each a b t)))))
    where
      each : (a b : ℕ) → pair_of pairs a b ≡ true → coef a e ≡ coef (lowest (get_or pairs a 0)) e
      each a b t = w.done a (pair_listed l a b t) (ap (λ (n : ℕ). has n a) z ∙ has_none a)

  pub clearing_stop : (c : ℕ) {partner : ℕ} → has rows c ≡ true → partner ≡ lowest (get_or pairs c 0) → (coef c e ≡ coef partner e → ⊥)
      → false ≡ clear coef (pair_of pairs) e
  unfolding clear
  clearing_stop c {partner} t k f =
      sym (ap not (sound_meets s (λ a b. not (equal_at coef e a b)) (λ a b u. other a b u) c partner
      (ap (pair_of pairs c) k ∙ listed_pair s l c t) (ap not (ne_eqb (coef c e) (coef partner e) f))))
    where
      other : (a b : ℕ) → not (equal_at coef e a b) ≡ true → not (equal_at coef e b a) ≡ true
      other a b u = ap not (ne_eqb (coef b e) (coef a e) (λ x. eqb-false (coef a e) (coef b e) (not-true (equal_at coef e a b) u) (sym x)))
