-- The pairs before any entry is taken: two rows whose marks differ (specs/Pairing.antt, `Paired`).
--
--   Marking          what a loop knows that has put the first rows into the sets of their marks
--   marking_start, marking_next, marking_end   its start, its step and its end
--   Coupling         what a loop knows that has paired the first rows
--   coupling_start, coupling_next, coupling_end   its start, its step and its end
--   base_sound, base_there   such pairs are sound, and their rows are there
use Prim.Native.Nat.{ℕ, ◌+◌, ◌*◌, ◌^◌, ◌≤◌, ◌<◌}
use native.Mathlib.Nat.{le_trans, mul-le-mul_right}
use native.Mathlib.Omega.{arith}
use mathlib.Core.Path.{◌≡◌, refl, sym, ap, ap₂, subst, ◌∙◌}
use mathlib.Core.Bool.{Bool, true, false, not, ◌&&◌, ◌||◌, and-true, and-false, or-false}
use mathlib.Core.Logic.{⊎_elim}
use mathlib.Core.List.{List, []}
use borrow.Author.Tests.{eqb-true, eqb-false, eq-eqb, ltb-true, lt-ltb, le-ltb}
use lib.Bits.{bit_xor, xor_lt}
use lib.Dec.{eqb, ltb}
use lib.ListN.{length, get_or, set, replicate, length-set, length-replicate}
use lib.Seq.{get_or-set_same, get_or-set_other}
use Rattle.bits.specs.Sets.{has, joined, max_members}
use Rattle.bits.proofs.Below.{lt_or_ge}
use Rattle.bits.proofs.Packed.{get_or_zeros}
use Rattle.bits.proofs.Membership.{either, has_none, has_xor, set_joined, joined_word}
use Rattle.bits.proofs.Tests.{and_l, and_r, and_i, clash, by_test, same_test}
use Rattle.chooser.specs.Matrix.{max_rows, differ}
use Rattle.chooser.specs.declared.matrix.Matrix.{Matrix}
use Rattle.chooser.specs.Pairing.{pair_of, base, max_marks, Counted, Marked, Paired, There, Sound}

row_member : {c : ℕ} → c < max_rows → c < max_members
unfolding max_rows max_members
row_member h = h

count_next : (c k : ℕ) → ltb k (c + 1) ≡ ltb k c || eqb c k
count_next c k =
    ⊎_elim
    (λ h. lt-ltb k (c + 1) (omega arith) ∙ sym (ap (λ (t : Bool). t || eqb c k) (lt-ltb k c h)))
    (λ h. by_test (eqb c k)
    (λ t. lt-ltb k (c + 1) (omega (arith, eqb-true c k t)) ∙ sym (simp (t, le-ltb k c h)))
    (λ f. le-ltb k (c + 1) (above h (eqb-false c k f)) ∙ sym (simp (f, le-ltb k c h))))
    (lt_or_ge k c)
  where
    above : c ≤ k → (c ≡ k → ⊥) → c + 1 ≤ k
    above h n = omega arith

-- ---- the rows of each mark

pub record Marking (rows : ℕ) (marks sets : List ℕ) (all c : ℕ) : Type 0 where
  pub within : c ≤ rows
  pub word : all < 2 ^ 64
  pub counted : Counted c all
  pub marked : Marked c marks sets

none_below : (k : ℕ) (t : Bool) → has 0 k ≡ ltb k 0 && t
none_below k t = has_none k ∙ sym (ap (λ (x : Bool). x && t) (le-ltb k 0 (omega arith)))

pub marking_start : (rows : ℕ) (marks sets : List ℕ) → sets ≡ replicate max_marks 0 → Marking rows marks sets 0 0
marking_start rows marks sets e =
    let zero : (m : ℕ) → get_or sets m 0 ≡ 0 = λ m. ap (λ (l : List ℕ). get_or l m 0) e ∙ get_or_zeros [] max_marks m in
    record {
      within = omega arith;
      word = omega arith;
      counted = record { each = λ k. none_below k true ∙ and-true (ltb k 0) };
      marked =
          record {
            size = ap length e ∙ length-replicate {A = ℕ} max_marks 0;
            word = λ m. subst (λ (n : ℕ). n < 2 ^ 64) (sym (zero m)) (omega arith);
            each = λ m k h. ap (λ (n : ℕ). has n k) (zero m) ∙ none_below k (eqb (get_or marks k 0) m);
          };
    }

-- one row more, where the test s holds of it
put_in : (x q t s : Bool) → (q ≡ true → t ≡ s) → (x && t) || (q && s) ≡ (x || q) && t
put_in x true t s f = simp (f refl) (last x s)
  where
    last : (x s : Bool) → (x && s) || s ≡ (x || true) && s
    last true true = refl
    last true false = refl
    last false s = refl
put_in true false t s f = or-false t
put_in false false t s f = refl

module _ {rows : ℕ} {marks sets : List ℕ} {all c : ℕ} (w : Marking rows marks sets all c) (most : rows ≤ max_rows) (h : c < rows) where
  abbrev mark : ℕ
  mark = get_or marks c 0

  row : c < max_members
  row = row_member (omega arith)

  -- the set of a mark, one row later
  later_set : mark < max_marks → (m k : ℕ) → has (get_or (set sets mark (joined (get_or sets mark 0) c)) m 0) k ≡ has (get_or sets m 0) k || (eqb c k && eqb mark m)
  later_set l m k =
      by_test (eqb mark m)
      (λ t. subst (λ (n : ℕ). has (get_or (set sets mark (joined (get_or sets mark 0) c)) n 0) k ≡ has (get_or sets n 0) k || (eqb c k && eqb mark m)) (eqb-true mark m t)
      (ap (λ (n : ℕ). has n k) (get_or-set_same sets mark (joined (get_or sets mark 0) c) 0 (subst (λ (n : ℕ). mark < n) (sym w.marked.size) l))
      ∙ set_joined (get_or sets mark 0) c k row
      ∙ ap (λ (t : Bool). has (get_or sets mark 0) k || t) (sym (ap (λ (u : Bool). eqb c k && u) t ∙ and-true (eqb c k)))))
      (λ f. ap (λ (n : ℕ). has n k) (get_or-set_other sets mark m (joined (get_or sets mark 0) c) 0 (λ (e : m ≡ mark). eqb-false mark m f (sym e)))
      ∙ sym (ap (λ (t : Bool). has (get_or sets m 0) k || t) (ap (λ (u : Bool). eqb c k && u) f ∙ and-false (eqb c k)) ∙ or-false (has (get_or sets m 0) k)))

  later_word : mark < max_marks → (m : ℕ) → get_or (set sets mark (joined (get_or sets mark 0) c)) m 0 < 2 ^ 64
  later_word l m =
      by_test (eqb mark m)
      (λ t. subst (λ (n : ℕ). get_or (set sets mark (joined (get_or sets mark 0) c)) n 0 < 2 ^ 64) (eqb-true mark m t)
      (subst (λ (n : ℕ). n < 2 ^ 64)
      (sym (get_or-set_same sets mark (joined (get_or sets mark 0) c) 0 (subst (λ (n : ℕ). mark < n) (sym w.marked.size) l)))
      (joined_word c (w.marked.word mark))))
      (λ f. subst (λ (n : ℕ). n < 2 ^ 64)
      (sym (get_or-set_other sets mark m (joined (get_or sets mark 0) c) 0 (λ (e : m ≡ mark). eqb-false mark m f (sym e))))
      (w.marked.word m))

  pub marking_next : {these more : ℕ} → get_or marks c 0 < max_marks → these ≡ joined (get_or sets (get_or marks c 0) 0) c → more ≡ joined all c
      → Marking rows marks (set sets (get_or marks c 0) these) more (c + 1)
  marking_next {these} {more} l p q =
      subst (λ (n : ℕ). Marking rows marks (set sets mark n) more (c + 1)) (sym p)
      (subst (λ (n : ℕ). Marking rows marks (set sets mark (joined (get_or sets mark 0) c)) n (c + 1)) (sym q) (record {
        within = omega arith;
        word = joined_word c w.word;
        counted = record { each = λ k. set_joined all c k row ∙ ap (λ (t : Bool). t || eqb c k) (w.counted.each k) ∙ sym (count_next c k) };
        marked =
            record {
              size = length-set sets mark (joined (get_or sets mark 0) c) ∙ w.marked.size;
              word = later_word l;
              each = λ m k b.
                  later_set l m k ∙ ap (λ (t : Bool). t || (eqb c k && eqb mark m)) (w.marked.each m k b)
                  ∙ put_in (ltb k c) (eqb c k) (eqb (get_or marks k 0) m) (eqb mark m)
                  (λ t. ap (λ (n : ℕ). eqb (get_or marks n 0) m) (sym (eqb-true c k t)))
                  ∙ ap (λ (t : Bool). t && eqb (get_or marks k 0) m) (sym (count_next c k));
            };
      }))

pub marking_end : {rows : ℕ} {marks sets : List ℕ} {all c : ℕ} → Marking rows marks sets all c → rows ≤ c → Counted rows all × Marked rows marks sets
marking_end {rows} {marks} {sets} {all} {c} w h =
    let e : c ≡ rows = omega (arith, w.within) in
    (subst (λ (n : ℕ). Counted n all) e w.counted, subst (λ (n : ℕ). Marked n marks sets) e w.marked)

-- ---- each row with the rows of other marks

pub record Coupling (rows : ℕ) (marks pairs : List ℕ) (c : ℕ) : Type 0 where
  pub within : c ≤ rows
  pub size : length pairs ≡ max_rows
  pub words : (a : ℕ) → get_or pairs a 0 < 2 ^ 64
  pub each : (a b : ℕ) → pair_of pairs a b ≡ ltb a c && (ltb b rows && differ marks a b)

pub coupling_start : (rows : ℕ) (marks pairs : List ℕ) → pairs ≡ replicate max_rows 0 → Coupling rows marks pairs 0
unfolding pair_of
coupling_start rows marks pairs e =
    let zero : (a : ℕ) → get_or pairs a 0 ≡ 0 = λ a. ap (λ (l : List ℕ). get_or l a 0) e ∙ get_or_zeros [] max_rows a in
    record {
      within = omega arith;
      size = ap length e ∙ length-replicate {A = ℕ} max_rows 0;
      words = λ a. subst (λ (n : ℕ). n < 2 ^ 64) (sym (zero a)) (omega arith);
      each = λ a b. ap (λ (n : ℕ). has n b) (zero a) ∙ has_none b
          ∙ sym (ap (λ (t : Bool). t && (ltb b rows && differ marks a b)) (le-ltb a 0 (omega arith)));
    }

eqb_back : (a b : ℕ) → eqb a b ≡ eqb b a
eqb_back a b = same_test (λ t. eq-eqb b a (sym (eqb-true a b t))) (λ t. eq-eqb a b (sym (eqb-true b a t)))

-- all but some of them
all_but : (x t : Bool) → either x (x && t) ≡ x && not t
all_but true t = refl
all_but false t = refl

module _ {rows : ℕ} {marks pairs : List ℕ} {c : ℕ} (w : Coupling rows marks pairs c) (most : rows ≤ max_rows) (h : c < rows)
    {all : ℕ} {sets : List ℕ} (counted : Counted rows all) (marked : Marked rows marks sets) (l : get_or marks c 0 < max_marks) where
  abbrev others : ℕ
  others = bit_xor all (get_or sets (get_or marks c 0) 0)

  inside : c < length pairs
  inside = subst (λ (n : ℕ). c < n) (sym w.size) (omega arith)

  others_each : (b : ℕ) → has others b ≡ ltb b rows && differ marks c b
  others_each b =
      has_xor all (get_or sets (get_or marks c 0) 0) b
      ∙ ap₂ either (counted.each b) (marked.each (get_or marks c 0) b l)
      ∙ all_but (ltb b rows) (eqb (get_or marks b 0) (get_or marks c 0))
      ∙ ap (λ (t : Bool). ltb b rows && not t) (eqb_back (get_or marks b 0) (get_or marks c 0))

  pub coupling_next : all < 2 ^ 64
      → Coupling rows marks (set pairs c (bit_xor all (get_or sets (get_or marks c 0) 0))) (c + 1)
  unfolding pair_of
  coupling_next few =
      record {
        within = omega arith;
        size = length-set pairs c others ∙ w.size;
        words = λ a.
            by_test (eqb c a)
            (λ t. subst (λ (n : ℕ). get_or (set pairs c others) n 0 < 2 ^ 64) (eqb-true c a t)
            (subst (λ (n : ℕ). n < 2 ^ 64) (sym (get_or-set_same pairs c others 0 inside)) (xor_lt 64 all (get_or sets (get_or marks c 0) 0) few (marked.word (get_or marks c 0)))))
            (λ f. subst (λ (n : ℕ). n < 2 ^ 64) (sym (get_or-set_other pairs c a others 0 (λ (e : a ≡ c). eqb-false c a f (sym e)))) (w.words a));
        each = λ a b.
            by_test (eqb c a)
            (λ t. subst (λ (n : ℕ). has (get_or (set pairs c others) n 0) b ≡ ltb n (c + 1) && (ltb b rows && differ marks n b)) (eqb-true c a t)
            (ap (λ (n : ℕ). has n b) (get_or-set_same pairs c others 0 inside) ∙ others_each b
            ∙ sym (ap (λ (t : Bool). t && (ltb b rows && differ marks c b)) (lt-ltb c (c + 1) (omega arith)))))
            (λ f. ap (λ (n : ℕ). has n b) (get_or-set_other pairs c a others 0 (λ (e : a ≡ c). eqb-false c a f (sym e)))
            ∙ w.each a b
            ∙ ap (λ (t : Bool). t && (ltb b rows && differ marks a b))
            (sym (count_next c a ∙ ap (λ (t : Bool). ltb a c || t) f ∙ or-false (ltb a c))));
      }

pub coupling_end : {rows : ℕ} {marks pairs : List ℕ} {c : ℕ} → Coupling rows marks pairs c → rows ≤ c → Paired rows marks pairs
coupling_end {rows} {marks} {pairs} {c} w h =
    let e : c ≡ rows = omega (arith, w.within) in
    record {
      size = w.size;
      word = w.words;
      each = λ a b. w.each a b ∙ ap (λ (n : ℕ). ltb a n && (ltb b rows && differ marks a b)) e;
    }

-- ---- such pairs

module _ {rows : ℕ} {marks pairs : List ℕ} (w : Paired rows marks pairs) where
  is_base : (a b : ℕ) → pair_of pairs a b ≡ true → base rows marks a b ≡ true
  is_base a b t = sym (w.each a b) ∙ t

  low_row : (a b : ℕ) → pair_of pairs a b ≡ true → ltb a rows ≡ true
  low_row a b t = and_l (ltb a rows) (ltb b rows && differ marks a b) (is_base a b t)

  high_row : (a b : ℕ) → pair_of pairs a b ≡ true → ltb b rows ≡ true
  high_row a b t = and_l (ltb b rows) (differ marks a b) (and_r (ltb a rows) (ltb b rows && differ marks a b) (is_base a b t))

  marks_differ : (a b : ℕ) → pair_of pairs a b ≡ true → differ marks a b ≡ true
  marks_differ a b t = and_r (ltb b rows) (differ marks a b) (and_r (ltb a rows) (ltb b rows && differ marks a b) (is_base a b t))

  -- two rows that are no pair have one mark
  one_mark : (a c : ℕ) → ltb a rows ≡ true → ltb c rows ≡ true → pair_of pairs a c ≡ false → get_or marks a 0 ≡ get_or marks c 0
  one_mark a c x y f =
      by_test (eqb (get_or marks a 0) (get_or marks c 0)) (λ t. eqb-true (get_or marks a 0) (get_or marks c 0) t)
      (λ n. absurd (clash (w.each a c ∙ and_i x (and_i y (ap not n))) f))

  pub base_sound : Sound pairs
  base_sound =
      record {
        size = w.size;
        word = w.word;
        back = λ a b t.
            w.each b a ∙ and_i (high_row a b t) (and_i (low_row a b t) (ap not (eqb_back (get_or marks b 0) (get_or marks a 0)) ∙ marks_differ a b t));
        itself = λ a.
            w.each a a ∙ ap (λ (t : Bool). ltb a rows && (ltb a rows && not t)) (eq-eqb (get_or marks a 0) (get_or marks a 0) refl)
            ∙ ap (λ (t : Bool). ltb a rows && t) (and-false (ltb a rows)) ∙ and-false (ltb a rows);
        alike = λ a b c d t u f.
            let x : ltb a rows ≡ true = low_row a b t in
            let y : ltb c rows ≡ true = low_row c b u in
            w.each a d
            ∙ ap₂ (λ (s : Bool) (m : ℕ). s && (ltb d rows && not (eqb m (get_or marks d 0)))) (x ∙ sym y) (one_mark a c x y f)
            ∙ sym (w.each c d);
      }

  pub base_there : {matrix : Matrix} → rows * matrix.width ≤ length matrix.work.now → There matrix pairs
  base_there {matrix} h =
      record { each = λ a b t. le_trans (mul-le-mul_right matrix.width (ltb-true a rows (low_row a b t))) h }
