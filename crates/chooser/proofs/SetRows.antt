-- The union of a set for each row, and what it says of pairs: the rows that are in a pair, and whether a pair is in two lists (specs/Pairing.antt, `Listed`,
-- `meets`).
--
--   Union          what a loop knows that has joined the sets of the first rows
--   union_start, union_next   its start and its step
--   union_listed   the union of the partners of all rows has the rows that are in a pair
--   common         the partners that a row has in both lists
--   common_word    they fit a word
--   union_apart    the union of these is empty where no pair is in both lists
use Prim.Native.Nat.{ℕ, ◌+◌, ◌^◌, ◌≤◌, ◌<◌}
use native.Mathlib.Nat.{lt_of_le_of_lt}
use native.Mathlib.Numerals.{add-one}
use native.Mathlib.Omega.{arith}
use mathlib.Core.Path.{◌≡◌, sym, ap, ◌∙◌}
use mathlib.Core.Bool.{Bool, true, false, not, ◌||◌}
use mathlib.Core.List.{List}
use borrow.Author.Tests.{eqb-true, eqb-false, ne_eqb}
use lib.Bits.{bit_and, bit_or, and_le_l}
use lib.Dec.{eqb}
use lib.ListN.{get_or}
use Rattle.bits.specs.Sets.{has, lowest}
use Rattle.bits.proofs.Membership.{has_none, has_and, has_or, set_some, set_lowest, union_word}
use Rattle.bits.proofs.Tests.{and_l, and_r, and_i, clash, by_test, same_test}
use Rattle.method.specs.Method.{some_below}
use Rattle.method.proofs.Pairs.{some_below_some, some_some_below}
use Rattle.chooser.specs.Matrix.{max_rows}
use Rattle.chooser.specs.Pairing.{pair_of, Listed, Sound, meets}
use Rattle.chooser.proofs.CommonPairs.{none_meets}
use Rattle.chooser.proofs.Soundness.{positive, pair_below, sound_meets}

pub record Union (sets : ℕ → ℕ) (all c : ℕ) : Type 0 where
  pub within : c ≤ max_rows
  pub word : all < 2 ^ 64
  pub each : (k : ℕ) → has all k ≡ some_below c (λ a. has (sets a) k)

pub union_start : (sets : ℕ → ℕ) → Union sets 0 0
unfolding some_below
union_start sets = record { within = omega arith; word = omega arith; each = has_none }

pub union_next : (sets : ℕ → ℕ) {all : ℕ} (c : ℕ) → Union sets all c → c < max_rows → sets c < 2 ^ 64 → Union sets (bit_or all (sets c)) (c + 1)
unfolding some_below
union_next sets {all} c w h l =
    record {
      within = omega arith;
      word = union_word w.word l;
      each = λ k.
          has_or all (sets c) k ∙ ap (λ (t : Bool). t || has (sets c) k) (w.each k)
          ∙ ap (λ (n : ℕ). some_below n (λ a. has (sets a) k)) (sym (add-one c));
    }

module _ {pairs : List ℕ} (s : Sound pairs) where
  pub union_listed : {rows c : ℕ} → Union (λ a. get_or pairs a 0) rows c → max_rows ≤ c → Listed rows pairs
  unfolding pair_of
  union_listed {rows} {c} w h = record { each = λ k. w.each k ∙ same_test (partner k) (member k) }
    where
      partner : (k : ℕ) → some_below c (λ a. pair_of pairs a k) ≡ true → not (eqb (get_or pairs k 0) 0) ≡ true
      partner k t =
          let r : (a : ℕ) × (a < c) × (pair_of pairs a k ≡ true) = some_below_some (λ a. pair_of pairs a k) c t in
          ap not (ne_eqb (get_or pairs k 0) 0 (λ e. clash (s.back r.0 k r.2) (ap (λ (n : ℕ). has n r.0) e ∙ has_none r.0)))

      member : (k : ℕ) → not (eqb (get_or pairs k 0) 0) ≡ true → some_below c (λ a. pair_of pairs a k) ≡ true
      member k t =
          let low : ℕ = lowest (get_or pairs k 0) in
          let p : pair_of pairs low k ≡ true = s.back k low (set_lowest (get_or pairs k 0) (s.word k) (positive (get_or pairs k 0) t)).member in
          let b : low < max_rows = (pair_below s low k p).0 in
          some_some_below (λ a. pair_of pairs a k) c low (omega arith) p

abbrev pub common : List ℕ → List ℕ → ℕ → ℕ
common pairs others a = bit_and (get_or pairs a 0) (get_or others a 0)

module _ {pairs others : List ℕ} (s : Sound pairs) (o : Sound others) where
  pub common_word : (c : ℕ) → common pairs others c < 2 ^ 64
  common_word c = lt_of_le_of_lt (and_le_l (get_or pairs c 0) (get_or others c 0)) (s.word c)

  pub union_apart : {both c : ℕ} → Union (common pairs others) both c → max_rows ≤ c → eqb both 0 ≡ not (meets (pair_of pairs) (pair_of others))
  unfolding pair_of
  union_apart {both} {c} w h =
      by_test (eqb both 0) (λ t. t ∙ sym (ap not (none_meets (pair_of pairs) (pair_of others) (apart (eqb-true both 0 t)))))
      (λ f. f ∙ sym (ap not (shared (eqb-false both 0 f))))
    where
      apart : both ≡ 0 → (a b : ℕ) → a < b → b < max_rows → pair_of pairs a b ≡ true → pair_of others a b ≡ false
      apart e a b m n p =
          by_test (pair_of others a b)
          (λ q. absurd (clash (w.each b ∙ some_some_below (λ k. has (common pairs others k) b) c a (omega arith)
          (has_and (get_or pairs a 0) (get_or others a 0) b ∙ and_i p q)) (ap (λ (n : ℕ). has n b) e ∙ has_none b)))
          (λ q. q)

      shared : (both ≡ 0 → ⊥) → meets (pair_of pairs) (pair_of others) ≡ true
      shared f =
          let low : ℕ = lowest both in
          let r : (a : ℕ) × (a < c) × (has (common pairs others a) low ≡ true) =
          some_below_some (λ a. has (common pairs others a) low) c (sym (w.each low) ∙ (set_lowest both w.word (set_some f)).member) in
          let t = sym (has_and (get_or pairs r.0 0) (get_or others r.0 0) low) ∙ r.2 in
          sound_meets s (pair_of others) o.back r.0 low (and_l (pair_of pairs r.0 low) (pair_of others r.0 low) t)
          (and_r (pair_of pairs r.0 low) (pair_of others r.0 low) t)
