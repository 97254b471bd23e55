-- Laws of the gate step by words (specs/Words.antt).
--
--   written_part     the first bytes of what a loop is to write
--   written_some     so many bytes more, written at once
--   word_put         the eight bytes of a word, stored one after the other
--   word_stepped     the gate step of two words is that of their bytes
--   words_put        two words of it, side by side
--   step_more        so many bytes more of it, from the rows as they are by then
--   places_more      the same at places so much further on
use Prim.Native.Nat.{ℕ, zero, suc, ◌+◌, ◌≤◌, ◌<◌}
use native.Mathlib.Nat.{add-zero, add_assoc}
use native.Mathlib.Numerals.{add-one}
use native.Mathlib.Omega.{arith}
use mathlib.Core.Path.{◌≡◌, refl, sym, ap, ap₂, subst, ◌∙◌}
use mathlib.Core.List.{List}
use lib.ListN.{length, get_or, set}
use Rattle.bits.specs.Packed.{tabulate}
use Rattle.bits.specs.Slices.{splice}
use Rattle.bits.proofs.Splice.{Written, written_none, written_more, written_length, written_before, written_all}
use Rattle.gates.specs.Polynomial.{step, combined}
use Rattle.gates.specs.Words.{word_of, bytes_of, word_step, gate_step, further, stepped, Apart}
use Rattle.gates.specs.declared.Polynomial.{Polynomial}
use Rattle.gates.specs.declared.step.Places.{Places}
use Rattle.gates.specs.declared.step.Word.{Word}

pub written_part : (start : List ℕ) (to count : ℕ) (f : ℕ → ℕ) (k : ℕ) → to + count ≤ length start → k ≤ count
    → Written start to count f (splice start to (tabulate k f)) k
written_part start to count f k h l = record { room = h; within = l; so_far = refl }

module _ {start : List ℕ} {to count : ℕ} {f : ℕ → ℕ} {rows : List ℕ} {i : ℕ} (w : Written start to count f rows i) where
  -- one byte more, by the rows as the first i bytes left them
  set_next : (k : ℕ) (g : ℕ → ℕ) → i + suc k ≤ count → set (splice rows (to + i) (tabulate k g)) (to + (i + k)) (g k) ≡ splice rows (to + i) (tabulate (suc k) g)
  set_next k g h =
      ap (λ (j : ℕ). set (splice rows (to + i) (tabulate k g)) j (g k)) (sym (add_assoc to i k))
      ∙ (written_more (written_part rows (to + i) (k + 1) g k (omega (arith, written_length w)) (omega arith)) (g k) (omega arith) refl).so_far
      ∙ ap (λ (n : ℕ). splice rows (to + i) (tabulate n g)) (add-one k)

  pub written_some : (k : ℕ) (g : ℕ → ℕ) → i + k ≤ count → ((j : ℕ) → j < k → g j ≡ f (i + j))
      → Written start to count f (splice rows (to + i) (tabulate k g)) (i + k)
  written_some zero g h same =
      let none : Written rows (to + i) 0 g rows 0 = written_none (omega (arith, written_length w)) in
      subst (λ (r : List ℕ). Written start to count f r (i + 0)) none.so_far (rw add-zero w)
  written_some (suc k) g h same =
      let more = written_more (written_some k g (omega arith) (λ j l. same j (omega arith))) (g k) (omega arith) (same k (omega arith)) in
      let e : i + k + 1 ≡ i + suc k = omega arith in
      subst (λ (r : List ℕ). Written start to count f r (i + suc k)) (set_next k g h) (rw e at more)

-- ---- a word

module _ (rows : List ℕ) (to : ℕ) (w : Word) (h : to + 8 ≤ length rows) where
  byte : ℕ → ℕ
  byte i = get_or (bytes_of w) i 0

  pub word_put : set (set (set (set (set (set (set (set rows to w.b0) (to + 1) w.b1) (to + 2) w.b2) (to + 3) w.b3) (to + 4) w.b4) (to + 5) w.b5) (to + 6) w.b6) (to + 7) w.b7
      ≡ splice rows to (bytes_of w)
  unfolding tabulate byte
  word_put =
      let none : Written rows to 8 byte rows 0 = written_none h in
      let first : Written rows to 8 byte (set rows to w.b0) 1 = rw add-zero at (written_more none w.b0 (omega arith) refl) in
      written_all
      (written_more (written_more (written_more (written_more (written_more (written_more (written_more first
      w.b1 (omega arith) refl) w.b2 (omega arith) refl) w.b3 (omega arith) refl) w.b4 (omega arith) refl) w.b5 (omega arith) refl)
      w.b6 (omega arith) refl) w.b7 (omega arith) refl)
      (omega arith)

pub word_stepped : (f : Polynomial) (x y : ℕ) (rows : List ℕ) {u v w : Word} → u ≡ word_of (λ i. get_or rows (x + i) 0) → v ≡ word_of (λ i. get_or rows (y + i) 0) → w ≡ word_step f u v
    → bytes_of w ≡ tabulate 8 (combined f x y rows)
unfolding tabulate
word_stepped f x y rows first second stepped = ap bytes_of (stepped ∙ ap₂ (word_step f) first second)

-- ---- the gate step

module _ (f : Polynomial) (x y : ℕ) {to count : ℕ} {start rows : List ℕ} {i : ℕ} (first : x + count ≤ to) (second : y + count ≤ to)
    (w : Written start to count (combined f x y start) rows i) where
  -- what is read stands before all that is written
  combined_later : (j : ℕ) → i + j < count → combined f (x + i) (y + i) rows j ≡ combined f x y start (i + j)
  combined_later j h =
      ap₂ (step f) (ap (λ (k : ℕ). get_or rows k 0) (add_assoc x i j) ∙ written_before w (x + (i + j)) (omega arith))
      (ap (λ (k : ℕ). get_or rows k 0) (add_assoc y i j) ∙ written_before w (y + (i + j)) (omega arith))

  pub step_more : (k : ℕ) → i + k ≤ count → Written start to count (combined f x y start) (gate_step f (x + i) (y + i) (to + i) k rows) (i + k)
  step_more k h = written_some w k (combined f (x + i) (y + i) rows) h (λ j l. combined_later j (omega arith))

-- the same at places so much further on
pub places_more : (f : Polynomial) (p : Places) {count i m j : ℕ} {start rows after : List ℕ} {q : Places} → Apart p count start
    → Written start p.to count (combined f p.x p.y start) rows i → q ≡ further p m → m ≡ i → (k : ℕ) → after ≡ stepped f q k rows → i + k ≡ j → j ≤ count
    → Written start p.to count (combined f p.x p.y start) after j
places_more f p {count} {i} {m} {j} {start} {rows} {after} (first, second, room) w at here k put e h =
    let same : after ≡ stepped f (further p i) k rows = put ∙ ap (λ (q : Places). stepped f q k rows) (at ∙ ap (further p) here) in
    subst (λ (n : ℕ). Written start p.to count (combined f p.x p.y start) after n) e
    (subst (λ (r : List ℕ). Written start p.to count (combined f p.x p.y start) r (i + k)) (sym same) (step_more f p.x p.y first second w k (omega arith)))

-- both words are worked out before the first is put
pub words_put : (f : Polynomial) (x y to : ℕ) (rows : List ℕ) {one other : List ℕ} → to + 16 ≤ length rows
    → one ≡ tabulate 8 (combined f x y rows) → other ≡ tabulate 8 (combined f (x + 8) (y + 8) rows) → splice (splice rows to one) (to + 8) other ≡ gate_step f x y to 16 rows
words_put f x y to rows room first second =
    ap₂ (λ (a b : List ℕ). splice (splice rows to a) (to + 8) b) first second
    ∙ written_all
    (written_some (written_part rows to 16 (combined f x y rows) 8 room (omega arith)) 8 (combined f (x + 8) (y + 8) rows) (omega arith)
    (λ j l. ap₂ (λ (a b : ℕ). step f (get_or rows a 0) (get_or rows b 0)) (add_assoc x 8 j) (add_assoc y 8 j)))
    (omega arith)
