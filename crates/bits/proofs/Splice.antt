-- Laws of new bytes in the place of old ones (specs/Slices.antt).
--
--   length_splice     the bytes are as many as before
--   splice_start      new bytes at the start, then the rest as it was
--   splice_whole      new bytes in the place of all
--   splice_before     the bytes before the new ones are as they were
--   Written           what a loop has done that writes `count` bytes from a place on, one a turn
--   written_none      it has written nothing yet
--   written_more      a turn writes one byte more
--   written_length    the bytes are as many as before
--   written_before    the bytes before the place are as they were
--   written_all       all are written
--   filled_more, filled_all   the same from the start of a list on
use Prim.Native.Nat.{ℕ, suc, ◌+◌, ◌≤◌, ◌<◌, zero-le}
use native.Mathlib.Omega.{arith}
use native.Mathlib.Nat.{add-zero, zero-add, le_antisymm}
use mathlib.Core.Path.{◌≡◌, sym, ap, subst, ◌∙◌}
use mathlib.Core.List.{List, [], ◌∷◌, ◌++◌, append_assoc, append-nil}
use lib.ListN.{length, get_or, take, drop, set, length-append, length-take, length-drop, take-append-drop, drop_of_length-le, get_or-append}
use lib.Seq.{drop-cons, set_at, get_or-take, append_snoc}
use Rattle.bits.specs.Packed.{tabulate}
use Rattle.bits.proofs.Packed.{length_tabulate, tabulate_more}
use Rattle.bits.specs.Slices.{splice}

module _ (rows : List ℕ) (to : ℕ) (new : List ℕ) where
  pub length_splice : to + length new ≤ length rows → length (splice rows to new) ≡ length rows
  length_splice h = simp (length-append, length-take, length-drop) (omega arith)

  pub splice_before : (j : ℕ) → to ≤ length rows → j < to → get_or (splice rows to new) j 0 ≡ get_or rows j 0
  splice_before j h l =
      get_or-append (take to rows ++ new) (drop (to + length new) rows) 0 j (simp (length-append, length-take) (omega arith))
      ∙ get_or-append (take to rows) new 0 j (simp length-take (omega arith)) ∙ get_or-take to rows j 0 l

  length_head : to + length new ≤ length rows → length (take to rows ++ new) ≡ to + length new
  length_head h = simp (length-append, length-take) (omega arith)

  suc_end : (v : ℕ) → suc (to + length new) ≡ to + length (new ++ (v ∷ []))
  suc_end v = rw length-append (omega arith)

  splice_snoc : (v : ℕ) → to + length new < length rows → set (splice rows to new) (to + length new) v ≡ splice rows to (new ++ (v ∷ []))
  splice_snoc v h =
      ap (λ (l : List ℕ). set (take to rows ++ new ++ l) (to + length new) v) (drop-cons rows (to + length new) 0 h)
      ∙ set_at (take to rows ++ new) (get_or rows (to + length new) 0) (drop (suc (to + length new)) rows) v (to + length new) (length_head (omega arith))
      ∙ sym (append_snoc (take to rows ++ new) v (drop (suc (to + length new)) rows))
      ∙ ap (λ (l : List ℕ). l ++ drop (suc (to + length new)) rows) (append_assoc (take to rows) new (v ∷ []))
      ∙ ap (λ (n : ℕ). take to rows ++ (new ++ (v ∷ [])) ++ drop n rows) (suc_end v)

splice_none : (rows : List ℕ) (to : ℕ) (f : ℕ → ℕ) → rows ≡ splice rows to (tabulate 0 f)
unfolding tabulate
splice_none rows to f = rw (add-zero, append-nil) (sym (take-append-drop to rows))

splice_more : (rows : List ℕ) (to : ℕ) (f : ℕ → ℕ) (i : ℕ) → to + i < length rows
    → set (splice rows to (tabulate i f)) (to + i) (f i) ≡ splice rows to (tabulate (i + 1) f)
splice_more rows to f i h =
    ap (λ (n : ℕ). set (splice rows to (tabulate i f)) (to + n) (f i)) (sym (length_tabulate i f))
    ∙ splice_snoc rows to (tabulate i f) (f i) (rw length_tabulate h) ∙ ap (splice rows to) (sym (tabulate_more i f))

pub splice_start : (out new : List ℕ) → splice out 0 new ≡ new ++ drop (length new) out
splice_start out new = ap (λ (k : ℕ). new ++ drop k out) (zero-add (length new))

pub splice_whole : (start new : List ℕ) → length new ≡ length start → splice start 0 new ≡ new
splice_whole start new e =
    splice_start start new ∙ ap (λ (l : List ℕ). new ++ l) (drop_of_length-le start {i = length new} (omega arith)) ∙ append-nil new

pub record Written (start : List ℕ) (to count : ℕ) (f : ℕ → ℕ) (rows : List ℕ) (i : ℕ) : Type 0 where
  pub room : to + count ≤ length start
  pub within : i ≤ count
  pub so_far : rows ≡ splice start to (tabulate i f)

module _ {start : List ℕ} {to count : ℕ} {f : ℕ → ℕ} where
  pub written_none : to + count ≤ length start → Written start to count f start 0
  written_none h = record { room = h; within = zero-le; so_far = splice_none start to f }

  module _ {rows : List ℕ} {i : ℕ} (w : Written start to count f rows i) where
    pub written_length : length rows ≡ length start
    written_length = ap length w.so_far ∙ length_splice start to (tabulate i f) (rw length_tabulate (omega arith))

    pub written_before : (j : ℕ) → j < to → get_or rows j 0 ≡ get_or start j 0
    written_before j l = ap (λ (s : List ℕ). get_or s j 0) w.so_far ∙ splice_before start to (tabulate i f) j (omega arith) l

    pub written_more : (v : ℕ) → i < count → v ≡ f i → Written start to count f (set rows (to + i) v) (i + 1)
    written_more v h e =
        record {
          room = w.room;
          within = omega arith;
          so_far = rw (w.so_far, e) (splice_more start to f i (omega arith));
        }

    pub written_all : count ≤ i → rows ≡ splice start to (tabulate count f)
    written_all h = w.so_far ∙ ap (λ (n : ℕ). splice start to (tabulate n f)) (le_antisymm w.within h)

-- ---- from the start of a list on

module _ {start : List ℕ} {count : ℕ} {f : ℕ → ℕ} {rows : List ℕ} {i : ℕ} (w : Written start 0 count f rows i) where
  pub filled_more : (v : ℕ) → i < count → v ≡ f i → Written start 0 count f (set rows i v) (i + 1)
  filled_more v h e = subst (λ (j : ℕ). Written start 0 count f (set rows j v) (i + 1)) (zero-add i) (written_more w v h e)

  pub filled_all : length start ≡ count → count ≤ i → rows ≡ tabulate count f
  filled_all e h = written_all w h ∙ splice_whole start (tabulate count f) (length_tabulate count f ∙ sym e)
