-- Laws of tables side by side (specs/Sizes.antt).
--
--   tabulate_block   bytes worked out one by one are a block of tables, each of the bytes at its own place
--   length_slice     a slice that ends within its list has as many numbers as it says
--   splice_none      no new bytes
--   splice_append    new bytes put behind new bytes
--   splice_again     new bytes put over as many new bytes
--   block_row        where a block is put, each of its rows holds its table
--   block_kept       every other row is as it was
--   Placed           what a loop has done that puts `count` lists of one length from a place on, one behind the other
--   placed_none      it has put nothing yet
--   placed_length    the bytes are as many as before
--   placed_room, placed_one   there is room for the next lists, or the next one
--   placed_next, placed_more   so many lists more, or one, are put
--   placed_all       all are put
use Prim.Native.Nat.{ℕ, zero, suc, ◌+◌, ◌*◌, ◌≤◌, ◌<◌, zero-le}
use native.Mathlib.Omega.{arith}
use native.Mathlib.Nat.{add-zero, add_assoc, add-mul, suc-mul, zero-mul, one-mul, not-suc-le-zero, le_of_suc-le-suc, eq-or-lt_of_le, le_antisymm, mul-le-mul_right}
use mathlib.Core.Path.{◌≡◌, sym, ap, ap₂, ◌∙◌}
use mathlib.Core.List.{List, [], ◌∷◌, ◌++◌, append_assoc, append-nil}
use mathlib.Core.Logic.{⊎_elim}
use lib.ListN.{length, take, drop, length-append, length-take, length-drop, take-append-drop}
use lib.Seq.{length-take-le, take_at, drop_at, drop-drop, drop-append-add}
use Rattle.bits.specs.Packed.{tabulate}
use Rattle.bits.proofs.Blocks.{block_append, length_below, length_block}
use Rattle.bits.specs.Slices.{slice, splice}
use Rattle.bits.proofs.Slices.{slice_same, slice_other}
use Rattle.bits.proofs.Splice.{length_splice}
use Rattle.bits.specs.Blocks.{block}

tabulate_append : (a b : ℕ) (g : ℕ → ℕ) → tabulate (a + b) g ≡ tabulate a g ++ tabulate b (λ t. g (a + t))
unfolding tabulate
tabulate_append a zero g = ap (λ (k : ℕ). tabulate k g) (add-zero a) ∙ sym (append-nil (tabulate a g))
tabulate_append a (suc b) g =
    let e : a + suc b ≡ suc (a + b) = omega arith in
    ap (λ (k : ℕ). tabulate k g) e ∙ ap (λ (l : List ℕ). l ++ (g (a + b) ∷ [])) (tabulate_append a b g)
    ∙ append_assoc (tabulate a g) (tabulate b (λ t. g (a + t))) (g (a + b) ∷ [])

pub tabulate_block : (c w : ℕ) (g : ℕ → ℕ) → tabulate (c * w) g ≡ block c (λ i. tabulate w (λ t. g (i * w + t)))
unfolding tabulate block
tabulate_block zero w g = ap (λ (k : ℕ). tabulate k g) (zero-mul w)
tabulate_block (suc c) w g =
    ap (λ (k : ℕ). tabulate k g) (suc-mul c w) ∙ tabulate_append (c * w) w g
    ∙ ap (λ (l : List ℕ). l ++ tabulate w (λ t. g (c * w + t))) (tabulate_block c w g)

-- a row of the block lies within the rows
row_end : (r w c i : ℕ) → i < c → (r + i) * w + w ≤ (r + c) * w
row_end r w c i h =
    let l : suc (r + i) ≤ r + c = omega arith in
    omega (arith, mul-le-mul_right w l, suc-mul (r + i) w)

pub length_slice : (at w : ℕ) (l : List ℕ) → at + w ≤ length l → length (slice at w l) ≡ w
length_slice at w l h = length-take-le w (drop at l) (omega (arith, length-drop at l))

pub splice_append : (out : List ℕ) (at : ℕ) (a b : List ℕ) (k : ℕ) → at + length a ≡ k → k ≤ length out → splice (splice out at a) k b ≡ splice out at (a ++ b)
splice_append out at a b k e h =
    ap₂ (λ (x y : List ℕ). x ++ b ++ y) (take_at head rest k long) (ap (λ (n : ℕ). drop (n + length b) (head ++ rest)) (sym long) ∙ drop-append-add head rest (length b) ∙ drop-drop (length b) (at + length a) out)
    ∙ ap₂ (λ (x y : List ℕ). x ++ y) (append_assoc (take at out) a b) (ap (λ (n : ℕ). drop n out) (add_assoc at (length a) (length b) ∙ ap (λ (n : ℕ). at + n) (sym (length-append a b))))
  where
    head : List ℕ
    head = take at out ++ a

    rest : List ℕ
    rest = drop (at + length a) out

    long : length (take at out ++ a) ≡ k
    long = simp (length-append, length-take) (omega arith)

pub splice_again : (out : List ℕ) (at : ℕ) (a b : List ℕ) → length a ≡ length b → at ≤ length out → splice (splice out at a) at b ≡ splice out at b
splice_again out at a b e h =
    ap₂ (λ (x y : List ℕ). x ++ b ++ y)
    (ap (take at) (append_assoc (take at out) a (drop (at + length a) out)) ∙ take_at (take at out) (a ++ drop (at + length a) out) at (length-take-le at out h))
    (drop_at (take at out ++ a) (drop (at + length a) out) (at + length b) long ∙ ap (λ (n : ℕ). drop (at + n) out) e)
  where
    long : length (take at out ++ a) ≡ at + length b
    long = length-append (take at out) a ∙ ap₂ ◌+◌ (length-take-le at out h) e

pub splice_none : (rows : List ℕ) (to : ℕ) → splice rows to [] ≡ rows
splice_none rows to = rw (add-zero, append-nil) (take-append-drop to rows)

module _ (rows : List ℕ) (r w : ℕ) (f : ℕ → List ℕ) (long : (i : ℕ) → length (f i) ≡ w) where
  -- so many tables are put
  abbrev put_to : ℕ → List ℕ
  put_to c = splice rows (r * w) (block c f)

  put_end : (c : ℕ) → r * w + length (block c f) ≡ (r + c) * w
  put_end c = ap (λ (k : ℕ). r * w + k) (length_block w f long c) ∙ sym (add-mul r c w)

  put_more : (c : ℕ) → (r + c) * w ≤ length rows → put_to (suc c) ≡ splice (put_to c) ((r + c) * w) (f c)
  unfolding block
  put_more c h = sym (splice_append rows (r * w) (block c f) (f c) ((r + c) * w) (put_end c) h)

  length_put : (c : ℕ) → (r + c) * w ≤ length rows → length (put_to c) ≡ length rows
  length_put c h = length_splice rows (r * w) (block c f) (omega (arith, put_end c))

  fits : (c : ℕ) → (r + suc c) * w ≤ length rows → (r + c) * w + w ≤ length rows
  fits c h = omega (arith, row_end r w (suc c) c (omega arith))

  -- the row put last, and the rows before it
  row_last : (c : ℕ) → (r + suc c) * w ≤ length rows → (i : ℕ) → i < suc c → (i < c → slice ((r + i) * w) w (put_to c) ≡ f i)
      → slice ((r + i) * w) w (splice (put_to c) ((r + c) * w) (f c)) ≡ f i
  row_last c h i l kept = ⊎_elim last before (eq-or-lt_of_le (le_of_suc-le-suc l))
    where
      inside : (r + c) * w + w ≤ length (put_to c)
      inside = omega (arith, length_put c (omega (arith, fits c h)), fits c h)

      last : i ≡ c → slice ((r + i) * w) w (splice (put_to c) ((r + c) * w) (f c)) ≡ f i
      last e =
          ap (λ (k : ℕ). slice ((r + k) * w) w (splice (put_to c) ((r + c) * w) (f c))) e
          ∙ slice_same (put_to c) ((r + c) * w) w (f c) (long c) inside ∙ ap f (sym e)

      before : i < c → slice ((r + i) * w) w (splice (put_to c) ((r + c) * w) (f c)) ≡ f i
      before less = slice_other (put_to c) (r + i) (r + c) w (f c) (long c) inside (λ e. omega arith) ∙ kept less

  pub block_row : (c : ℕ) → (r + c) * w ≤ length rows → (i : ℕ) → i < c → slice ((r + i) * w) w (splice rows (r * w) (block c f)) ≡ f i
  block_row zero h i l = absurd (not-suc-le-zero l)
  block_row (suc c) h i l =
      ap (slice ((r + i) * w) w) (put_more c (omega (arith, fits c h)))
      ∙ row_last c h i l (λ less. block_row c (omega (arith, fits c h)) i less)

  pub block_kept : (c : ℕ) → (r + c) * w ≤ length rows → (k : ℕ) → ((i : ℕ) → i < c → k ≡ r + i → ⊥) → slice (k * w) w (splice rows (r * w) (block c f)) ≡ slice (k * w) w rows
  unfolding block
  block_kept zero h k ne = ap (slice (k * w) w) (splice_none rows (r * w))
  block_kept (suc c) h k ne =
      ap (slice (k * w) w) (put_more c (omega (arith, fits c h)))
      ∙ slice_other (put_to c) k (r + c) w (f c) (long c) (omega (arith, length_put c (omega (arith, fits c h)), fits c h)) (ne c (omega arith))
      ∙ block_kept c (omega (arith, fits c h)) k (λ i l. ne i (omega arith))

pub record Placed (start : List ℕ) (to count width : ℕ) (f : ℕ → List ℕ) (out : List ℕ) (i : ℕ) : Type 0 where
  pub room : to + count * width ≤ length start
  pub long : (k : ℕ) → k < count → length (f k) ≡ width
  pub within : i ≤ count
  pub so_far : out ≡ splice start to (block i f)

module _ {start : List ℕ} {to count width : ℕ} {f : ℕ → List ℕ} where
  pub placed_none : to + count * width ≤ length start → ((k : ℕ) → k < count → length (f k) ≡ width) → Placed start to count width f start 0
  unfolding block
  placed_none h long = record { room = h; long = long; within = zero-le; so_far = sym (splice_none start to) }

  module _ {out : List ℕ} {i : ℕ} (p : Placed start to count width f out i) where
    placed_end : to + length (block i f) ≡ to + i * width
    placed_end = ap (λ (k : ℕ). to + k) (length_below width f i (λ k h. p.long k (omega (arith, p.within))))

    -- the next lists end within the room for all
    next_end : (n : ℕ) → i + n ≤ count → to + i * width + n * width ≤ length start
    next_end n h = omega (arith, mul-le-mul_right width h, add-mul i n width, p.room)

    pub placed_length : length out ≡ length start
    placed_length = ap length p.so_far ∙ length_splice start to (block i f) (omega (arith, placed_end, next_end 0 (omega (arith, p.within))))

    pub placed_room : (n : ℕ) → i + n ≤ count → to + i * width + n * width ≤ length out
    placed_room n h = omega (arith, next_end n h, placed_length)

    pub placed_one : i < count → to + i * width + width ≤ length out
    placed_one h = omega (arith, placed_room 1 (omega arith), one-mul width)

    pub placed_next : (n : ℕ) {put : List ℕ} → i + n ≤ count → put ≡ splice out (to + i * width) (block n (λ k. f (i + k)))
        → Placed start to count width f put (i + n)
    placed_next n h e =
        record {
          room = p.room;
          long = p.long;
          within = h;
          so_far =
              e
              ∙ ap (λ (l : List ℕ). splice l (to + i * width) (block n (λ k. f (i + k)))) p.so_far
              ∙ splice_append start to (block i f) (block n (λ k. f (i + k))) (to + i * width) placed_end (omega (arith, next_end n h))
              ∙ ap (splice start to) (block_append i n f);
        }

    pub placed_more : {put : List ℕ} → i < count → put ≡ splice out (to + i * width) (f i) → Placed start to count width f put (i + 1)
    unfolding block
    placed_more h e = placed_next 1 (omega arith) (e ∙ ap (λ (k : ℕ). splice out (to + i * width) (f k)) (sym (add-zero i)))

    pub placed_all : count ≤ i → out ≡ splice start to (block count f)
    placed_all h = p.so_far ∙ ap (λ (k : ℕ). splice start to (block k f)) (le_antisymm p.within h)
