-- Laws of rows of bytes in one list (specs/Slices.antt).
--
--   tabulate_slice      bytes copied one by one are a slice of the rows
--   slice_same          the slice that a splice put in is what was put in
--   slice_before        a slice that ends before a splice is as it was
--   slice_behind        a slice that starts behind a splice is as it was
--   row_apart          of two different rows one ends before the other starts
--   slice_other         another row than the one that is put in is as it was
use Prim.Native.Nat.{ℕ, zero, suc, ◌+◌, ◌-◌, ◌*◌, ◌≤◌, ◌<◌}
use native.Mathlib.Nat.{mul-le-mul_right, suc-mul}
use native.Mathlib.Omega.{arith}
use native.Mathlib.Decide.{dec_lt}
use mathlib.Core.Path.{◌≡◌, refl, sym, ap, ap₂, ◌∙◌}
use mathlib.Core.Logic.{◌⊎◌, inl, inr}
use mathlib.Core.List.{List, [], ◌∷◌, ◌++◌}
use lib.ListN.{length, get_or, take, drop, length-append, length-drop, take-append-drop}
use lib.Seq.{take-suc, get_or-drop, length-take-le, take-append-le, drop-append-le, drop_at, drop-append-add}
use Rattle.bits.specs.Packed.{tabulate}
use Rattle.bits.specs.Slices.{slice, splice}

pub tabulate_slice : (rows : List ℕ) (at count : ℕ) → at + count ≤ length rows → tabulate count (λ i. get_or rows (at + i) 0) ≡ slice at count rows
unfolding tabulate
tabulate_slice rows at zero h = refl
tabulate_slice rows at (suc n) h =
    let l : n < length rows - at = omega arith in
    ap₂ (λ (a : List ℕ) (x : ℕ). a ++ (x ∷ [])) (tabulate_slice rows at n (omega arith)) (sym (get_or-drop at rows n 0))
    ∙ sym (take-suc (drop at rows) n 0 (rw length-drop l))

-- a slice that lies in the first of two lists
slice_front : (at w : ℕ) (xs ys : List ℕ) → at + w ≤ length xs → slice at w (xs ++ ys) ≡ slice at w xs
slice_front at w xs ys h =
    ap (λ (l : List ℕ). take w l) (drop-append-le at xs ys (omega arith))
    ∙ take-append-le w (drop at xs) ys (omega (arith, length-drop at xs))

-- a slice that lies in the second of two lists
slice_back : (at d w : ℕ) (xs ys : List ℕ) → at ≡ length xs + d → slice at w (xs ++ ys) ≡ slice d w ys
slice_back at d w xs ys e =
    ap (λ (k : ℕ). slice k w (xs ++ ys)) e ∙ ap (λ (l : List ℕ). take w l) (drop-append-add xs ys d)

pub slice_same : (rows : List ℕ) (at w : ℕ) (new : List ℕ) → length new ≡ w → at + w ≤ length rows → slice at w (splice rows at new) ≡ new
slice_same rows at w new e h =
    slice_front at w (take at rows ++ new) (drop (at + length new) rows) (omega (arith, length-append (take at rows) new, length-take-le at rows (omega arith)))
    ∙ ap (λ (l : List ℕ). take w l) (drop_at (take at rows) new at (length-take-le at rows (omega arith)))
    ∙ take_whole
  where
    take_whole : take w new ≡ new
    take_whole = rw (← e) (lib.Seq.take-length new)

module _ (rows : List ℕ) (at to w : ℕ) (new : List ℕ) (long : length new ≡ w) (inside : to + w ≤ length rows) where
  pub slice_before : at + w ≤ to → slice at w (splice rows to new) ≡ slice at w rows
  slice_before h =
      let e : length (take to rows) ≡ to = length-take-le to rows (omega arith) in
      slice_front at w (take to rows ++ new) (drop (to + length new) rows) (omega (arith, length-append (take to rows) new))
      ∙ slice_front at w (take to rows) new (omega arith)
      ∙ sym (slice_front at w (take to rows) (drop to rows) (omega arith))
      ∙ ap (λ (l : List ℕ). slice at w l) (take-append-drop to rows)

  pub slice_behind : to + w ≤ at → slice at w (splice rows to new) ≡ slice at w rows
  slice_behind h =
      let e : length (take to rows) ≡ to = length-take-le to rows (omega arith) in
      let f : length (take (to + length new) rows) ≡ to + length new = length-take-le (to + length new) rows (omega arith) in
      slice_back at (at - (to + w)) w (take to rows ++ new) (drop (to + length new) rows) (omega (arith, length-append (take to rows) new))
      ∙ sym (slice_back at (at - (to + w)) w (take (to + length new) rows) (drop (to + length new) rows) (omega arith))
      ∙ ap (λ (l : List ℕ). slice at w l) (take-append-drop (to + length new) rows)

pub row_apart : (r s w : ℕ) → (r ≡ s → ⊥) → (r * w + w ≤ s * w) ⊎ (s * w + w ≤ r * w)
row_apart r s w ne = go (dec_lt r s)
  where
    less : (a b : ℕ) → a < b → a * w + w ≤ b * w
    less a b h = omega (arith, mul-le-mul_right w h, suc-mul a w)

    go : Dec (r < s) → (r * w + w ≤ s * w) ⊎ (s * w + w ≤ r * w)
    go (yes h) = inl (less r s h)
    go (no h) = inr (less s r (omega arith))

pub slice_other : (rows : List ℕ) (r s w : ℕ) (new : List ℕ) → length new ≡ w → s * w + w ≤ length rows → (r ≡ s → ⊥)
    → slice (r * w) w (splice rows (s * w) new) ≡ slice (r * w) w rows
slice_other rows r s w new e h ne = go (row_apart r s w ne)
  where
    go : (r * w + w ≤ s * w) ⊎ (s * w + w ≤ r * w) → slice (r * w) w (splice rows (s * w) new) ≡ slice (r * w) w rows
    go (inl before) = slice_before rows (r * w) (s * w) w new e h before
    go (inr behind) = slice_behind rows (r * w) (s * w) w new e h behind
