-- Combining the spectra of two halves, number by number (specs/Recursion.antt).
--
--   written_after     numbers that a loop has not yet written are as they were
--   Combining         what the loop has done after i turns: the first i sums are written
--   combining_none    no sum yet
--   combining_fits    the next sum fits a u16
--   combining_more    one sum more
--   combining_all     all sums: the halves are combined
use Prim.Native.Nat.{ℕ, ◌+◌, ◌-◌, ◌^◌, ◌≤◌, ◌<◌}
use native.Mathlib.Omega.{arith}
use mathlib.Core.Path.{◌≡◌, sym, ap, ap₂, ◌∙◌}
use mathlib.Core.List.{List, ◌++◌, append-nil}
use lib.ListN.{length, get_or, take, drop, set, length-append, length-take, drop_of_length-le}
use lib.Seq.{get_or-append-add, get_or-drop, get_or-take}
use mir.Syntax.{w16}
use mir.Val.{Fits}
use Rattle.bits.specs.Packed.{tabulate}
use Rattle.bits.proofs.Packed.{length_tabulate}
use Rattle.bits.specs.Slices.{splice}
use Rattle.bits.proofs.Splice.{Written, written_none, written_more, written_before, written_all}
use Rattle.spectra.specs.Recursion.{Most, combined}

splice_after : (rows : List ℕ) (to : ℕ) (new : List ℕ) (j : ℕ) → to ≤ length rows → to + length new ≤ j → get_or (splice rows to new) j 0 ≡ get_or rows j 0
splice_after rows to new j h l =
    let size : length (take to rows ++ new) ≡ to + length new = simp (length-append, length-take) (omega arith) in
    let at : length (take to rows ++ new) + (j - (to + length new)) ≡ j = omega arith in
    let back : to + length new + (j - (to + length new)) ≡ j = omega arith in
    ap (λ (n : ℕ). get_or (splice rows to new) n 0) (sym at)
    ∙ get_or-append-add (take to rows ++ new) (drop (to + length new) rows) (j - (to + length new)) 0
    ∙ get_or-drop (to + length new) rows (j - (to + length new)) 0
    ∙ ap (λ (n : ℕ). get_or rows n 0) back

pub written_after : {start : List ℕ} {to count : ℕ} {f : ℕ → ℕ} {rows : List ℕ} {i : ℕ} → Written start to count f rows i
    → (j : ℕ) → to + i ≤ j → get_or rows j 0 ≡ get_or start j 0
written_after {start} {to} {count} {f} {rows} {i} w j l =
    ap (λ (s : List ℕ). get_or s j 0) w.so_far
    ∙ splice_after start to (tabulate i f) j (omega (arith, w.room)) (rw length_tabulate l)

-- the sum that belongs into the upper half
abbrev sum_at : ℕ → List ℕ → ℕ → ℕ
sum_at half start n = get_or (take half start) n 0 + get_or (drop half start) n 0

abbrev pub Combining : ℕ → List ℕ → List ℕ → ℕ → Type 0
Combining half start out i = Written start half half (λ n. get_or (take half start) n 0 + get_or (drop half start) n 0) out i

module _ {half : ℕ} {start : List ℕ} where
  pub combining_none : half + half ≡ length start → Combining half start start 0
  combining_none e = written_none (omega arith)

  module _ {out : List ℕ} {i : ℕ} (w : Combining half start out i) (h : i < half) where
    lower : get_or out i 0 ≡ get_or (take half start) i 0
    lower = written_before w i h ∙ sym (get_or-take half start i 0 h)

    upper : get_or out (half + i) 0 ≡ get_or (drop half start) i 0
    upper = written_after w (half + i) (omega arith) ∙ sym (get_or-drop half start i 0)

    pub combining_fits : Most (2 ^ 14) start → Fits w16 (get_or out i 0 + get_or out (half + i) 0)
    combining_fits small =
        let a : get_or out i 0 ≡ get_or start i 0 = written_before w i h in
        let b : get_or out (half + i) 0 ≡ get_or start (half + i) 0 = written_after w (half + i) (omega arith) in
        omega (arith, small i, small (half + i))

    pub combining_more : Combining half start (set out (half + i) (get_or out i 0 + get_or out (half + i) 0)) (i + 1)
    combining_more = written_more w (get_or out i 0 + get_or out (half + i) 0) h (ap₂ ◌+◌ lower upper)

  pub combining_all : {out : List ℕ} {i : ℕ} → Combining half start out i → half + half ≡ length start → half ≤ i
      → out ≡ combined half (take half start) (drop half start)
  combining_all w e h =
      written_all w h
      ∙ ap (λ (l : List ℕ). take half start ++ tabulate half (sum_at half start) ++ l)
      (drop_of_length-le start {i = half + length (tabulate half (sum_at half start))} (rw length_tabulate (omega arith)))
      ∙ append-nil (take half start ++ tabulate half (sum_at half start))
