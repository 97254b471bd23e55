-- Laws of rows of which parts are lent as slices.
--
--   tabulated   a list of a function's values
--   put_back    a part that was written, between what stands before it and behind it
use Prim.Native.Nat.{ℕ, ◌+◌, ◌<◌}
use native.Mathlib.Omega.{arith}
use mathlib.Core.Path.{◌≡◌, sym, ap, ◌∙◌}
use mathlib.Core.List.{List, ◌++◌, append_assoc}
use lib.ListN.{length, get_or, take, drop}
use lib.Seq.{ext_get_or, drop-drop}
use Rattle.bits.specs.Packed.{tabulate}
use Rattle.bits.specs.Slices.{splice}
use Rattle.bits.proofs.Packed.{length_tabulate, tabulate_at}

pub tabulated : (l : List ℕ) (count : ℕ) (f : ℕ → ℕ) → length l ≡ count → ((k : ℕ) → k < count → get_or l k 0 ≡ f k) → l ≡ tabulate count f
tabulated l count f e h =
    ext_get_or 0 l (tabulate count f) (e ∙ sym (length_tabulate count f)) (λ k i. let inside : k < count = omega arith in h k inside ∙ sym (tabulate_at count f k inside))

pub put_back : (rows : List ℕ) (to : ℕ) (new : List ℕ) {k : ℕ} → length new ≡ k → take to rows ++ (new ++ drop k (drop to rows)) ≡ splice rows to new
put_back rows to new e =
    ap (λ (l : List ℕ). take to rows ++ (new ++ l)) (drop-drop _ to rows ∙ ap (λ (n : ℕ). drop (to + n) rows) (sym e))
    ∙ sym (append_assoc (take to rows) new (drop (to + length new) rows))
