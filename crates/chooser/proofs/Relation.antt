-- What is chosen depends on the pairs of rows that are needed alone (specs/Matrix.antt, `choice_over`).
--
--   choice_needed   it is what the method chooses over any relation that says of two rows whether their marks differ
use Prim.Native.Nat.{ℕ, ◌≤◌, ◌<◌}
use mathlib.Core.Path.{◌≡◌, refl, ap, ap₂, ◌∙◌}
use mathlib.Core.Bool.{Bool, true, cond, ◌&&◌}
use mathlib.Core.List.{List}
use borrow.Author.Tests.{le-leb}
use lib.ListN.{length}
use Rattle.bits.proofs.Tests.{and_i}
use Rattle.method.specs.Method.{agree}
use Rattle.method.proofs.Firsts.{first_pair_same}
use Rattle.method.proofs.Congruence.{signature_same}
use Rattle.chooser.specs.Matrix.{cell, differ, fits, choice_by, choice_over, choice, no_matrix}

pub choice_needed : (work : List ℕ) (width rows : ℕ) (marks scan : List ℕ) (needed : ℕ → ℕ → Bool) → fits work width rows scan ≡ true
    → rows ≤ length marks → ((a b : ℕ) → a < b → b < rows → differ marks a b ≡ needed a b)
    → choice work width rows marks scan ≡ choice_over work width rows needed scan
unfolding choice choice_over
choice_needed work width rows marks scan needed fit h same =
    ap (λ (t : Bool). cond t (choice_over work width rows (differ marks) scan) no_matrix) (and_i (le-leb rows (length marks) h) fit)
    ∙ ap₂ choice_by
    (first_pair_same rows (λ a b. differ marks a b && agree (cell work width) scan a b) (λ a b. needed a b && agree (cell work width) scan a b)
    (λ a b m n. ap (λ (t : Bool). t && agree (cell work width) scan a b) (same a b m n)))
    (signature_same (cell work width) (cell work width) rows (differ marks) needed scan (λ c e m n. refl) same)
