-- The text of the program lies within the bytes that are lent for it.
--
--   Whole         a text was made, and all of it is there
--   blank_made, blank_within   so in as many zeros as the longest text has: it is made, and is no longer than the bytes
use Prim.Native.Nat.{ℕ, ◌≤◌}
use native.Mathlib.Omega.{arith}
use native.Mathlib.Nat.{le_refl}
use mathlib.Core.Path.{◌≡◌, refl, sym, subst}
use mathlib.Core.List.{List}
use borrow.Author.Tests.{le-leb}
use lib.ListN.{length, replicate, length-append, length-replicate}
use Rattle.std.proofs.Common.{Option, Some, None, IsSome}
use Rattle.std.specs.Counts.{IsPrefixLen}
use lib.Seq.{length-take-le}
use Rattle.report_text.specs.Text.{reported, max_text}
use Rattle.report.specs.Program.{Printed, program_report}

abbrev Whole : Option ℕ → List ℕ → Type 0
Whole (Some count) text = IsPrefixLen count text
Whole None text = ⊥

abbrev AllThere : Printed → Type 0
AllThere p = Whole p.answer p.text

prefix_len_of_le : (n : ℕ) (xs : List ℕ) → n ≤ length xs → IsPrefixLen n xs
prefix_len_of_le n xs h = (h, sym (length-take-le n xs h))

program_whole : (s out : List ℕ) (p : Printed) → max_text ≤ length out → p ≡ program_report s out → AllThere p
unfolding program_report reported
program_whole s out p room same =
    subst AllThere (sym same) (simp (le-leb max_text (length out) room) (prefix_len_of_le _ _ (simp length-append (omega arith))))

-- in as many zeros as the longest text has
module _ (s : List ℕ) (p : Printed) (same : p ≡ program_report s (replicate max_text 0)) where
  blank_whole : AllThere p
  blank_whole =
      program_whole s (replicate max_text 0) p (subst (λ (n : ℕ). max_text ≤ n) (sym (length-replicate max_text 0)) (le_refl max_text)) same

  pub blank_made : IsSome p.answer
  blank_made = by_answer p.answer blank_whole
    where
      by_answer : (a : Option ℕ) → Whole a p.text → IsSome a
      by_answer (Some count) h = refl
      by_answer None h = absurd h

  pub blank_within : (count : ℕ) → p.answer ≡ Some count → count ≤ length p.text
  blank_within count e = let whole : Whole (Some count) p.text = subst (λ (a : Option ℕ). Whole a p.text) e blank_whole in whole.0
