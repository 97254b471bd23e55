-- What a caller of `read` learns from its promise.
--
--   told_refused   a refusal that comes back is the definition's refusal
--   told_done      a record that comes back is the definition's record
--   told_valid     a record that comes back is valid
use Prim.Native.Nat.{ℕ}
use mathlib.Core.List.{List}
use mathlib.Core.Path.{◌≡◌, sym, ap, ◌∙◌}
use Rattle.std.specs.Prelude.{Result, Ok, Err}
use Rattle.bits.specs.Answer.{Answer, number, outcome}
use Rattle.bits.specs.Answer.Answer.{gives, refused}
use Rattle.bits.specs.declared.Refusal.{Refusal}
use Rattle.job.specs.Check.{Valid}
use Rattle.job.specs.declared.Job.{Job}
use Rattle.reading.specs.Reading.{reading}
use Rattle.reading.proofs.Validity.{reading_valid}

module _ (r : Result Job Refusal) (a : Answer Job) (promise : outcome r ≡ a) where
  pub told_refused : (cause : Refusal) → r ≡ Err cause → a ≡ refused (number cause)
  told_refused cause e = sym promise ∙ ap (λ (x : Result Job Refusal). outcome x) e

  pub told_done : (j : Job) → r ≡ Ok j → a ≡ gives j
  told_done j e = sym promise ∙ ap (λ (x : Result Job Refusal). outcome x) e

pub told_valid : (r : Result Job Refusal) (s : List ℕ) (j : Job) → outcome r ≡ reading s → r ≡ Ok j → Valid j
told_valid r s j promise e = reading_valid s j (told_done r (reading s) promise j e)
