-- Kept by the code: what the steps of reading tell of the string of bits that they read from.
--
--   told     what a step answers, with the string that it leaves, as a parser gives it
--   told_at  the same of a step that reads at a place in bytes
--   filled   the same of a step that fills a list
use Rattle.std.specs.Prelude.{ℕ, List, Result, Ok, Err}
use Rattle.bits.specs.Answer.{Answer, number}
use Rattle.bits.specs.Answer.Answer.{refused}
use Rattle.bits.specs.Field.{from}
use Rattle.bits.specs.Parser.{Parsed, parsed}
use Rattle.bits.specs.declared.Cursor.{Cursor}
use Rattle.bits.specs.declared.Refusal.{Refusal}

abbrev pub told : {A : Type 0} → Result A Refusal → List ℕ → Answer (Parsed A)
told (Ok a) rest = parsed a rest
told (Err e) rest = refused (number e)

abbrev pub told_at : {A : Type 0} → List ℕ → Result (A × Cursor) Refusal → Answer (Parsed A)
told_at s (Ok f) = parsed f.0 (from s f.1)
told_at s (Err e) = refused (number e)

abbrev pub filled : {A : Type 0} → Result (Unit {0}) Refusal → A → List ℕ → Answer (Parsed A)
filled (Ok u) a rest = parsed a rest
filled (Err e) a rest = refused (number e)
