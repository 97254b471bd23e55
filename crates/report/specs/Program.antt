-- Believed: what the report program prints (document 01, "The report program").
--
--   program_work    "lends work of 32768 numbers"
--   Printed         how long the text is, and the bytes at whose start it stands
--   program_report  the report of the bytes, with that work
use Rattle.std.specs.Prelude.{ℕ, Option, List, replicate}
use Rattle.report_text.specs.Text.{Report, reported}

unfoldable pub program_work : List ℕ
program_work = replicate 32768 0

pub record Printed : Type 0 where
  pub answer : Option ℕ
  pub text : List ℕ

abbrev pub printed : Report → Printed
printed r = record { answer = r.answer; text = r.text }

unfoldable pub program_report : List ℕ → List ℕ → Printed
program_report s out = printed (reported s program_work out)
