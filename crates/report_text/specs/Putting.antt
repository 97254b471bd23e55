-- Kept by the code: what the methods of `Writer` put into lent bytes.
--
--   Puts          a text stands behind what stood there, and all else is as it was
--   Room          there is room for a text
--   work_text     the text of a job, its circuits' numbers read off the work
--   list_of, numbers_of, text_of   the entries, a circuit's numbers and the whole text of the rows that are printed
--   choice_text   the text of what choosing answers
--   Printable     it can be printed from the work
use Rattle.std.specs.Prelude.{ℕ, ◌+◌, ◌≤◌, ◌≡◌, List, ◌++◌, length, take, Result, Ok, Err}
use Rattle.bits.specs.Answer.{number}
use Rattle.bits.specs.Slices.{splice}
use Rattle.tables.specs.declared.Counts.{Counts}
use Rattle.chooser.specs.Matrix.{max_signature}
use Rattle.spectra.specs.Listed.{Entry, entries_at}
use Rattle.choosing.specs.declared.Chosen.{Chosen}
use Rattle.choosing.specs.declared.Signature.{Signature}
use Rattle.choosing.specs.declared.Unchosen.{Unchosen}
use Rattle.choosing.specs.declared.Unchosen.TheVariants.{Alike, Refused}
use Rattle.locating.specs.Scanning.{work_numbers, RowsIn}
use Rattle.report_text.specs.declared.Rows.{Rows}
use Rattle.report_text.specs.declared.Writer.{Writer}
use Rattle.report_text.specs.Text.{counts_line, signature_line, circuit_lines, refused_line, alike_line}

pub record Puts (text : List ℕ) (before after : Writer) : Type 0 where
  pub same_bytes : after.out.ghost_name ≡ before.out.ghost_name
  pub kept : length after.out.now ≡ length before.out.now
  pub ends : after.len ≡ before.len + length text
  pub stands : after.out.now ≡ splice before.out.now before.len text

abbrev pub Room : List ℕ → Writer → Type 0
Room text w = w.len + length text ≤ length w.out.now

abbrev pub work_text : Counts → List Entry → List ℕ → List ℕ
work_text counts list work = counts_line counts ++ signature_line list ++ circuit_lines (work_numbers work counts list) (counts.faults + 1)

abbrev pub list_of : Rows → List Entry
list_of r = entries_at r.indices.now r.outputs.now

abbrev pub numbers_of : Rows → ℕ → List ℕ
numbers_of r = work_numbers r.work.now r.counts (list_of r)

abbrev pub text_of : Rows → List ℕ
text_of r = work_text r.counts (list_of r) r.work.now

abbrev pub index_list : Signature → List ℕ
index_list s = take s.count s.indices

abbrev pub output_list : Signature → List ℕ
output_list s = take s.count s.outputs

abbrev pub choice_text : Result Chosen Unchosen → List ℕ → List ℕ
choice_text (Ok c) work = work_text c.counts (entries_at (index_list c.signature) (output_list c.signature)) work
choice_text (Err (Alike a b)) work = alike_line a b
choice_text (Err (Refused e)) work = refused_line (number e)

-- of a refusal or a pair there is nothing to know
abbrev pub Printable : Result Chosen Unchosen → ℕ → Type 0
Printable (Ok c) room =
    (c.signature.count ≤ max_signature) × RowsIn c.counts (index_list c.signature) (output_list c.signature) room
Printable (Err u) room = Unit {0}
