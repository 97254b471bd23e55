-- The text of what choosing answers (specs/Text.antt, specs/Putting.antt).
--
--   printed_done                 what is known where a signature is chosen
--   exit_text, choice_printed    what is printed, by what the call answers and leaves
--   told_memory                  the work that it leaves
--   refused_printed              the line of a refusal
use Prim.Native.Nat.{ℕ, zero, suc, ◌≤◌}
use native.Mathlib.Omega.{arith}
use mathlib.Core.Path.{◌≡◌, refl, sym, subst}
use mathlib.Core.List.{List}
use Rattle.std.proofs.Common.{Result, Ok, Err}
use Rattle.bits.specs.Answer.{number}
use Rattle.bits.specs.declared.Refusal.{Refusal}
use Rattle.bits.specs.declared.Refusal.TheVariants as refusals
use Rattle.spectra.specs.Listed.{Entry, entries_at}
use Rattle.method.specs.Method.{Pair}
use Rattle.method.specs.Method.Pair.{nobody, pair}
use Rattle.choosing.specs.Choosing.{AtExit, told}
use Rattle.choosing.specs.declared.Chosen.{Chosen}
use Rattle.choosing.specs.declared.Signature.{Signature}
use Rattle.choosing.specs.declared.Unchosen.{Unchosen}
use Rattle.choosing.specs.declared.Unchosen.TheVariants.{Alike, Refused}
use Rattle.report_text.specs.Putting.{Printable, work_text, index_list, output_list, choice_text}
use Rattle.report_text.specs.Text.{refused_line, alike_line}

-- the entries that a signature lists
abbrev listed : Signature → List Entry
listed signature = entries_at (index_list signature) (output_list signature)

pub printed_done : {r : Result Chosen Unchosen} {c : Chosen} (room : ℕ) → r ≡ Ok c → Printable r room → Printable (Ok c) room
printed_done room e h = subst (λ (x : Result Chosen Unchosen). Printable x room) e h

-- ---- by what the call answers and leaves

abbrev printed : ℕ → Pair → List ℕ → List ℕ
printed zero p text = text
printed (suc i) nobody text = refused_line (suc i)
printed (suc i) (pair a b) text = alike_line a b

abbrev pub exit_text : AtExit → List ℕ
exit_text c = printed c.number c.pair (work_text c.counts (listed c.signature) c.memory)

pub refused_printed : (i : ℕ) (text : List ℕ) → 1 ≤ i → printed i nobody text ≡ refused_line i
refused_printed zero text h = absurd (omega arith)
refused_printed (suc i) text h = refl

number_some : (e : Refusal) → 1 ≤ number e
number_some refusals.BytesEnd = omega arith
number_some refusals.Inputs = omega arith
number_some refusals.Gates = omega arith
number_some refusals.GateLine = omega arith
number_some refusals.OneLine = omega arith
number_some refusals.Output = omega arith
number_some refusals.FaultLine = omega arith
number_some refusals.FaultPair = omega arith
number_some refusals.Spare = omega arith
number_some refusals.Memory = omega arith
number_some refusals.Circuit = omega arith
number_some refusals.Table = omega arith
number_some refusals.Polarity = omega arith
number_some refusals.NoSpectrum = omega arith
number_some refusals.Alike = omega arith
number_some refusals.Index = omega arith
number_some refusals.Readings = omega arith
number_some refusals.Faults = omega arith
number_some refusals.LooseGate = omega arith
number_some refusals.OutputNumber = omega arith
number_some refusals.Part = omega arith

pub choice_printed : (r : Result Chosen Unchosen) (memory : List ℕ) → choice_text r memory ≡ exit_text (told r memory)
choice_printed (Ok c) memory = refl
choice_printed (Err (Alike a b)) memory = refl
choice_printed (Err (Refused e)) memory =
    sym (refused_printed (number e) (exit_text (record (told (Err (Refused e)) memory) { number = 0 })) (number_some e))

pub told_memory : (r : Result Chosen Unchosen) (memory : List ℕ) → (told r memory).memory ≡ memory
told_memory (Ok c) memory = refl
told_memory (Err (Alike a b)) memory = refl
told_memory (Err (Refused e)) memory = refl
