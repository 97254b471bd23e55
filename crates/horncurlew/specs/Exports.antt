-- Believed: what the exported operations answer: the document's number, 0 for success, and its values; unused places are 0.
--
--   version                 the version of the exported functions, structs and numbers
--   kind_of, purpose_of     0 is RM and isolating, any other number MRM and detecting
--   number_of               the number of an answer
--   Numbered, numbered      the number, and the lent memory at exit
--   job_of                  a job's counts
--   rewritten_of            a job read, and written again
--   chosen_at               what choosing answers and leaves for a job
--   length_of, choice_of, location_of, report_of   the answers of the operations that give values
use Rattle.std.specs.Prelude.{ℕ, zero, suc, List, Option, Some, None, length}
use Rattle.bits.specs.Answer.{Answer, Fills, Leaves, onward}
use Rattle.bits.specs.Answer.Answer.{gives, refused}
use Rattle.job.specs.declared.Job.{Job}
use Rattle.reading.specs.Reading.{reading}
use Rattle.writing.specs.Writing.{written}
use Rattle.spectra.specs.declared.Kind.{Kind}
use Rattle.spectra.specs.declared.Kind.TheVariants.{Rm, Mrm}
use Rattle.method.specs.Method.{Pair}
use Rattle.method.specs.Method.Pair.{nobody, pair}
use Rattle.choosing.specs.Choosing.{AtExit, chosen_of, counts_in, at_exit}
use Rattle.choosing.specs.declared.Purpose.{Purpose}
use Rattle.choosing.specs.declared.Purpose.TheVariants.{Isolating, Detecting}
use Rattle.locating.specs.Locating.{Location}
use Rattle.locating.specs.Locating.Location.{parted, several, nowhere}
use Rattle.horncurlew.specs.declared.ReportAnswer.{ReportAnswer}
use Rattle.horncurlew.specs.declared.JobAnswer.{JobAnswer}
use Rattle.horncurlew.specs.declared.LengthAnswer.{LengthAnswer}
use Rattle.horncurlew.specs.declared.ChoiceAnswer.{ChoiceAnswer}
use Rattle.horncurlew.specs.declared.LocationAnswer.{LocationAnswer}

abbrev pub version : ℕ
version = 4

abbrev pub kind_of : ℕ → Kind
kind_of zero = Rm
kind_of (suc k) = Mrm

abbrev pub purpose_of : ℕ → Purpose
purpose_of zero = Isolating
purpose_of (suc p) = Detecting

abbrev pub number_of : {A : Type 0} → Answer A → ℕ
number_of (gives a) = 0
number_of (refused k) = k

pub record Numbered : Type 0 where
  pub number : ℕ
  pub memory : List ℕ

abbrev pub numbered : {A : Type 0} → Leaves A → Numbered
numbered l = record { number = number_of l.answer; memory = l.memory }

abbrev pub job_of : Answer Job → JobAnswer
job_of (gives j) = record { number = 0; inputs = j.inputs; gates = j.gate_count; outputs = j.output_count; faults = j.fault_count }
job_of (refused k) = record { number = k; inputs = 0; gates = 0; outputs = 0; faults = 0 }

abbrev pub length_of : Answer ℕ → LengthAnswer
length_of (gives n) = record { number = 0; length = n }
length_of (refused k) = record { number = k; length = 0 }

-- reading's refusals; then writing's
abbrev pub rewritten_of : List ℕ → ℕ → Answer (Fills ℕ)
rewritten_of s room = onward (reading s) (λ j. written j room)

-- the circuits of a pair, 0 where there is none
abbrev pub first_of : Pair → ℕ
first_of nobody = 0
first_of (pair a b) = a

abbrev pub second_of : Pair → ℕ
second_of nobody = 0
second_of (pair a b) = b

-- what choosing answers and leaves for a job
abbrev pub chosen_at : Purpose → List ℕ → Kind → ℕ → List ℕ → AtExit
chosen_at purpose s kind k work = at_exit (counts_in (reading s)) (chosen_of purpose s kind k (length work)) work

abbrev pub choice_of : AtExit → ChoiceAnswer
choice_of c =
    record {
      number = c.number;
      first = first_of c.pair;
      second = second_of c.pair;
      inputs = c.counts.inputs;
      gates = c.counts.gates;
      outputs = c.counts.outputs;
      faults = c.counts.faults;
      count = c.signature.count;
      entry_indices = c.signature.indices;
      entry_outputs = c.signature.outputs;
    }

-- found: 1 with the part of all agreeing circuits, 2 with their number where they have several parts, each with the lowest of them; 0 where none agrees
abbrev pub location_of : Answer Location → LocationAnswer
location_of (gives (parted p c)) = record { number = 0; found = 1; part = p; circuit = c; agreeing = 0 }
location_of (gives (several c count)) = record { number = 0; found = 2; part = 0; circuit = c; agreeing = count }
location_of (gives nowhere) = record { number = 0; found = 0; part = 0; circuit = 0; agreeing = 0 }
location_of (refused k) = record { number = k; found = 0; part = 0; circuit = 0; agreeing = 0 }

-- 1 with the text's length, or 0 where there was less room than the longest text has
abbrev pub report_of : Option ℕ → ReportAnswer
report_of (Some n) = record { written = 1; length = n }
report_of None = record { written = 0; length = 0 }
