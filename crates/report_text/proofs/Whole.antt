-- The text of the report (specs/Text.antt) can be printed from the work that choosing fills, and what is written where.
--
--   Prints              what choosing answers and leaves prints a text that fits, and can be printed
--   prints_isolated     it prints the report's text
--   text_bounded        every text fits in the most bytes
--   choice_printable    so what is answered can be printed
--   choice_fits        there is room for its text
--   reported_written, reported_short   what is written, with room and without
use Prim.Native.Nat.{ℕ, ◌+◌, ◌*◌, ◌^◌, ◌≤◌, ◌<◌}
use native.Mathlib.Omega.{arith}
use native.Mathlib.Nat.{le_trans, mul_assoc}
use mathlib.Core.Path.{◌≡◌, refl, sym, ap, ap₂, subst, ◌∙◌}
use mathlib.Core.Bool.{Bool, true, false}
use mathlib.Core.List.{List, ◌++◌}
use Rattle.std.proofs.Common.{Some, None, Result, Ok, Err}
use borrow.Author.Tests.{le-leb, lt-leb}
use lib.Dec.{leb}
use lib.ListN.{length, drop, length-append, length-map}
use lib.Seq.{take_at}
use Rattle.bits.specs.Answer.{Answer, Fills, leaves, unless, onward}
use Rattle.bits.specs.Answer.Answer.{gives, refused}
use Rattle.bits.specs.Slices.{splice}
use Rattle.job.specs.Check.{Valid}
use Rattle.job.specs.declared.Job.{Job}
use Rattle.reading.specs.Reading.{reading}
use Rattle.reading.proofs.Refusals.{refused_digits}
use Rattle.reading.proofs.Validity.{reading_valid}
use Rattle.tables.specs.Family.{Family, family_of}
use Rattle.tables.specs.Operations.{counts_of}
use Rattle.tables.specs.declared.Counts.{Counts}
use Rattle.spectra.specs.Listed.{Entry, family_spectra, places, indices_of, outputs_of, entries_at}
use Rattle.spectra.specs.Operations.{polarity_ok}
use Rattle.spectra.specs.declared.Kind.TheVariants.{Mrm}
use Rattle.spectra.proofs.Codes.{entries_back, entries_ok}
use Rattle.spectra.proofs.Families.{length_family_spectra}
use Rattle.method.specs.Method.{Pair}
use Rattle.method.specs.Method.Pair.{nobody, pair}
use Rattle.choosing.specs.Choosing.{Finding, AtExit, told, signature_in, signature_of, alike_pair, finding_by, chosen_from, chosen_of, found, at_exit, counts_in}
use Rattle.choosing.specs.Choosing.Finding.{chosen, alike}
use Rattle.choosing.specs.declared.Purpose.TheVariants.{Isolating}
use Rattle.choosing.specs.declared.Signature.{Signature}
use Rattle.choosing.specs.declared.Chosen.{Chosen}
use Rattle.choosing.specs.declared.Unchosen.{Unchosen}
use Rattle.choosing.proofs.Bound.{signature_below}
use Rattle.choosing.proofs.Sizes.{faults_entries}
use Rattle.locating.specs.Scanning.{RowsIn}
use Rattle.report_text.specs.Putting.{Puts, Printable, work_text, index_list, output_list, choice_text}
use Rattle.report_text.specs.Text.{refused_line, finding_text, chosen_text, report_by, report_text, work_left, max_text, reported}
use Rattle.report_text.specs.declared.Writer.{Writer}
use Rattle.report_text.proofs.Lengths.{refused_short, signature_few, job_short, alike_short}
use Rattle.report_text.proofs.Readings.{work_text_lem}
use Rattle.report_text.proofs.Choices.{exit_text, refused_printed, choice_printed, told_memory}

-- a signature that is answered can be printed
abbrev Ready : AtExit → Type 0
Ready c = c.number ≡ 0 → Printable (Ok (record { counts = c.counts; signature = c.signature })) (length c.memory)

record Prints (c : AtExit) (text : List ℕ) : Type 0 where
  told : exit_text c ≡ text
  short : length text ≤ max_text
  ready : Ready c

-- with any counts, for a refusal tells none
prints_refused : (counts : Counts) (i : ℕ) (work : List ℕ) → 1 ≤ i → i < 100 → Prints (at_exit counts (refused i) work) (refused_line i)
prints_refused counts i work some few =
    record {
      told = refused_printed i _ some;
      short = refused_short i few;
      ready = λ e. absurd (omega arith);
    }

-- ---- a job

module _ (j : Job) (v : Valid j) where
  abbrev F : Family
  F = family_of j

  abbrev signed : List Entry
  signed = signature_in Isolating Mrm 0 F

  -- as it is answered
  abbrev given : Signature
  given = signature_of signed

  indices_taken : index_list given ≡ indices_of signed
  indices_taken = take_at (indices_of signed) _ (length signed) (length-map signed (λ (e : Entry). e.index))

  outputs_taken : output_list given ≡ outputs_of signed
  outputs_taken = take_at (outputs_of signed) _ (length signed) (length-map signed (λ (e : Entry). e.output))

  taken : entries_at (index_list given) (output_list given) ≡ signed
  taken = ap₂ entries_at indices_taken outputs_taken ∙ entries_back signed

  module _ (rest : List ℕ) where
    abbrev filled : List ℕ
    filled = family_spectra Mrm 0 F ++ rest

    rows : RowsIn (counts_of j) (indices_of signed) (outputs_of signed) (length filled)
    rows =
        let long : length (family_spectra Mrm 0 F) ≡ (j.fault_count + 1) * (j.output_count * 2 ^ j.inputs) =
        length_family_spectra Mrm 0 F ∙ mul_assoc (j.fault_count + 1) j.output_count (2 ^ j.inputs) in
        record {
          inputs_few = v.few;
          faults_few = v.faults_few;
          enough = omega (arith, length-append (family_spectra Mrm 0 F) rest);
          paired = length-map signed (λ (e : Entry). e.index) ∙ sym (length-map signed (λ (e : Entry). e.output));
          indices_below = entries_ok (2 ^ j.inputs) (λ (e : Entry). e.index) signed (λ e m. (signature_below Isolating Mrm 0 F e m).0);
          outputs_below = entries_ok j.output_count (λ (e : Entry). e.output) signed (λ e m. (signature_below Isolating Mrm 0 F e m).1);
        }

    prints_found : (p : Pair) → alike_pair Isolating F ≡ p
        → Prints (found (counts_of j) (finding_by p signed) filled) (finding_text (counts_of j) F (finding_by p signed))
    prints_found nobody e =
        record {
          told = ap (λ (l : List Entry). work_text (counts_of j) l filled) taken ∙ work_text_lem j rest signed (signature_below Isolating Mrm 0 F);
          short = job_short j v;
          ready = λ _. (
            le_trans (signature_few j v) faults_entries,
            subst (λ (l : List ℕ). RowsIn (counts_of j) (index_list given) l (length filled)) (sym outputs_taken)
                (subst (λ (l : List ℕ). RowsIn (counts_of j) l (outputs_of signed) (length filled)) (sym indices_taken) rows),
          );
        }
    prints_found (pair a b) e =
        record {
          told = refl;
          short = alike_short j v a b e;
          ready = λ e. absurd (omega arith);
        }

  module _ (work : List ℕ) where
    abbrev Answered : Answer (Fills Finding) → Type 0
    Answered r = Prints (at_exit (counts_of j) r work) (chosen_text (counts_of j) F r)

    by_unless : (t : Bool) (k : ℕ) (r : Answer (Fills Finding)) → 1 ≤ k → k < 100 → Answered r → Answered (unless t k r)
    by_unless true k r some few h = h
    by_unless false k r some few h = prints_refused (counts_of j) k work some few

    prints_chosen : Answered (chosen_from Isolating F Mrm 0 (length work))
    unfolding chosen_from
    prints_chosen =
        by_unless (polarity_ok j.inputs 0) 13 _ (omega arith) (omega arith)
        (by_unless (leb (places F) (length work)) 10 _ (omega arith) (omega arith)
        (prints_found (drop (length (family_spectra Mrm 0 F)) work) (alike_pair Isolating F) refl))

-- ---- an answer

module _ (s work : List ℕ) where
  -- what isolating answers and leaves
  abbrev isolated : AtExit
  isolated = at_exit (counts_in (reading s)) (chosen_of Isolating s Mrm 0 (length work)) work

  prints_read : (a : Answer Job) → reading s ≡ a
      → Prints (at_exit (counts_in a) (onward a (λ j. chosen_from Isolating (family_of j) Mrm 0 (length work))) work) (report_by a (length work))
  prints_read (refused i) r = let known = refused_digits s r in prints_refused (counts_in (refused i)) i work known.0 known.1
  prints_read (gives j) r = prints_chosen j (reading_valid s j r) work

  prints_isolated : Prints isolated (report_text s (length work))
  prints_isolated = prints_read (reading s) refl

pub text_bounded : (s work : List ℕ) → length (report_text s (length work)) ≤ max_text
text_bounded s work = (prints_isolated s work).short

found_memory : (counts : Counts) (f : Finding) (memory : List ℕ) → (found counts f memory).memory ≡ memory
found_memory counts (chosen list) memory = refl
found_memory counts (alike a b) memory = refl

exit_memory : (counts : Counts) (r : Answer (Fills Finding)) (work : List ℕ) → (at_exit counts r work).memory ≡ (leaves r work).memory
exit_memory counts (gives w) work = found_memory counts w.value (leaves (gives w) work).memory
exit_memory counts (refused i) work = refl

module _ (s work : List ℕ) (r : Result Chosen Unchosen) (memory : List ℕ) (e : told r memory ≡ isolated s work) where
  abbrev text : List ℕ
  text = choice_text r memory

  text_whole : text ≡ report_text s (length work)
  text_whole = choice_printed r memory ∙ ap exit_text e ∙ (prints_isolated s work).told

  memory_left : memory ≡ work_left s work
  memory_left =
      sym (told_memory r memory) ∙ ap (λ (c : AtExit). c.memory) e
      ∙ exit_memory (counts_in (reading s)) (chosen_of Isolating s Mrm 0 (length work)) work

  pub choice_printable : Printable r (length memory)
  choice_printable = by_result r (subst (λ (c : AtExit). Ready c) (sym e) (prints_isolated s work).ready)
    where
      by_result : (x : Result Chosen Unchosen) → Ready (told x memory) → Printable x (length memory)
      by_result (Ok c) h = h refl
      by_result (Err u) h = tt

  module _ (out : List ℕ) (enough : max_text ≤ length out) where
    pub choice_fits : 0 + length text ≤ length out
    choice_fits =
        let short : length text ≤ max_text = subst (λ (t : List ℕ). length t ≤ max_text) (sym text_whole) (text_bounded s work) in
        omega arith

    -- from no text on
    pub reported_written : {before after : Writer} {left : List ℕ} → before.len ≡ 0 → before.out.now ≡ out → Puts text before after → left ≡ after.out.now
        → record { answer = Some after.len; work = memory; text = left } ≡ reported s work out
    unfolding reported
    reported_written {before} {after} {left} none same p last =
        let whole : length text ≡ length (report_text s (length work)) = ap length text_whole in
        let ends : after.len ≡ length (report_text s (length work)) = omega arith in
        let stands : left ≡ splice out 0 (report_text s (length work)) =
        last ∙ p.stands ∙ ap₂ (λ (o : List ℕ) (n : ℕ). splice o n text) same none ∙ ap (splice out 0) text_whole in
        (λ i. record { answer = Some (ends i); work = memory_left i; text = stands i })
        ∙ rw (le-leb max_text (length out) enough)

pub reported_short : (s work out : List ℕ) → length out < max_text → record { answer = None; work = work; text = out } ≡ reported s work out
unfolding reported
reported_short s work out h = rw (lt-leb max_text (length out) h)
