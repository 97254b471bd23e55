-- `report_text::report` meets its contract.
use mathlib.Core.Path.{refl}
use Rattle.std.proofs.Common.{rules}
use Rattle.job.specs.Layout.{max_faults}
use Rattle.report_text.specs.Text.{max_text}
use Rattle.report_text.proofs.Whole.{choice_printable, choice_fits, reported_written, reported_short}
use Rattle.report_text.proofs.report.Goals as goal

pub returns-then-out-lt-MAX_TEXT : goal.returns-then-out-lt-MAX_TEXT
unfolding max_text max_faults
returns-then-out-lt-MAX_TEXT c = reported_short c.args.bytes.now c.args.work.now c.args.out.now c.if-out-lt-MAX_TEXT.true

pub put_choice-requires : goal.put_choice-requires
unfolding max_text max_faults
put_choice-requires c =
    let a = c.args in
    let choice = c.choose-choice in (
      choice_printable a.bytes.now a.work.now choice.result choice.new.work choice.ensures,
      choice_fits a.bytes.now a.work.now choice.result choice.new.work choice.ensures a.out.now c.if-out-lt-MAX_TEXT.false,
    )

pub returns : goal.returns
unfolding max_text max_faults
returns c =
    let a = c.args in
    let choice = c.choose-choice in
    reported_written a.bytes.now a.work.now choice.result choice.new.work choice.ensures a.out.now c.if-out-lt-MAX_TEXT.false
    refl refl c.put_choice.ensures (search rules)
