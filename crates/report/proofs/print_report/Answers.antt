-- `report::print_report` is safe and ends: the text is made, and all there.
use lib.Seq.{length-take-le}
use mathlib.Core.Path.{sym}
use Rattle.job.specs.Layout.{max_faults}
use Rattle.report_text.specs.Text.{max_text}
use Rattle.report.proofs.Bounds.{blank_made, blank_within}
use Rattle.report.proofs.print_report.Goals as goal

pub unwrap-length-requires : goal.unwrap-length-requires
unfolding max_text max_faults
unwrap-length-requires g c =
    blank_made c.args.bytes.now (record { answer = c.job_report.result; text = c.job_report.new.out }) c.job_report.ensures

pub slice_bounds-text-end : goal.slice_bounds-text-end
unfolding max_text max_faults
slice_bounds-text-end g c =
    blank_within c.args.bytes.now (record { answer = c.job_report.result; text = c.job_report.new.out }) c.job_report.ensures
    c.unwrap-length.result c.unwrap-length.ensures

pub slice_bounds-write_all-end : goal.slice_bounds-write_all-end
unfolding max_text max_faults
slice_bounds-write_all-end g c =
    sym (length-take-le c.unwrap-length.result c.job_report.new.out
    (blank_within c.args.bytes.now (record { answer = c.job_report.result; text = c.job_report.new.out }) c.job_report.ensures
    c.unwrap-length.result c.unwrap-length.ensures))
