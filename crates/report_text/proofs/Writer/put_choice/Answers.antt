-- `report_text::Writer::put_choice` meets its contract: a signature counts no more entries than it has.
use lib.ListN.{length}
use Rattle.chooser.specs.Matrix.{max_signature}
use Rattle.report_text.proofs.Choices.{printed_done}
use Rattle.report_text.proofs.Writer.put_choice.Goals as goal

pub shared_ref_as_front-put_job : goal.shared_ref_as_front-put_job
unfolding max_signature
shared_ref_as_front-put_job c = (printed_done (length c.args.work.now) c.in-Ok.is c.requires.0).0

pub shared_ref_as_front-put_job-in-Ok : goal.shared_ref_as_front-put_job-in-Ok
unfolding max_signature
shared_ref_as_front-put_job-in-Ok c = (printed_done (length c.args.work.now) c.in-Ok.is c.requires.0).0
