-- `report_text::Writer::put_job` meets its contract.
use Rattle.report_text.proofs.Texts.{puts_then}
use Rattle.report_text.proofs.Writer.put_job.Goals as goal

pub returns : goal.returns
returns c = puts_then (puts_then c.put_counts.ensures c.put_signature.ensures) c.put_circuits.ensures
