-- `report_text::Writer::put_signature` meets its contract.
use Rattle.report_text.specs.Text.{signature_word}
use Rattle.report_text.proofs.Texts.{puts_then}
use Rattle.report_text.proofs.Writer.put_signature.Goals as goal

pub returns : goal.returns
unfolding signature_word
returns c = puts_then (puts_then c.put.ensures c.put_entries.ensures) c.put-2.ensures
