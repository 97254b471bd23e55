-- `report_text::Writer::put_entry` meets its contract.
use Rattle.report_text.proofs.Texts.{puts_then}
use Rattle.report_text.proofs.Writer.put_entry.Goals as goal

pub returns : goal.returns
returns c = puts_then c.put_number.ensures (puts_then c.put.ensures c.put_decimal.ensures)
