-- `report_text::Writer::put_circuit` meets its contract.
use Rattle.report_text.proofs.Texts.{puts_then}
use Rattle.report_text.proofs.Writer.put_circuit.Goals as goal

pub returns : goal.returns
returns c = puts_then (puts_then c.put_decimal.ensures c.put_row.ensures) c.put.ensures
