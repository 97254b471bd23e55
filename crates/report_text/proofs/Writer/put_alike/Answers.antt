-- `report_text::Writer::put_alike` meets its contract.
use Rattle.report_text.specs.Text.{alike_word}
use Rattle.report_text.proofs.Texts.{puts_then}
use Rattle.report_text.proofs.Writer.put_alike.Goals as goal

pub returns : goal.returns
unfolding alike_word
returns c = puts_then (puts_then (puts_then c.put.ensures c.put_decimal.ensures) c.put_number.ensures) c.put-2.ensures
