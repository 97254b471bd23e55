-- `report_text::Writer::put_refused` meets its contract.
use Rattle.report_text.specs.Text.{refused_word}
use Rattle.report_text.proofs.Texts.{puts_then}
use Rattle.report_text.proofs.Writer.put_refused.Goals as goal

pub returns : goal.returns
unfolding refused_word
returns c = puts_then (puts_then c.put.ensures c.put_decimal.ensures) c.put-2.ensures
