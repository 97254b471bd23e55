-- `report_text::Writer::put_counts` meets its contract.
use Rattle.report_text.specs.Text.{inputs_word, gates_word, faults_word}
use Rattle.report_text.proofs.Texts.{puts_then}
use Rattle.report_text.proofs.Writer.put_counts.Goals as goal

pub returns : goal.returns
unfolding inputs_word gates_word faults_word
returns c =
    let inputs = puts_then c.put.ensures c.put_decimal.ensures in
    let gates = puts_then (puts_then inputs c.put-2.ensures) c.put_decimal-2.ensures in
    let faults = puts_then (puts_then gates c.put-3.ensures) c.put_decimal-3.ensures in
    puts_then faults c.put-4.ensures
