-- `gates::step::Word::put` meets its contract.
use Rattle.gates.proofs.Words.{word_put}
use Rattle.gates.proofs.step.Word.put.Goals as goal

pub returns : goal.returns
returns c = word_put c.args.rows.now c.args.to c.args.self c.requires
