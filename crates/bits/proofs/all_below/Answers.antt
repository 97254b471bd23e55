-- `bits::all_below` meets its contract: it looks for a number that is not below the bound.
use Rattle.std.proofs.Common.{◌≤◌, ◌<◌, rules}
use borrow.Author.Tests.{tests}
use Rattle.std.proofs.lemmas.Iterator.{cases_from_all, YieldsList-from_slice}
use Rattle.bits.proofs.Bounds.{found_below}
use Rattle.bits.proofs.all_below.Goals as goal

pub returns : goal.returns
returns c =
    let bound = c.args.bound in
    found_below bound c.args.list.now c.all.result
    (cases_from_all _ _ _ (λ x. x < bound) (λ x. bound ≤ x) c.all.ensures.ran (YieldsList-from_slice c.args.list.now cc)
    (λ x q k. search (rules, tests))
    (λ x q k. search (rules, tests)))
