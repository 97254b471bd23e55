-- `Observed::agree` meets its contract: the numbers passed are the readings.
use Rattle.locating.proofs.Comparison.{compared_none, compared_stop, compared_more, compared_all}
use Rattle.locating.proofs.Observed.agree.Goals as goal

pub loop-i-init : goal.loop-i-init
loop-i-init c = compared_none c.args.work.now c.requires c.args.self.now.readings.now c.args.self.now.indexed

pub loop-i-preserved : goal.loop-i-preserved
loop-i-preserved c = compared_more c.args.work.now c.requires c.args.self.now.readings.now c.args.self.now.indexed c.loop-i-test.true c.loop-i.invariant c.if-work-start.false

pub returns-then-work-start : goal.returns-then-work-start
returns-then-work-start c = compared_stop c.args.work.now c.requires c.args.self.now.readings.now c.args.self.now.indexed c.loop-i-test.true c.loop-i.invariant c.if-work-start.true

pub returns : goal.returns
returns c = compared_all c.args.work.now c.requires c.args.self.now.readings.now c.args.self.now.indexed c.loop-i.invariant c.loop-i-test.false
