-- `writing::check_gates` meets its contract.
use Rattle.std.proofs.Common.{get_or}
use Rattle.job.specs.Record.{unused_gate}
use Rattle.writing.specs.Checks.{gate_judged}
use Rattle.writing.proofs.Checks.{each_end, each_stop, each_next, gate_first, gate_second, gate_passed}
use Rattle.writing.proofs.check_gates.Goals as goal
use Rattle.writing.proofs.check_gates.Goals.{then-own-first-via-then-own-first, then-own-first-via-else-own-first+then-own-second}

pub returns-then-own-first : goal.returns-then-own-first
returns-then-own-first c =
    let n = c.args.inputs in
    let q = c.loop-q.q in
    let e = get_or c.args.gates.now q unused_gate in
    each_stop (gate_judged n) unused_gate c.args.gates.now c.loop-q.invariant c.loop-q-test.true
    (elim c.then-own-first.branch [
      | then-own-first-via-then-own-first w ↦ gate_first n q e c.first.ensures w.if-own-first.true
      | then-own-first-via-else-own-first+then-own-second w ↦ gate_second n q e c.first.ensures w.second.ensures w.if-own-first.false w.if-own-second.true
    ])

pub loop-q-preserved : goal.loop-q-preserved
loop-q-preserved c =
    let n = c.args.inputs in
    let q = c.loop-q.q in
    let e = get_or c.args.gates.now q unused_gate in
    each_next (gate_judged n) unused_gate c.args.gates.now c.loop-q.invariant c.loop-q-test.true
    (gate_passed n q e c.first.ensures c.second.ensures c.if-own-first.false c.if-own-second.false)

pub returns : goal.returns
returns c = each_end (gate_judged c.args.inputs) unused_gate c.args.gates.now c.loop-q.invariant c.loop-q-test.false
