-- `spectra::undo` meets its contract: each way out is one of undoing.
use Rattle.std.proofs.Common.{◌≡◌, ◌≤◌, true, sym, ◌∙◌, arith, rules, tests}
use lib.ListN.{length-take}
use Rattle.job.specs.Check.{inputs_ok}
use Rattle.job.specs.Layout.{max_inputs}
use Rattle.spectra.proofs.Recovery.{entries_most, lent_of, undo_unfit, undo_polarity, undo_count}
use Rattle.spectra.proofs.undo.Goals as goal
use Rattle.spectra.proofs.undo.Goals.{After-contains, After-table_size-size}

tested : (c : After-contains) → c.contains.result ≡ inputs_ok c.args.n
unfolding max_inputs
tested c = let h = c.contains.ensures.value in search (rules, tests)

valid : (c : After-table_size-size) → inputs_ok c.args.n ≡ true
unfolding max_inputs
valid c = (let h = c.contains.ensures.value in search (rules, tests))

few : (c : After-table_size-size) → c.table_size-size.result ≤ 256
unfolding max_inputs
few c = entries_most c.args.n c.table_size-size.ensures (valid c)

pub returns-then-not-contains : goal.returns-then-not-contains
returns-then-not-contains c = let a = c.args in undo_unfit a.n a.numbers.now a.kind a.polarity a.out.now (sym (tested (goal.at.returns-then-not-contains c).After-contains) ∙ c.if-not-contains.true)

pub returns-then-size-polarity : goal.returns-then-size-polarity
returns-then-size-polarity c = let a = c.args in undo_polarity a.n a.numbers.now a.kind a.polarity a.out.now (valid (goal.at.returns-then-size-polarity c).After-table_size-size) c.table_size-size.ensures c.if-size-polarity.true

pub returns-then-numbers-size : goal.returns-then-numbers-size
returns-then-numbers-size c = let a = c.args in undo_count a.n a.numbers.now a.kind a.polarity a.out.now (valid (goal.at.returns-then-numbers-size c).After-table_size-size) c.table_size-size.ensures c.if-size-polarity.false c.if-numbers-size.true

pub slice_bounds-table-end : goal.slice_bounds-table-end
slice_bounds-table-end c = omega (arith, few (goal.at.slice_bounds-table-end c).After-table_size-size)

pub slice_bounds-undo_in-end : goal.slice_bounds-undo_in-end
slice_bounds-undo_in-end c = simp length-take (omega (arith, few (goal.at.slice_bounds-undo_in-end c).After-table_size-size))

pub slice_bounds-sums-end : goal.slice_bounds-sums-end
slice_bounds-sums-end c = few (goal.at.slice_bounds-sums-end c).After-table_size-size

pub slice_bounds-undo_in-end-2 : goal.slice_bounds-undo_in-end-2
slice_bounds-undo_in-end-2 c = simp length-take (omega (arith, few (goal.at.slice_bounds-undo_in-end-2 c).After-table_size-size))

pub undo_in-requires : goal.undo_in-requires
undo_in-requires c =
    let v = valid (goal.at.undo_in-requires c).After-table_size-size in
    let m = few (goal.at.undo_in-requires c).After-table_size-size in
    lent_of c.table_size-size.ensures v c.if-size-polarity.false c.if-numbers-size.false (simp length-take (omega arith)) (simp length-take (omega arith))
