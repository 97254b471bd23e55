-- `tables_ok` meets its contract: the counts are tested, and then the rows.
use Rattle.std.proofs.Common.{◌≡◌, ◌&&◌, Bool, leb, sym, ap, ◌∙◌, rules, tests}
use borrow.Author.Tests.{le-leb, lt-leb}
use Rattle.job.specs.Layout.{max_outputs, max_faults}
use Rattle.spectra.specs.Operations.{rows_in, all_rows_ok}
use Rattle.spectra.proofs.TableTests.{counted, counted_faults, counted_outputs, rows_few, tables_counted}
use Rattle.spectra.proofs.tables_ok.Goals as goal
use Rattle.spectra.proofs.tables_ok.Goals.{Joined-counts-le-MAX_FAULTS, then-counts-le-MAX_FAULTS, else-counts-le-MAX_FAULTS}

tested : (c : Joined-counts-le-MAX_FAULTS) → c.if-counts-le-MAX_FAULTS.value ≡ counted c.args.counts
unfolding max_faults max_outputs
tested c =
    let counts = c.args.counts in
    elim c.if-counts-le-MAX_FAULTS.branch [
      | then-counts-le-MAX_FAULTS w ↦
          let few : w.contains.result ≡ (leb 1 counts.outputs && leb counts.outputs 4) = (let h = w.contains.ensures.value in search (rules, tests)) in
          simp (le-leb counts.faults 63 w.if-counts-le-MAX_FAULTS.true) (w.value-is ∙ few)
      | else-counts-le-MAX_FAULTS w ↦ simp (lt-leb counts.faults 63 w.if-counts-le-MAX_FAULTS.false) (w.value-is ∙ lt-leb counts.faults 63 w.if-counts-le-MAX_FAULTS.false)
    ]

pub rows_ok-requires : goal.rows_ok-requires
rows_ok-requires c =
    let fits = sym (tested (goal.at.rows_ok-requires c).Joined-counts-le-MAX_FAULTS) ∙ c.if-contains.true in
    (c.requires, rows_few (counted_faults c.args.counts fits) (counted_outputs c.args.counts fits))

pub returns-then-contains : goal.returns-then-contains
returns-then-contains c =
    let a = c.args in
    c.rows_ok.ensures ∙ ap (λ (t : Bool). t && all_rows_ok a.counts.inputs (rows_in a.counts) a.tables.now) (sym c.if-contains.true)
    ∙ tables_counted a.counts a.tables.now (tested (goal.at.returns-then-contains c).Joined-counts-le-MAX_FAULTS)

pub returns-else-contains : goal.returns-else-contains
returns-else-contains c =
    let a = c.args in
    c.if-contains.false ∙ ap (λ (t : Bool). t && all_rows_ok a.counts.inputs (rows_in a.counts) a.tables.now) (sym c.if-contains.false)
    ∙ tables_counted a.counts a.tables.now (tested (goal.at.returns-else-contains c).Joined-counts-le-MAX_FAULTS)
