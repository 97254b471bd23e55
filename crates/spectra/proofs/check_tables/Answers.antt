-- `spectra::check_tables` meets its contract.
use Rattle.std.proofs.Common.{◌≡◌, sym, ◌∙◌, rules, tests}
use Rattle.job.specs.Check.{inputs_ok}
use Rattle.job.specs.Layout.{max_inputs}
use Rattle.spectra.proofs.Refusals.{tables_unfit, tables_wrong, tables_right}
use Rattle.spectra.proofs.check_tables.Goals as goal
use Rattle.spectra.proofs.check_tables.Goals.{After-contains}

tested : (c : After-contains) → c.contains.result ≡ inputs_ok c.args.counts.inputs
unfolding max_inputs
tested c = let h = c.contains.ensures.value in search (rules, tests)

pub returns-then-not-contains : goal.returns-then-not-contains
returns-then-not-contains c = tables_unfit c.args.counts c.args.tables.now (sym (tested (goal.at.returns-then-not-contains c).After-contains) ∙ c.if-not-contains.true)

pub tables_ok-requires : goal.tables_ok-requires
tables_ok-requires c = sym (tested (goal.at.tables_ok-requires c).After-contains) ∙ c.if-not-contains.false

pub returns-then-not-tables_ok : goal.returns-then-not-tables_ok
returns-then-not-tables_ok c =
    tables_wrong c.args.counts c.args.tables.now (sym (tested (goal.at.returns-then-not-tables_ok c).After-contains) ∙ c.if-not-contains.false)
    (sym c.tables_ok.ensures ∙ c.if-not-tables_ok.true)

pub returns : goal.returns
returns c =
    tables_right c.args.counts c.args.tables.now (sym (tested (goal.at.returns c).After-contains) ∙ c.if-not-contains.false)
    (sym c.tables_ok.ensures ∙ c.if-not-tables_ok.false)
