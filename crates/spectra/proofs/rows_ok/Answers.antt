-- `rows_ok` meets its contract: the chunks are the rows, and each is tested.
use Rattle.std.specs.Iterator.Runs.{IsChunksExactRun}
use Rattle.std.specs.Slice.Iter.{chunks_exact_size, chunks_exact_rest}
use Rattle.bits.specs.Sizes.{table_bytes}
use Rattle.std.proofs.Common.{List, refl, ap, subst, ◌∙◌, tests, ◌≡◌, ℕ, ◌*◌, ◌<◌, arith, rules}
use borrow.Author.Tests.{ne_eqb}
use Rattle.bits.proofs.TableSizes.{table_bytes_exact}
use Rattle.spectra.proofs.RowTests.{rows_tested}
use Rattle.spectra.proofs.TableTests.{bytes_some, rows_other, rows_small}
use Rattle.spectra.proofs.ValidInputs.{inputs_fifteen, inputs_word}
use Rattle.spectra.proofs.rows_ok.Goals as goal
use Rattle.spectra.proofs.rows_ok.Goals.{After-table_bytes-bytes, After-all}

pub overflow_mul-rows : goal.overflow_mul-rows
overflow_mul-rows c = record { fits = rows_small c.args.n (inputs_fifteen c.requires.0) (table_bytes_exact (inputs_word c.requires.0) c.table_bytes-bytes.ensures) c.requires.1 }

pub chunks_exact-requires : goal.chunks_exact-requires
chunks_exact-requires c = bytes_some c.args.n (table_bytes_exact (inputs_word c.requires.0) c.table_bytes-bytes.ensures)

pub all-requires-clause-can : goal.all-requires-clause-can
all-requires-clause-can c = omega (arith, c.chunks_exact.ensures.size, bytes_some c.args.n (table_bytes_exact (inputs_word c.requires.0) c.table_bytes-bytes.ensures))

pub returns-then-tables-rows : goal.returns-then-tables-rows
returns-then-tables-rows c =
    let e = table_bytes_exact (inputs_word c.requires.0) c.table_bytes-bytes.ensures in
    let run = c.all.ensures.runs in
    let some : 0 < table_bytes c.args.n = bytes_some c.args.n refl in
    let width : run.0.from.size ≡ table_bytes c.args.n = ap chunks_exact_size run.1 ∙ c.chunks_exact.ensures.size ∙ e in
    let list : run.0.from.rest.now ≡ c.args.tables.now = ap chunks_exact_rest run.1 ∙ c.chunks_exact.ensures.rest in
    let chunks : IsChunksExactRun run.0 (table_bytes c.args.n) c.args.tables.now =
    subst (λ (w : ℕ). IsChunksExactRun run.0 w c.args.tables.now) width
    (subst (λ (s : List ℕ). IsChunksExactRun run.0 run.0.from.size s) list (c.chunks_exact.ensures.runs run.0 run.0.seen (rw width some))) in
    rows_tested run.0 _ _ c.args.n c.args.rows c.args.tables.now some (c.if-tables-rows.true ∙ ap (λ (w : ℕ). c.args.rows * w) e) chunks c.args.tables (λ a b q h. search (rules, tests)) c.all.result run.2

pub returns-else-tables-rows : goal.returns-else-tables-rows
returns-else-tables-rows c =
    let e = table_bytes_exact (inputs_word c.requires.0) c.table_bytes-bytes.ensures in
    ne_eqb _ _ c.if-tables-rows.false ∙ rows_other c.args.n c.args.tables.now c.args.rows e c.if-tables-rows.false
