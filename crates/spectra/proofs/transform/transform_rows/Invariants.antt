-- `transform_rows` meets its contract: the spectra of the rows passed stand at the start of the memory.
use Rattle.spectra.proofs.Rows.{Filling}
use Rattle.spectra.proofs.transform.transform_rows.Given as goal

abbrev pub invariant-loop-r : goal.invariant-loop-r
invariant-loop-r l = Filling l.kind l.n l.k l.tables l.initial.work l.rows l.size l.bytes l.work l.r
