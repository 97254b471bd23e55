-- `tables::rows::Shape::polynomials` meets its contract: each turn works out the polynomial of one kind.
use Rattle.tables.proofs.Polynomials.{Forming}
use Rattle.tables.proofs.rows.Shape.polynomials.Given as goal

abbrev pub invariant-loop-kind : goal.invariant-loop-kind
invariant-loop-kind l = Forming l.self.mask l.polynomial-items l.kind
