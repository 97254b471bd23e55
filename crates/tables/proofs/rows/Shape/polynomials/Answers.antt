-- `tables::rows::Shape::polynomials` meets its contract: each turn works out the polynomial of one kind.
use Rattle.tables.proofs.Polynomials.{forming_next}
use Rattle.tables.proofs.rows.Shape.polynomials.Goals as goal

pub loop-kind-preserved : goal.loop-kind-preserved
loop-kind-preserved c =
    forming_next c.args.self.mask c.loop-kind.polynomial-items c.loop-kind.kind c.gate_of.result c.polynomial_of.result c.loop-kind.invariant c.loop-kind-test.true
    c.gate_of.ensures c.polynomial_of.ensures
