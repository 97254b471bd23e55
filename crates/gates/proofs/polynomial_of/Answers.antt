-- `gates::polynomial_of` meets its contract. The constant's rows are `answers`, by computation.
use Prim.Native.Nat.{ℕ}
use mathlib.Core.Path.{ap}
use mathlib.Core.List.{[]}
use lib.ListN.{get_or}
use Rattle.gates.specs.Answers.{answers}
use Rattle.gates.specs.Polynomial.{polynomial_of}
use Rattle.gates.proofs.polynomial_of.Goals as goal

pub returns : goal.returns
unfolding answers polynomial_of
returns c = ap (λ (kind : ℕ). polynomial_of (get_or answers kind []) c.args.mask) c.kind.ensures
