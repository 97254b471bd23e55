-- The polynomials of the kinds of gates, worked out kind after kind (specs/Sizes.antt).
--
--   kind_of_lem    the gate of a kind's number has the kind
--   Forming        those of the first kinds are worked out
--   forming_next   one more
--   form_read      the polynomial of a gate's kind
use Prim.Native.Nat.{ℕ, ◌+◌, ◌<◌}
use native.Mathlib.Omega.{arith}
use mathlib.Core.Path.{◌≡◌, ap, ◌∙◌}
use mathlib.Core.List.{List}
use borrow.Author.Count.{below_more}
use lib.ListN.{length, get_or, set, length-set}
use lib.Seq.{get_or-set_same, get_or-set_other}
use Rattle.bits.proofs.Below.{equal_below}
use Rattle.job.specs.Record.{gate_kind, gate_of}
use Rattle.job.specs.declared.Gate.{Gate}
use Rattle.gates.specs.Polynomial.{kind_polynomial}
use Rattle.gates.specs.declared.Polynomial.{Polynomial}
use Rattle.gates.proofs.Answers.{kind_lt}
use Rattle.tables.specs.Sizes.{no_polynomial, Formed}

pub kind_of_lem : (kind : ℕ) → kind < 8 → gate_kind (gate_of kind 0 0) ≡ kind
kind_of_lem kind h = equal_below (λ kind _. gate_kind (gate_of kind 0 0)) (λ kind _. kind) 8 1 tt kind 0 h (omega arith)

pub record Forming (mask : ℕ) (of : List Polynomial) (kind : ℕ) : Type 0 where
  pub whole : length of ≡ 8
  pub done : (k : ℕ) → k < kind → get_or of k no_polynomial ≡ kind_polynomial k mask

pub forming_next : (mask : ℕ) (of : List Polynomial) (kind : ℕ) (gate : Gate) (polynomial : Polynomial) → Forming mask of kind → kind < 8 → gate ≡ gate_of kind 0 0
    → polynomial ≡ kind_polynomial (gate_kind gate) mask → Forming mask (set of kind polynomial) (kind + 1)
forming_next mask of kind gate polynomial w h is e =
    record {
      whole = length-set of kind polynomial ∙ w.whole;
      done =
          below_more (λ (k : ℕ). get_or (set of kind polynomial) k no_polynomial ≡ kind_polynomial k mask) kind
          (λ k l. get_or-set_other of kind k polynomial no_polynomial (λ (e : k ≡ kind). absurd (omega arith)) ∙ w.done k l)
          (get_or-set_same of kind polynomial no_polynomial (omega (arith, w.whole)) ∙ e
          ∙ ap (λ (g : Gate). kind_polynomial (gate_kind g) mask) is ∙ ap (λ (k : ℕ). kind_polynomial k mask) (kind_of_lem kind h));
    }

-- the polynomial of a gate's kind
pub form_read : (mask : ℕ) (polynomials : List Polynomial) → Formed mask polynomials → (g : Gate) {kind : ℕ} → kind ≡ gate_kind g → get_or polynomials kind no_polynomial ≡ kind_polynomial (gate_kind g) mask
form_read mask polynomials formed g e = ap (λ (k : ℕ). get_or polynomials k no_polynomial) e ∙ formed.polynomial (gate_kind g) (kind_lt g)
