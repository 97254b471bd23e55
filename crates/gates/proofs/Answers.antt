-- Laws of the table of answers (specs/Answers.antt), by tests that are computed at all kinds and bits.
--
--   AnswersAs      a kind answers two bits as a function of them does
--   answer_and, answer_or, answer_nand, answer_nor, answer_xor, answer_xnor, answer_not, answer_buf
--                  each kind answers as the Boolean function of its name
--   answers_lt     the answers of a kind are 0 and 1
--   kind_lt        the kinds of gates are 0 to 7
use Prim.Native.Nat.{ℕ, ◌+◌, ◌-◌, ◌%◌, ◌<◌, min, max}
use native.Mathlib.Omega.{arith}
use mathlib.Core.Path.{◌≡◌}
use mathlib.Core.Bool.{Bool}
use mathlib.Core.List.{[]}
use lib.Dec.{ltb, ltb→lt}
use lib.ListN.{get_or}
use Rattle.bits.specs.Bounds.{each_below}
use Rattle.bits.proofs.Below.{each_below_lem, equal_below}
use Rattle.job.specs.Record.{gate_kind}
use Rattle.job.specs.declared.BinaryKind.TheVariants.{And, Or, Nand, Nor, Xor, Xnor}
use Rattle.job.specs.declared.UnaryKind.TheVariants.{Buf, Not}
use Rattle.job.specs.declared.Gate.{Gate}
use Rattle.job.specs.declared.Gate.TheVariants.{Unary, Binary}
use Rattle.gates.specs.Answers.{answers, answer}

abbrev pub AnswersAs : ℕ → (ℕ → ℕ → ℕ) → Type 0
AnswersAs kind f = (x y : ℕ) → x < 2 → y < 2 → answer kind x y ≡ f x y

pub answer_and : AnswersAs 0 (λ x y. min x y)
unfolding answer
answer_and = equal_below (answer 0) (λ x y. min x y) 2 2 tt

pub answer_or : AnswersAs 1 (λ x y. max x y)
unfolding answer
answer_or = equal_below (answer 1) (λ x y. max x y) 2 2 tt

pub answer_nand : AnswersAs 2 (λ x y. 1 - min x y)
unfolding answer
answer_nand = equal_below (answer 2) (λ x y. 1 - min x y) 2 2 tt

pub answer_nor : AnswersAs 3 (λ x y. 1 - max x y)
unfolding answer
answer_nor = equal_below (answer 3) (λ x y. 1 - max x y) 2 2 tt

pub answer_xor : AnswersAs 4 (λ x y. (x + y) % 2)
unfolding answer
answer_xor = equal_below (answer 4) (λ x y. (x + y) % 2) 2 2 tt

pub answer_xnor : AnswersAs 5 (λ x y. 1 - (x + y) % 2)
unfolding answer
answer_xnor = equal_below (answer 5) (λ x y. 1 - (x + y) % 2) 2 2 tt

pub answer_not : AnswersAs 6 (λ x y. 1 - x)
unfolding answer
answer_not = equal_below (answer 6) (λ x y. 1 - x) 2 2 tt

pub answer_buf : AnswersAs 7 (λ x y. x)
unfolding answer
answer_buf = equal_below (answer 7) (λ x y. x) 2 2 tt

abbrev bits_at : ℕ → ℕ → Bool
unfolding answers
bits_at kind k = ltb (get_or (get_or answers kind []) k 0) 2

pub answers_lt : (kind : ℕ) → kind < 8 → (k : ℕ) → k < 4 → get_or (get_or answers kind []) k 0 < 2
unfolding answers
answers_lt kind h k l =
    ltb→lt (get_or (get_or answers kind []) k 0) 2 (each_below_lem (bits_at kind) 4 (each_below_lem (λ kind. each_below 4 (bits_at kind)) 8 tt kind h) k l)

pub kind_lt : (g : Gate) → gate_kind g < 8
kind_lt (Binary And a b) = omega arith
kind_lt (Binary Or a b) = omega arith
kind_lt (Binary Nand a b) = omega arith
kind_lt (Binary Nor a b) = omega arith
kind_lt (Binary Xor a b) = omega arith
kind_lt (Binary Xnor a b) = omega arith
kind_lt (Unary Not a) = omega arith
kind_lt (Unary Buf a) = omega arith
