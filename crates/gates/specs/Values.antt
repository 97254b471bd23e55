-- Believed: the values of an input and of bridged inputs (document 01, "Tables").
--
--   input_value   the value of an input, for an input number
--   bridged       the value that a bridge gives two inputs, for their own values
use Rattle.std.specs.Prelude.{ℕ, ◌/◌, ◌%◌, ◌^◌, Bool, cond}
use Rattle.gates.specs.Answers.{answer}

-- "Input number m .. gives x(i+1) bit i of m, x1 lowest"; "line i is variable x(i+1)"
unfoldable pub input_value : ℕ → ℕ → ℕ
input_value m i = m / 2 ^ i % 2

-- the AND, or the OR, of two values: kinds 0 and 1 of the table of answers
unfoldable pub bridged : Bool → ℕ → ℕ → ℕ
bridged is_and x y = answer (cond is_and 0 1) x y
