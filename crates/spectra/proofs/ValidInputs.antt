-- A valid number of inputs, by its test (job's specs/Check.antt).
--
--   inputs_some      there is one
--   inputs_most      no more than a job may have
--   inputs_fifteen   no more than fifteen
--   inputs_word      fewer than the bits of a word
use Prim.Native.Nat.{ℕ, ◌≤◌, ◌<◌}
use native.Mathlib.Nat.{le_trans}
use mathlib.Core.Path.{◌≡◌}
use mathlib.Core.Bool.{true}
use borrow.Author.Tests.{leb-true}
use lib.Dec.{leb}
use Rattle.bits.proofs.Tests.{and_l, and_r}
use Rattle.job.specs.Check.{inputs_ok}
use Rattle.job.specs.Layout.{max_inputs}
use Rattle.job.proofs.Sizes.{most_inputs, inputs_few}

pub inputs_some : {n : ℕ} → inputs_ok n ≡ true → 1 ≤ n
inputs_some {n} h = leb-true 1 n (and_l (leb 1 n) (leb n max_inputs) h)

pub inputs_most : {n : ℕ} → inputs_ok n ≡ true → n ≤ max_inputs
inputs_most {n} h = leb-true n max_inputs (and_r (leb 1 n) (leb n max_inputs) h)

pub inputs_fifteen : {n : ℕ} → inputs_ok n ≡ true → n ≤ 15
inputs_fifteen h = le_trans (inputs_most h) most_inputs

pub inputs_word : {n : ℕ} → inputs_ok n ≡ true → n < 64
inputs_word h = inputs_few (inputs_most h)
