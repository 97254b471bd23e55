-- Some pair passes a test (specs/Pairing.antt, `meets`).
--
--   meets_some     where some pair passes, there is one, the lower row first
--   some_meets     where there is one, some pair passes
--   none_meets     where none does, no pair passes
--   meets_same     what is the same of every two rows meets alike
use Prim.Native.Nat.{ℕ, ◌<◌}
use mathlib.Core.Path.{◌≡◌}
use mathlib.Core.Bool.{Bool, true, false, ◌&&◌}
use Rattle.method.specs.Method.{some_below, some_pair}
use Rattle.method.proofs.Pairs.{some_pair_some, some_some_pair, none_some_pair}
use Rattle.chooser.specs.Matrix.{max_rows}
use Rattle.chooser.specs.Pairing.{meets}

-- the coefficients have no part in it
abbrev none : ℕ → ℕ → ℕ
none c e = 0

module _ (pair test : ℕ → ℕ → Bool) where
  pub meets_some : meets pair test ≡ true → (a : ℕ) × (b : ℕ) × (a < b) × (b < max_rows) × (pair a b ≡ true) × (test a b ≡ true)
  unfolding meets some_pair
  meets_some e = some_pair_some none max_rows pair test e

  pub some_meets : (a b : ℕ) → a < b → b < max_rows → pair a b ≡ true → test a b ≡ true → meets pair test ≡ true
  unfolding meets some_pair
  some_meets a b h k p t = some_some_pair none max_rows pair test a b h k p t

  pub none_meets : ((a b : ℕ) → a < b → b < max_rows → pair a b ≡ true → test a b ≡ false) → meets pair test ≡ false
  unfolding meets some_pair
  none_meets all = none_some_pair none max_rows pair test all

pub meets_same : (p q r s : ℕ → ℕ → Bool) → ((a b : ℕ) → p a b && r a b ≡ q a b && s a b) → meets p r ≡ meets q s
unfolding meets
meets_same p q r s same = λ i. some_below max_rows (λ b. some_below b (λ a. same a b i))
