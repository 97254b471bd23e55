-- What holds of the signature, over any matrix, any scan and any relation of needed pairs.
--
--   signature_tell      it tells apart every needed pair that the whole scan tells apart
--   signature_full      so if the whole scan tells all needed pairs apart, it does
--   signature_minimal   whichever entry is left out, some needed pair agrees on the rest
--   signature_from      its entries are entries of the scan
--   signature_bounded   it has fewer entries than there are rows, if there is a row
use Prim.Native.Nat.{ℕ, ◌+◌, ◌≤◌, ◌<◌}
use native.Mathlib.Omega.{arith}
use mathlib.Core.Path.{◌≡◌}
use mathlib.Core.Bool.{Bool, true}
use mathlib.Core.Logic.{⊎_elim}
use mathlib.Core.List.Memᴰ
use mathlib.Core.List.{List, [], Memᴰ}
use lib.ListN.{length}
use Rattle.method.specs.Method.{without, agree, full, takes, signature}
use Rattle.method.proofs.Pairs.{full_some}
use Rattle.method.proofs.Takes.{takes_tell, takes_full, takes_from}
use Rattle.method.proofs.Drops.{drops_tell, drops_full, drops_minimal, drops_from, drops_le}
use Rattle.method.proofs.Bound.{takes_bounded}

module _ {E : Type 0} (coef : ℕ → E → ℕ) (rows : ℕ) (needed : ℕ → ℕ → Bool) (scan : List E) where
  pub signature_tell : (a b : ℕ) → a < b → b < rows → needed a b ≡ true → agree coef (signature coef rows needed scan) a b ≡ true
      → agree coef scan a b ≡ true
  unfolding signature
  signature_tell a b h k n t =
      (takes_tell coef rows needed [] scan a b h k n
      (drops_tell coef rows needed (length (takes coef rows needed [] scan)) (takes coef rows needed [] scan) a b h k n t)).1

  pub signature_full : full coef rows needed scan ≡ true → full coef rows needed (signature coef rows needed scan) ≡ true
  unfolding signature
  signature_full f =
      drops_full coef rows needed (length (takes coef rows needed [] scan)) (takes coef rows needed [] scan) (takes_full coef rows needed [] scan f)

  pub signature_minimal : (i : ℕ) → i < length (signature coef rows needed scan)
      → (a : ℕ) × (b : ℕ) × (a < b) × (b < rows) × (needed a b ≡ true) × (agree coef (without i (signature coef rows needed scan)) a b ≡ true)
  unfolding signature
  signature_minimal i h =
      full_some coef rows needed (without i (signature coef rows needed scan)) (drops_minimal coef rows needed (takes coef rows needed [] scan) i h)

  pub signature_from : {x : E} → Memᴰ x (signature coef rows needed scan) → Memᴰ x scan
  unfolding signature
  signature_from m =
      ⊎_elim (λ p. absurd (Memᴰ.not-nil p)) (λ p. p)
      (takes_from coef rows needed [] scan (drops_from coef rows needed (length (takes coef rows needed [] scan)) (takes coef rows needed [] scan) m))

  pub signature_bounded : 1 ≤ rows → length (signature coef rows needed scan) + 1 ≤ rows
  unfolding signature
  signature_bounded some_row =
      let h : length (takes coef rows needed [] scan) + 1 ≤ rows = takes_bounded coef rows needed some_row scan in
      let k : length (signature coef rows needed scan) ≤ length (takes coef rows needed [] scan) =
      drops_le coef rows needed (length (takes coef rows needed [] scan)) (takes coef rows needed [] scan) in
      omega arith
