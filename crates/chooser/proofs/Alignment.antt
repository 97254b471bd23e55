-- The entries kept as a signature (specs/Matrix.antt, `signature_of`): they stand in front of zeros.
--
--   aligned        that many zeros are written over by them
--   kept_push      an entry put at a place stands before the others
use Prim.Native.Nat.{ℕ, zero, suc, ◌+◌, ◌-◌, ◌≤◌, ◌<◌}
use native.Mathlib.Omega.{arith}
use mathlib.Core.Path.{◌≡◌, ap, ap₂, ◌∙◌}
use mathlib.Core.List.{List, ◌∷◌, ◌++◌}
use lib.ListN.{length, drop, set}
use lib.Seq.{drop-cons, lt-length-set, get_or-set_same, drop-set-lt}
use Rattle.chooser.specs.Matrix.{max_signature, zeros, signature_of}
use Rattle.chooser.specs.declared.Signature.{Signature}

drop_zeros : (k n : ℕ) → drop k (zeros n) ≡ zeros (n - k)
unfolding zeros
drop_zeros zero n = let e : n ≡ n - 0 = omega arith in ap zeros e
drop_zeros (suc k) zero = let e : 0 ≡ 0 - suc k = omega arith in ap zeros e
drop_zeros (suc k) (suc n) = let e : n - k ≡ suc n - suc k = omega arith in drop_zeros k n ∙ ap zeros e

pub aligned : (kept : List ℕ) {front : List ℕ} → front ≡ kept
    → ◌≡◌ {A = Signature} (record { count = length kept; entries = front ++ drop (length kept) (zeros max_signature) }) (signature_of kept)
aligned kept e = λ j. record { count = length kept; entries = e j ++ drop_zeros (length kept) max_signature j }

pub kept_push : (l : List ℕ) (e place start : ℕ) → place + 1 ≡ start → start ≤ length l → drop place (set l place e) ≡ e ∷ drop start l
kept_push l e place start next h =
    let inside : place < length l = omega arith in
    let after : suc place ≡ start = omega arith in
    drop-cons (set l place e) place 0 (lt-length-set l place e inside)
    ∙ ap₂ (λ (x : ℕ) (r : List ℕ). x ∷ r) (get_or-set_same l place e 0 inside)
    (drop-set-lt (suc place) l place e (omega arith) ∙ ap (λ (n : ℕ). drop n l) after)
