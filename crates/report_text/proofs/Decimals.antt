-- A number's digits (specs/Text.antt).
--
--   decimal_known   they are those that the library's `decimal` gives
--   front           the digits before the last
--   front_small, front_large   none, or those of a tenth
--   decimal_small, decimal_large   one digit, or those of a tenth and the last
--   decimal_front   a number's digits are those before the last, and the last
use Prim.Native.Nat.{ℕ, zero, suc, ◌+◌, ◌-◌, ◌/◌, ◌%◌, ◌≤◌, ◌<◌, ◌^◌}
use native.Mathlib.Omega.{arith}
use native.Mathlib.Nat.{add-zero, add-suc}
use mathlib.Core.Path.{◌≡◌, refl, sym, ap, ◌∙◌}
use mathlib.Core.Bool.{Bool, true, false, cond}
use mathlib.Core.Logic.{◌⊎◌, inl, inr}
use mathlib.Core.List.{List, [], ◌∷◌, ◌++◌}
use borrow.Author.Tests.{lt-ltb, le-ltb, ltb-false}
use lib.Dec.{ltb}
use Rattle.std.proofs.Common.{rules}
use Rattle.std.specs.Fmt.{decimal as known}
use Rattle.std.proofs.lemmas.Fmt.{AppendsLastDigit, decimal_from_appends, length-decimal-le_succ}
use Rattle.bits.proofs.Below.{lt_or_ge}
use Rattle.report_text.specs.Text.{digits, decimal}

digits_append : AppendsLastDigit digits
unfolding digits
digits_append = search rules

pub decimal_known : (n : ℕ) → n < 2 ^ 64 → decimal n ≡ known n
unfolding decimal
decimal_known n h = decimal_from_appends digits digits_append (suc n) n h (omega (arith, length-decimal-le_succ n h))

-- the digits before the last: none, or those of a tenth
abbrev pub front : ℕ → List ℕ
front n = cond (ltb n 10) [] (decimal (n / 10))

pub front_small : (n : ℕ) → n < 10 → front n ≡ []
front_small n h = rw (lt-ltb n 10 h) refl

pub front_large : (n : ℕ) → 10 ≤ n → front n ≡ decimal (n / 10)
front_large n h = rw (le-ltb n 10 h) refl

digits_step : (left n : ℕ) (u : Bool) → ltb n 10 ≡ u → (10 ≤ n → digits (suc left) (n / 10) ≡ digits left (n / 10))
    → cond u ((48 + n) ∷ []) (digits (suc left) (n / 10) ++ ((48 + n % 10) ∷ []))
    ≡ cond u ((48 + n) ∷ []) (digits left (n / 10) ++ ((48 + n % 10) ∷ []))
digits_step left n true e same = refl
digits_step left n false e same = ap (λ (d : List ℕ). d ++ ((48 + n % 10) ∷ [])) (same (ltb-false n 10 e))

-- one digit more changes nothing where they suffice
digits_more : (left n : ℕ) → n < left → digits (suc left) n ≡ digits left n
unfolding digits
digits_more zero n h = absurd (omega arith)
digits_more (suc left) n h = digits_step left n (ltb n 10) refl (λ l. digits_more left (n / 10) (omega arith))

digits_enough : (more n : ℕ) → digits (suc n + more) n ≡ decimal n
unfolding decimal
digits_enough zero n = ap (λ (k : ℕ). digits k n) (add-zero (suc n))
digits_enough (suc more) n =
    ap (λ (k : ℕ). digits k n) (add-suc (suc n) more) ∙ digits_more (suc n + more) n (omega arith) ∙ digits_enough more n

pub decimal_small : (n : ℕ) → n < 10 → decimal n ≡ (48 + n) ∷ []
unfolding decimal digits
decimal_small n h = rw (lt-ltb n 10 h)

decimal_tenth : (n : ℕ) → 10 ≤ n → decimal n ≡ digits n (n / 10) ++ ((48 + n % 10) ∷ [])
unfolding decimal digits
decimal_tenth n h = rw (le-ltb n 10 h)

pub decimal_large : (n : ℕ) → 10 ≤ n → decimal n ≡ decimal (n / 10) ++ ((48 + n % 10) ∷ [])
decimal_large n h =
    let more : suc (n / 10) + (n - suc (n / 10)) ≡ n = omega arith in
    decimal_tenth n h
    ∙ ap (λ (k : ℕ). digits k (n / 10) ++ ((48 + n % 10) ∷ [])) (sym more)
    ∙ ap (λ (d : List ℕ). d ++ ((48 + n % 10) ∷ [])) (digits_enough (n - suc (n / 10)) (n / 10))

pub decimal_front : (n : ℕ) → decimal n ≡ front n ++ ((48 + n % 10) ∷ [])
decimal_front n = by_order (lt_or_ge n 10)
  where
    by_order : (n < 10) ⊎ (10 ≤ n) → decimal n ≡ front n ++ ((48 + n % 10) ∷ [])
    by_order (inl s) =
        let last : n % 10 ≡ n = omega arith in
        decimal_small n s ∙ ap (λ (d : ℕ). (48 + d) ∷ []) (sym last) ∙ ap (λ (l : List ℕ). l ++ ((48 + n % 10) ∷ [])) (sym (front_small n s))
    by_order (inr l) = decimal_large n l ∙ ap (λ (d : List ℕ). d ++ ((48 + n % 10) ∷ [])) (sym (front_large n l))
