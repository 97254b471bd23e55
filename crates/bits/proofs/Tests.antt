-- Laws of tests, as equations of Bools.
--
--   and_l, and_r, and_i   a conjunction holds exactly when both sides do
--   or_cases, or_l, or_r  a disjunction holds exactly when one side does
--   clash                 no test both holds and fails
--   by_test               a statement that holds whether a test holds or fails
--   by_cond               the same of what a test chooses
--   same_test             tests that imply each other are equal
use mathlib.Core.Path.{◌≡◌, refl, sym, ap, ◌∙◌}
use mathlib.Core.Bool.{Bool, true, false, cond, ◌&&◌, ◌||◌, true≢false}
use mathlib.Core.Logic.{◌⊎◌, inl, inr}

pub and_l : (a b : Bool) → a && b ≡ true → a ≡ true
and_l true b e = refl
and_l false b e = e

pub and_r : (a b : Bool) → a && b ≡ true → b ≡ true
and_r true b e = e
and_r false b e = absurd (true≢false (sym e))

pub and_i : {a b : Bool} → a ≡ true → b ≡ true → a && b ≡ true
and_i {a} {b} p q = ap (λ (x : Bool). x && b) p ∙ q

pub or_cases : (a b : Bool) → a || b ≡ true → (a ≡ true) ⊎ (b ≡ true)
or_cases true b e = inl refl
or_cases false b e = inr e

pub or_l : {a : Bool} (b : Bool) → a ≡ true → a || b ≡ true
or_l b p = ap (λ (x : Bool). x || b) p

pub or_r : (a : Bool) {b : Bool} → b ≡ true → a || b ≡ true
or_r true q = refl
or_r false q = q

pub clash : {t : Bool} → t ≡ true → t ≡ false → ⊥
clash p q = true≢false (sym p ∙ q)

pub by_test : {P : Type 0} (t : Bool) → (t ≡ true → P) → (t ≡ false → P) → P
by_test true p q = p refl
by_test false p q = q refl

pub by_cond : {X : Type 0} (P : X → Type 0) (t : Bool) (x y : X) → (t ≡ true → P x) → (t ≡ false → P y) → P (cond t x y)
by_cond P true x y p q = p refl
by_cond P false x y p q = q refl

pub same_test : {s t : Bool} → (s ≡ true → t ≡ true) → (t ≡ true → s ≡ true) → s ≡ t
same_test {s} {t} f g = by_test s (λ p. p ∙ sym (f p)) (λ p. by_test t (λ q. absurd (clash (g q) p)) (λ q. p ∙ sym q))
