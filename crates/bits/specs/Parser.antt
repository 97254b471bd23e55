-- Believed: "Reading takes fields in turn and stops at the first fault": a parser takes what it reads off the front of a string of bits.
--
--   field w      the number in the next w bits; 1, the bytes end inside a field
--   check t k    goes on where t holds, and refuses with k where it does not
--   give a       takes nothing and gives a
--   p >>= f      p, then f on what p gave: the meaning of a line `a ← p` in a `do` block
use Rattle.std.specs.Prelude.{ℕ, List, Bool, length, take, drop, leb}
use Rattle.bits.specs.Answer.{Answer, unless}
use Rattle.bits.specs.Answer.Answer.{gives, refused}
use Rattle.bits.specs.Bits.{value_of}

-- what is read, and the string behind it
pub record Parsed (A : Type 0) : Type 0 where
  pub value : A
  pub rest : List ℕ

abbrev pub Parser : Type 0 → Type 0
Parser A = List ℕ → Answer (Parsed A)

abbrev pub parsed : {A : Type 0} → A → List ℕ → Answer (Parsed A)
parsed a rest = gives (record { value = a; rest = rest })

abbrev pub and_then : {A B : Type 0} → Answer (Parsed A) → (A → Parser B) → Answer (Parsed B)
and_then (gives p) f = f p.value p.rest
and_then (refused k) f = refused k

infixl 10 ◌>>=◌
abbrev pub ◌>>=◌ : {A B : Type 0} → Parser A → (A → Parser B) → Parser B
(p >>= f) bits = and_then (p bits) f

infixl 10 ◌>>◌
abbrev pub ◌>>◌ : {A B : Type 0} → Parser A → Parser B → Parser B
(p >> q) bits = and_then (p bits) (λ _. q)

unfoldable pub field : ℕ → Parser ℕ
field w bits = unless (leb w (length bits)) 1 (parsed (value_of (take w bits)) (drop w bits))

abbrev pub check : Bool → ℕ → Parser (Unit {0})
check t k bits = unless t k (parsed tt bits)

abbrev pub give : {A : Type 0} → A → Parser A
give a bits = parsed a bits
