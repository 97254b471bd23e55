-- What an answer that gives a value says of its parts, and which answers give one (specs/Answer.antt, specs/Parser.antt).
--
--   gives_same       equal answers give equal values
--   never_gives      a refusal gives nothing
--   refused_same     equal refusals have equal numbers
--   unless_gives     a test that did not refuse held
--   unless_true      a test that holds refuses nothing
--   unless_false     one that does not, refuses
--   onward_gives     both parts of `onward` gave
--   unless_onward    what goes on from a test goes on behind it
--   onward_onward    going on twice
--   and_then_gives   both parts of `and_then` gave
--   check_then       a check that did not refuse held, and took nothing
--   Taken            what a field took off the front of a string of bits
--   field_gives      a field takes the bits of its value, which fits its width
--   field_then       the same of a field and what follows it
--   field_takes      the bits of a value that fits are taken as that value
use Prim.Native.Nat.{ℕ, ◌^◌, ◌≤◌, ◌<◌}
use native.Mathlib.Nat.{mod-eq_of_lt, le-add_right}
use native.Mathlib.Omega.{arith}
use mathlib.Core.Path.{◌≡◌, refl, sym, ap, ap₂, ◌∙◌, subst}
use mathlib.Core.Bool.{Bool, true, false}
use mathlib.Core.List.{List, ◌++◌}
use borrow.Author.Tests.{leb-true, le-leb}
use lib.Dec.{leb}
use lib.ListN.{length, take, drop, length-append, take-append-drop}
use lib.Seq.{length-take-le, take_at, drop_at}
use Rattle.bits.specs.Answer.{Answer, unless, onward}
use Rattle.bits.specs.Answer.Answer.{gives, refused}
use Rattle.bits.specs.Bits.{bits_of, value_of}
use Rattle.bits.specs.Parser.{Parser, Parsed, parsed, and_then, field, check}
use Rattle.bits.proofs.Bits.{AllBits, bits_take, bits_drop, bits_of_value_of, length_bits_of, value_of_bits_of, value_of_lt}

pub gives_same : {A : Type 0} {a b : A} → gives a ≡ gives b → a ≡ b
gives_same e = cc

pub never_gives : {A : Type 0} {k : ℕ} {a : A} → refused k ≡ gives a → ⊥
never_gives e = let z : ◌≡◌ {A = ℕ} 0 1 = cc in omega arith

pub refused_same : {A : Type 0} {a b : ℕ} → ◌≡◌ {A = Answer A} (refused a) (refused b) → a ≡ b
refused_same e = cc

pub unless_gives : {A : Type 0} {a : A} (t : Bool) (k : ℕ) (r : Answer A) → unless t k r ≡ gives a → (t ≡ true) × (r ≡ gives a)
unless_gives true k r e = (refl, e)
unless_gives false k r e = absurd (never_gives e)

pub unless_true : {A : Type 0} {t : Bool} (k : ℕ) (r : Answer A) → t ≡ true → unless t k r ≡ r
unless_true k r e = ap (λ (t : Bool). unless t k r) e

pub unless_false : {A : Type 0} {t : Bool} (k : ℕ) (r : Answer A) → t ≡ false → unless t k r ≡ refused k
unless_false k r e = ap (λ (t : Bool). unless t k r) e

pub onward_gives : {A B : Type 0} {b : B} (r : Answer A) (f : A → Answer B) → onward r f ≡ gives b → (a : A) × (r ≡ gives a) × (f a ≡ gives b)
onward_gives (gives a) f e = (a, refl, e)
onward_gives (refused k) f e = absurd (never_gives e)

pub unless_onward : {A B : Type 0} (t : Bool) (k : ℕ) (r : Answer A) (f : A → Answer B) → onward (unless t k r) f ≡ unless t k (onward r f)
unless_onward true k r f = refl
unless_onward false k r f = refl

pub onward_onward : {A B C : Type 0} (r : Answer A) (f : A → Answer B) (g : B → Answer C) → onward (onward r f) g ≡ onward r (λ a. onward (f a) g)
onward_onward (gives a) f g = refl
onward_onward (refused k) f g = refl

pub and_then_gives : {A B : Type 0} {q : Parsed B} (r : Answer (Parsed A)) (f : A → Parser B) → and_then r f ≡ gives q
    → (p : Parsed A) × (r ≡ gives p) × (f p.value p.rest ≡ gives q)
and_then_gives (gives p) f e = (p, refl, e)
and_then_gives (refused k) f e = absurd (never_gives e)

-- this one and `field_then` hand what they find to the rest of a proof, so that its terms stay short
pub check_then : {B : Type 0} {q : Parsed B} {R : Type 0} (t : Bool) (k : ℕ) (bits : List ℕ) (f : Parser B) → and_then (check t k bits) (λ _. f) ≡ gives q
    → (t ≡ true → f bits ≡ gives q → R) → R
check_then true k bits f e go = go refl e
check_then false k bits f e go = absurd (never_gives e)

pub record Taken (w : ℕ) (bits : List ℕ) (v : ℕ) (rest : List ℕ) : Type 0 where
  pub text : bits ≡ bits_of w v ++ rest
  pub fits : v < 2 ^ w
  pub bits_left : AllBits rest

taken : (w : ℕ) (bits : List ℕ) → AllBits bits → w ≤ length bits → Taken w bits (value_of (take w bits)) (drop w bits)
taken w bits h room =
    let l : length (take w bits) ≡ w = length-take-le w bits room in
    record {
      text =
          sym (take-append-drop w bits)
          ∙ ap (λ (x : List ℕ). x ++ drop w bits)
          (sym (ap (λ (k : ℕ). bits_of k (value_of (take w bits))) (sym l) ∙ bits_of_value_of (take w bits) (bits_take w bits h)));
      fits = subst (λ (k : ℕ). value_of (take w bits) < 2 ^ k) l (value_of_lt (take w bits) (bits_take w bits h));
      bits_left = bits_drop w bits h;
    }

pub field_gives : (w : ℕ) (bits : List ℕ) (p : Parsed ℕ) → AllBits bits → field w bits ≡ gives p → Taken w bits p.value p.rest
unfolding field
field_gives w bits p h e =
    let u = unless_gives (leb w (length bits)) 1 (parsed (value_of (take w bits)) (drop w bits)) e in
    subst (λ (q : Parsed ℕ). Taken w bits q.value q.rest) (gives_same u.1) (taken w bits h (leb-true w (length bits) u.0))

pub field_then : {B : Type 0} {q : Parsed B} {R : Type 0} (w : ℕ) (bits : List ℕ) (f : ℕ → Parser B) → AllBits bits → and_then (field w bits) f ≡ gives q
    → ((v : ℕ) (rest : List ℕ) → Taken w bits v rest → f v rest ≡ gives q → R) → R
field_then w bits f h e go =
    let t = and_then_gives (field w bits) f e in
    go t.0.value t.0.rest (field_gives w bits t.0 h t.1) t.2

pub field_takes : (w v : ℕ) (rest : List ℕ) → v < 2 ^ w → field w (bits_of w v ++ rest) ≡ parsed v rest
unfolding field
field_takes w v rest h =
    let l : length (bits_of w v) ≡ w = length_bits_of w v in
    let room : w ≤ length (bits_of w v ++ rest) = simp (length-append, length_bits_of) (le-add_right w (length rest)) in
    ap₂ (λ (t : Bool) (r : Answer (Parsed ℕ)). unless t 1 r) (le-leb w (length (bits_of w v ++ rest)) room)
    (ap₂ (λ (x : ℕ) (y : List ℕ). parsed x y)
    (ap value_of (take_at (bits_of w v) rest w l) ∙ value_of_bits_of w v ∙ mod-eq_of_lt h)
    (drop_at (bits_of w v) rest w l))
