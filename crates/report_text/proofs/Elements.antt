-- A text of a list that is the pieces of its elements, one behind another (specs/Text.antt).
--
--   Joined           such a text
--   joined_snoc      an element more, at the end
--   joined_width     pieces of at most so many characters
--   numbers_joined, entries_joined   numbers and entries, each behind a space
use Prim.Native.Nat.{ℕ, ◌+◌, ◌*◌, ◌≤◌}
use native.Mathlib.Nat.{suc-mul}
use native.Mathlib.Omega.{arith}
use mathlib.Core.Path.{◌≡◌, refl, sym, ap, ◌∙◌}
use mathlib.Core.List.{List, [], ◌∷◌, ◌++◌, append_assoc, append-nil, Memᴰ}
use lib.ListN.{length, length-append}
use Rattle.report_text.specs.Text.{space, decimal, numbers_text, entry_text, entries_text}

pub record Joined {A : Type 0} (text : List A → List ℕ) (piece : A → List ℕ) : Type 0 where
  pub none : text [] ≡ []
  pub more : (x : A) (l : List A) → text (x ∷ l) ≡ piece x ++ text l

module _ {A : Type 0} {text : List A → List ℕ} {piece : A → List ℕ} (t : Joined text piece) where
  pub joined_snoc : (l : List A) (x : A) → text (l ++ (x ∷ [])) ≡ text l ++ piece x
  joined_snoc [] x =
      t.more x [] ∙ ap (λ (y : List ℕ). piece x ++ y) t.none ∙ append-nil (piece x) ∙ ap (λ (y : List ℕ). y ++ piece x) (sym t.none)
  joined_snoc (e ∷ l) x =
      t.more e (l ++ (x ∷ []))
      ∙ ap (λ (y : List ℕ). piece e ++ y) (joined_snoc l x)
      ∙ sym (append_assoc (piece e) (text l) (piece x))
      ∙ ap (λ (y : List ℕ). y ++ piece x) (sym (t.more e l))

  pub joined_width : (most : ℕ) (l : List A) → ((x : A) → Memᴰ x l → length (piece x) ≤ most) → length (text l) ≤ length l * most
  joined_width most [] h = rw t.none (omega arith)
  joined_width most (x ∷ l) h =
      let first = h x (Memᴰ.head refl) in
      let rest = joined_width most l (λ y m. h y (Memᴰ.tail m)) in
      let both : length (text (x ∷ l)) ≡ length (piece x) + length (text l) = ap length (t.more x l) ∙ length-append (piece x) (text l) in
      let all = suc-mul (length l) most in
      omega arith

pub numbers_joined : Joined numbers_text (λ v. space ∷ decimal v)
unfolding numbers_text
numbers_joined = record { none = refl; more = λ v l. refl }

pub entries_joined : Joined entries_text entry_text
unfolding entries_text
entries_joined = record { none = refl; more = λ e l. refl }
