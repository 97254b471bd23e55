-- Laws of texts put one behind another (specs/Putting.antt).
--
--   puts_none     the empty text
--   puts_same     an equal text
--   room_next     where two texts fit, the second does once the first is put
--   puts_then     a text behind a text
use Prim.Native.Nat.{ℕ, ◌+◌, ◌≤◌}
use native.Mathlib.Omega.{arith}
use native.Mathlib.Nat.{add-zero}
use mathlib.Core.Path.{◌≡◌, refl, sym, ap, ap₂, subst, ◌∙◌}
use mathlib.Core.List.{List, [], ◌++◌, append_assoc, append-nil}
use lib.ListN.{length, take, drop, length-append, length-take, take-append-drop}
use lib.Seq.{take_at, drop-append-add, drop-drop}
use Rattle.bits.specs.Slices.{splice}
use Rattle.report_text.specs.Putting.{Puts, Room}
use Rattle.report_text.specs.declared.Writer.{Writer}

pub puts_none : (w : Writer) → Puts [] w w
puts_none w =
    record {
      same_bytes = refl;
      kept = refl;
      ends = sym (add-zero w.len);
      stands = rw (add-zero, append-nil) (sym (take-append-drop w.len w.out.now));
    }

pub puts_same : {x y : List ℕ} {before after : Writer} → x ≡ y → Puts y before after → Puts x before after
puts_same {before = before} {after = after} e p = subst (λ (t : List ℕ). Puts t before after) (sym e) p

module _ (x y : List ℕ) (at : ℕ) (o : List ℕ) (h : at + length x ≤ length o) where
  length_head : length (take at o ++ x) ≡ at + length x
  length_head = simp (length-append, length-take) (omega arith)

  splice_then : splice (splice o at x) (at + length x) y ≡ splice o at (x ++ y)
  splice_then =
      let p : List ℕ = take at o ++ x in
      let q : List ℕ = drop (at + length x) o in
      let n : at + length x + length y ≡ at + length (x ++ y) = omega (arith, length-append x y) in
      ap₂ (λ (a b : List ℕ). a ++ y ++ b) (take_at p q (at + length x) length_head)
      (ap (λ (n : ℕ). drop (n + length y) (p ++ q)) (sym length_head) ∙ drop-append-add p q (length y) ∙ drop-drop (length y) (at + length x) o)
      ∙ ap₂ (λ (a : List ℕ) (n : ℕ). a ++ drop n o) (append_assoc (take at o) x y) n

pub room_next : (x y : List ℕ) {first second : Writer} → Room (x ++ y) first → Puts x first second → Room y second
room_next x y h p = omega (arith, simp length-append at h, p.ends, p.kept)

pub puts_then : {x y : List ℕ} {first second third : Writer} → Puts x first second → Puts y second third → Puts (x ++ y) first third
puts_then {x} {y} {first} {second} {third} p q =
    record {
      same_bytes = q.same_bytes ∙ p.same_bytes;
      kept = q.kept ∙ p.kept;
      ends = omega (arith, length-append x y);
      stands =
          q.stands ∙ ap₂ (λ (l : List ℕ) (n : ℕ). splice l n y) p.stands p.ends
          ∙ splice_then x y first.len first.out.now (omega arith);
    }
