-- What a reader's step reads (src/lib.rt).
--
--   field_inside   behind a field is a place within the bytes
--   field_missing  where no field is read, the parser refuses too
--   from_byte      the string from a place on is that from its bit on, of the bytes from its byte on
--   passed_whole   a refusal that an operation met and handed on is what it answers
use Prim.Native.Nat.{ℕ, ◌+◌, ◌*◌, ◌-◌, ◌/◌, ◌%◌, ◌≤◌, ◌<◌}
use native.Mathlib.Omega.{arith}
use mathlib.Core.Path.{◌≡◌, sym, ap, ◌∙◌}
use mathlib.Core.Bool.{true}
use mathlib.Core.List.{List}
use borrow.Author.Tests.{leb-true}
use lib.Dec.{leb}
use lib.ListN.{length, drop}
use lib.Seq.{drop-drop}
use Rattle.std.specs.Prelude.{Some, None, Result}
use Rattle.std.specs.Result.{IsErrAnd}
use Rattle.std.proofs.lemmas.Result.{err_from_is_err_and}
use Rattle.bits.specs.Answer.{Answer, outcome, number}
use Rattle.bits.specs.Answer.Answer.{refused}
use Rattle.bits.specs.Bits.{string_of}
use Rattle.bits.specs.Field.{from, field_at, is_width, max_width}
use Rattle.bits.specs.Parser.{field}
use Rattle.bits.specs.declared.Cursor.{Cursor}
use Rattle.bits.specs.declared.Refusal.{Refusal}
use Rattle.bits.proofs.Bits.{drop_string_of}
use Rattle.bits.proofs.Fields.{field_cut, field_found, length_from}
use Rattle.bits.proofs.Tests.{and_l}

pub field_inside : (s : List ℕ) (at : Cursor) (w v : ℕ) (next : Cursor) → is_width w ≡ true → field_at s at w ≡ Some (v, next) → next.bit / 8 ≤ length s
field_inside s at w v next wide e =
    let some = leb-true 1 w (and_l (leb 1 w) (leb w max_width) wide) in
    let f = field_found s at w v next e in
    let b : at.bit + w ≡ next.bit = ap (λ (x : Cursor). x.bit) f.behind in
    let r : w ≤ length s * 8 - at.bit = rw length_from at f.room in
    omega arith

pub field_missing : (s : List ℕ) (at : Cursor) (w : ℕ) → is_width w ≡ true → at.bit < 64 → field_at s at w ≡ None → field w (from s at) ≡ refused 1
field_missing s at w wide near missing = field_cut s at w wide (omega arith) missing

pub from_byte : (s : List ℕ) (c : Cursor) → from (drop (c.bit / 8) s) (record { bit = c.bit % 8 }) ≡ from s c
unfolding from
from_byte s c =
    let e : c.bit / 8 * 8 + c.bit % 8 ≡ c.bit = omega arith in
    ap (drop (c.bit % 8)) (sym (drop_string_of (c.bit / 8) s))
    ∙ drop-drop (c.bit % 8) (c.bit / 8 * 8) (string_of s)
    ∙ ap (λ (k : ℕ). drop k (string_of s)) e

pub passed_whole : {A : Type 0} (r : Result A Refusal) (e : Refusal) {a : Answer A} → IsErrAnd r (λ y. y ≡ e) → refused (number e) ≡ a → outcome r ≡ a
passed_whole r e h same = let p = err_from_is_err_and r h in rw (p.1, p.2) same
