-- The three fields that a gate and a fault begin with, read one after the other (specs/Reading.antt).
--
--   entry_read   what they give
use Prim.Native.Nat.{ℕ}
use mathlib.Core.Path.{◌≡◌}
use mathlib.Core.List.{List}
use Rattle.std.specs.Prelude.{Some}
use Rattle.bits.specs.Field.{from, field_at}
use Rattle.bits.specs.Parser.{parsed}
use Rattle.bits.specs.declared.Cursor.{Cursor}
use Rattle.bits.proofs.Fields.{field_value}
use Rattle.job.specs.Layout.{line_bits}
use Rattle.reading.specs.Reading.{entry_fields}

pub entry_read : (s : List ℕ) (at : Cursor) (w : ℕ) {kind a b : ℕ} {c d e : Cursor} → field_at s at w ≡ Some (kind, c) → field_at s c line_bits ≡ Some (a, d)
    → field_at s d line_bits ≡ Some (b, e) → entry_fields w (from s at) ≡ parsed (record { kind = kind; a = a; b = b }) (from s e)
unfolding entry_fields
entry_read s at w {kind} {a} {b} {c} {d} {e} first second third =
    simp (field_value s at w kind c first, field_value s c line_bits a d second, field_value s d line_bits b e third)
