-- The room that the pieces of a line need (specs/Putting.antt).
--
--   index_room, colon_room   where an entry fits, its index does, and then its output behind the colon
use mathlib.Core.List.{◌∷◌}
use native.Mathlib.Omega.{arith}
use lib.ListN.{length-append}
use Rattle.spectra.specs.Listed.{Entry}
use Rattle.report_text.specs.Text.{decimal, space, colon, entry_text}
use Rattle.report_text.specs.Putting.{Puts, Room}
use Rattle.report_text.specs.declared.Writer.{Writer}
use Rattle.report_text.proofs.Texts.{room_next}

module _ (e : Entry) (w : Writer) (room : Room (entry_text e) w) where
  pub index_room : Room (space ∷ decimal e.index) w
  index_room = omega (arith, simp length-append at room)

  pub colon_room : {next : Writer} → Puts (space ∷ decimal e.index) w next → Room (colon ∷ decimal e.output) next
  colon_room p = room_next (space ∷ decimal e.index) (colon ∷ decimal e.output) room p
