-- What choosing and locating come to where nothing is refused (Rattle.choosing, specs/Choosing.antt; Rattle.locating, specs/Locating.antt).
--
--   signature_returned   the entries of a signature, as many as it counts, are the list that it stands for
--   lengths_ok_lem       a list's indices and outputs are not refused beside as many readings
--   chosen_opened        what choosing finds and fills
--   located_opened       locating's answer and fills
use Prim.Native.Nat.{ℕ, ◌^◌, ◌≤◌}
use mathlib.Core.Path.{◌≡◌, ap, ap₂, ◌∙◌}
use mathlib.Core.Bool.{true}
use mathlib.Core.List.{List}
use borrow.Author.Tests.{lt-ltb, le-leb, eq-eqb}
use lib.ListN.{length, length-map}
use lib.Seq.{take_at}
use Rattle.bits.specs.Answer.Answer.{gives}
use Rattle.bits.specs.Bounds.{all_below}
use Rattle.bits.proofs.Tests.{and_i}
use Rattle.tables.specs.Family.{Family}
use Rattle.spectra.specs.Listed.{Entry, family_spectra, places, indices_of, outputs_of, entries_at}
use Rattle.spectra.specs.declared.Kind.{Kind}
use Rattle.spectra.proofs.Codes.{entries_back, entries_ok}
use Rattle.choosing.specs.Choosing.{signature_of, finding, chosen_from}
use Rattle.choosing.specs.declared.Purpose.{Purpose}
use Rattle.locating.specs.Locating.{agreeing, location, lengths_ok, prepared_by, located_from}
use Rattle.demand.specs.Demand.{returned, ValidPolarity, ValidList}

pub signature_returned : (l : List Entry) → returned (signature_of l) ≡ l
signature_returned l =
    ap₂ entries_at (take_at (indices_of l) _ (length l) (length-map l (λ (e : Entry). e.index)))
    (take_at (outputs_of l) _ (length l) (length-map l (λ (e : Entry). e.output)))
    ∙ entries_back l

pub lengths_ok_lem : (l : List Entry) (numbers : List ℕ) → length l ≡ length numbers → lengths_ok (indices_of l) (outputs_of l) numbers ≡ true
lengths_ok_lem l numbers e =
    and_i (eq-eqb (length (indices_of l)) (length numbers) (length-map l (λ (e : Entry). e.index) ∙ e))
    (eq-eqb (length (outputs_of l)) (length numbers) (length-map l (λ (e : Entry). e.output) ∙ e))

module _ (F : Family) (kind : Kind) (k room : ℕ) (below : ValidPolarity F k) (enough : places F ≤ room) where
  pub chosen_opened : (purpose : Purpose) → chosen_from purpose F kind k room ≡ gives (record { value = finding purpose kind k F; filled = family_spectra kind k F })
  unfolding chosen_from
  chosen_opened purpose = simp (lt-ltb k (2 ^ F.inputs) below, le-leb (places F) room enough)

  opened : (indices outputs numbers : List ℕ) → all_below (2 ^ F.inputs) indices ≡ true → all_below F.outputs outputs ≡ true
      → lengths_ok indices outputs numbers ≡ true
      → located_from F kind k indices outputs numbers room
      ≡ gives (record { value = location F.part (agreeing kind k F (entries_at indices outputs) numbers); filled = family_spectra kind k F })
  unfolding prepared_by
  opened indices outputs numbers is os paired = simp (lt-ltb k (2 ^ F.inputs) below, is, os, paired, le-leb (places F) room enough)

  pub located_opened : (list : List Entry) (numbers : List ℕ) → ValidList F list → length list ≡ length numbers
      → located_from F kind k (indices_of list) (outputs_of list) numbers room
      ≡ gives (record { value = location F.part (agreeing kind k F list numbers); filled = family_spectra kind k F })
  located_opened list numbers valid paired =
      opened (indices_of list) (outputs_of list) numbers
      (entries_ok (2 ^ F.inputs) (λ (e : Entry). e.index) list (λ e m. (valid e m).0))
      (entries_ok F.outputs (λ (e : Entry). e.output) list (λ e m. (valid e m).1))
      (lengths_ok_lem list numbers paired)
      ∙ ap (λ (l : List Entry). gives (record { value = location F.part (agreeing kind k F l numbers); filled = family_spectra kind k F })) (entries_back list)
