-- Locating sees no more of a family than its parts and entries, and so goes over to a job's family (specs/Locating.antt).
--
--   location_same                         equal parts give the same location
--   prepared_respects, located_respects   families whose parts and entries are the same prepare and locate the same
--   located_unread                        reading's refusals
--   located_delivered                     past reading, locating among the delivered tables is locating the job
use Prim.Native.Nat.{ℕ, ◌*◌, ◌^◌, ◌<◌}
use mathlib.Core.Path.{◌≡◌, refl, sym, ap, ap₂, ◌∙◌}
use mathlib.Core.Bool.{Bool, true, false, ◌&&◌, cond}
use mathlib.Core.List.{List, [], ◌∷◌, Memᴰ}
use borrow.Author.Tests.{ltb-true}
use lib.Dec.{eqb, leb}
use lib.ListN.{length, take}
use Rattle.bits.specs.Answer.{Answer, Fills, leaves, unless, onward}
use Rattle.bits.specs.Answer.Answer.{gives, refused}
use Rattle.bits.specs.Bounds.{all_below}
use Rattle.bits.specs.Passing.{passing}
use Rattle.bits.proofs.Answers.{unless_gives, unless_false}
use Rattle.job.specs.declared.Job.{Job}
use Rattle.reading.specs.Reading.{reading}
use Rattle.tables.specs.Family.{Family, family_of}
use Rattle.tables.specs.declared.Delivery.{Delivery}
use Rattle.tables.proofs.Answers.{kept}
use Rattle.tables.proofs.Families.{SameFamily, Delivers}
use Rattle.spectra.specs.Listed.{Entry, coef_of, readings_of, family_spectra, entries_at}
use Rattle.spectra.specs.Operations.{polarity_ok, from_tables, same_numbers}
use Rattle.spectra.specs.Spectrum.{coefficient}
use Rattle.spectra.specs.declared.Kind.{Kind}
use Rattle.spectra.proofs.Bounds.{coefficient_ext}
use Rattle.spectra.proofs.Families.{spectra_same, Respects, delivered_family}
use Rattle.locating.specs.Locating.{Location, each_of, location, agreeing, lengths_ok, prepared_by, located_from, located_of}
use Rattle.locating.specs.Locating.Location.{parted, several}
use Rattle.locating.proofs.Answers.{passing_same}
use Rattle.locating.proofs.Indices.{numbers_same, entries_below}

each_same : (f g : ℕ → ℕ) → ((c : ℕ) → f c ≡ g c) → (p : ℕ) (l : List ℕ) → each_of f p l ≡ each_of g p l
unfolding each_of
each_same f g same p [] = refl
each_same f g same p (c ∷ l) = ap₂ (λ (x : ℕ) (t : Bool). eqb x p && t) (same c) (each_same f g same p l)

pub location_same : (f g : ℕ → ℕ) → ((c : ℕ) → f c ≡ g c) → (l : List ℕ) → location f l ≡ location g l
location_same f g same [] = refl
location_same f g same (c ∷ l) =
    ap₂ (λ (t : Bool) (x : ℕ). cond t (parted x c) (several c (length (c ∷ l))))
    (ap (λ (x : ℕ). each_of f x l) (same c) ∙ each_same f g same (g c) l) (same c)

module _ (kind : Kind) (k : ℕ) (indices outputs : List ℕ) (room : ℕ) where
  abbrev list : List Entry
  list = entries_at indices outputs

  module _ (F G : Family) (same : SameFamily F G) where
    coef_same : k < 2 ^ F.inputs → (c : ℕ) → c < F.circuits → (e : Entry) → e.output < F.outputs → coef_of kind k F c e ≡ coef_of kind k G c e
    coef_same h c l e o =
        coefficient_ext kind F.inputs k (F.entry c e.output) (G.entry c e.output) e.index h (λ m g. same.entry c e.output m l o g)
        ∙ ap (λ (n : ℕ). coefficient kind n k (G.entry c e.output) e.index) same.inputs

    agreeing_same : k < 2 ^ F.inputs → ((e : Entry) → Memᴰ e list → e.output < F.outputs) → (readings : List ℕ)
        → agreeing kind k F list readings ≡ agreeing kind k G list readings
    agreeing_same h low readings =
        passing_same (λ c. same_numbers (readings_of kind k F list c) readings) (λ c. same_numbers (readings_of kind k G list c) readings) F.circuits
        (λ c l. ap (λ (x : List ℕ). same_numbers x readings) (numbers_same list (coef_of kind k F c) (coef_of kind k G c) (λ e m. coef_same h c l e (low e m))))
        ∙ ap (passing (λ c. same_numbers (readings_of kind k G list c) readings)) same.circuits

    prepared_same : (paired : Bool) (u : Bool) → polarity_ok F.inputs k ≡ u
        → prepared_by paired F kind k indices outputs room ≡ prepared_by paired G kind k indices outputs room
    unfolding prepared_by
    prepared_same paired false e =
        let other : polarity_ok G.inputs k ≡ false = ap (λ (n : ℕ). polarity_ok n k) (sym same.inputs) ∙ e in
        unless_false 13 _ e ∙ sym (unless_false 13 _ other)
    prepared_same paired true e =
        let filled : family_spectra kind k F ≡ family_spectra kind k G = spectra_same kind k F G same (ltb-true k (2 ^ F.inputs) e) in
        λ i.
        unless (polarity_ok (same.inputs i) k) 13
        (unless (all_below (2 ^ (same.inputs i)) indices) 16
        (unless (all_below (same.outputs i) outputs) 20
        (unless paired 17
        (unless (leb (same.circuits i * same.outputs i * 2 ^ (same.inputs i)) room) 10
        (gives (record { value = tt; filled = filled i }))))))

  pub prepared_respects : (paired : Bool) → Respects (λ F. prepared_by paired F kind k indices outputs room)
  prepared_respects paired = record { same = λ F G same. prepared_same F G same paired (polarity_ok F.inputs k) refl }

  module _ (readings : List ℕ) where
    abbrev go : Family → Answer (Fills Location)
    go F = located_from F kind k indices outputs readings room

    abbrev prepared : Family → Answer (Fills (Unit {0}))
    prepared F = prepared_by (lengths_ok indices outputs readings) F kind k indices outputs room

    abbrev found : Family → Fills (Unit {0}) → Answer (Fills Location)
    found F w = gives (record { value = location F.part (agreeing kind k F list readings); filled = w.filled })

    -- where the preparation refuses, the circuits do not count
    found_same : (F G : Family) → SameFamily F G → (a : Answer (Fills (Unit {0}))) → prepared F ≡ a → onward a (found F) ≡ onward a (found G)
    unfolding prepared_by
    found_same F G same (refused i) e = refl
    found_same F G same (gives w) e =
        let first = unless_gives (polarity_ok F.inputs k) 13 _ e in
        let second = unless_gives (all_below (2 ^ F.inputs) indices) 16 _ first.1 in
        let third = unless_gives (all_below F.outputs outputs) 20 _ second.1 in
        ap (λ (x : Location). gives (record { value = x; filled = w.filled }))
        (location_same F.part G.part same.part (agreeing kind k F list readings)
        ∙ ap (location G.part) (agreeing_same F G same (ltb-true k (2 ^ F.inputs) first.0)
        (λ x m. (entries_below (2 ^ F.inputs) F.outputs indices outputs second.0 third.0 x m).1) readings))

    pub located_respects : Respects go
    located_respects =
        record {
          same = λ F G same.
              found_same F G same (prepared F) refl
              ∙ ap (λ (a : Answer (Fills (Unit {0}))). onward a (found G)) ((prepared_respects (lengths_ok indices outputs readings)).same F G same);
        }

module _ (s : List ℕ) (kind : Kind) (k : ℕ) (indices outputs readings work : List ℕ) where
  abbrev located : Answer (Fills Location)
  located = located_of s kind k indices outputs readings (length work)

  -- locating in the family of a job
  abbrev on_family : Family → Answer (Fills Location)
  on_family = go kind k indices outputs (length work) readings

  pub located_unread : {i : ℕ} → reading s ≡ refused i → record { answer = refused i; memory = work } ≡ leaves located work
  located_unread {i} e = kept located i work (ap (λ (x : Answer Job). onward x (λ j. on_family (family_of j))) e)

  pub located_delivered : {r : Delivery} {after : List ℕ} → Delivers s r after
      → leaves (from_tables r.counts (take r.bytes after) (λ F. located_from F kind k indices outputs readings (length work))) work ≡ leaves located work
  located_delivered d =
      ap (λ (x : Answer (Fills Location)). leaves x work)
      (delivered_family d on_family (located_respects kind k indices outputs (length work) readings)
      ∙ sym (ap (λ (x : Answer Job). onward x (λ j. on_family (family_of j))) d.read))
