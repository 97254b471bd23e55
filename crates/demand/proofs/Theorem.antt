-- Demand 3 holds (specs/Demand.antt).
--
--   located_as        what locating says of readings at a valid list
--   located_part      of the readings of a circuit at a list on which circuits of one part alone have them, it gives that part, with the lowest of them
--   alike_number      where a pair is found, and there alone, the number is 15, with that pair
--   isolated          the signature that comes back, with all that is asked of it
--   demand_family     demand 3 of listed circuits
--   demand_3          demand 3
use Prim.Native.Nat.{ℕ}
use native.Mathlib.Omega.{arith}
use mathlib.Core.Path.{◌≡◌, refl, sym, ap, subst, ◌∙◌}
use mathlib.Core.Bool.{Bool}
use mathlib.Core.List.{List, ◌++◌}
use lib.ListN.{length, drop, length-map}
use Rattle.bits.specs.Answer.{Answer, Fills, leaves, onward}
use Rattle.bits.specs.Answer.Answer.{gives}
use Rattle.bits.proofs.Answers.{gives_same}
use Rattle.bits.proofs.Tests.{clash}
use Rattle.job.specs.declared.Job.{Job}
use Rattle.reading.proofs.Validity.{reading_valid}
use Rattle.tables.specs.Family.{Family, family_of}
use Rattle.tables.specs.declared.Counts.{Counts}
use Rattle.tables.proofs.Families.{ValidFamily, family_valid}
use Rattle.spectra.specs.Listed.{Entry, coef_of, family_spectra, indices_of, outputs_of}
use Rattle.spectra.specs.Operations.{same_numbers}
use Rattle.spectra.specs.declared.Kind.{Kind}
use Rattle.spectra.proofs.Acceptance.{same_numbers_refl, same_numbers_true}
use Rattle.method.specs.Method.{Pair}
use Rattle.method.specs.Method.Pair.{nobody, pair}
use Rattle.choosing.specs.Choosing.{Finding, finding_by, alike_pair, signature_in, chosen_from, AtExit, found, at_exit, counts_in}
use Rattle.choosing.specs.declared.Purpose.TheVariants.{Isolating}
use Rattle.choosing.proofs.Bound.{signature_short, signature_below}
use Rattle.locating.specs.Locating.{Location, agreeing, location, located_from}
use Rattle.locating.specs.Locating.Location.{parted}
use Rattle.demand.specs.Demand.{returned, ValidPolarity, ValidList, Enough, ListedCircuit, SomeAlike, FirstAlike, readings, LowestGiving, Isolated, Located, Demand3, Demand}
use Rattle.demand.proofs.Answers.{signature_returned, chosen_opened, located_opened}
use Rattle.demand.proofs.FirstPairs.{pair_first, some_paired, none_paired}
use Rattle.demand.proofs.Locations.{location_none, nowhere_none, location_part}
use Rattle.demand.proofs.Matches.{same_numbers_eq, same_numbers_ne}
use Rattle.demand.proofs.Signatures.{signed_each, signed_part}

-- ---- locating

module _ (F : Family) (kind : Kind) (k : ℕ) (work : List ℕ) (below : ValidPolarity F k) (enough : Enough F work) where
  abbrev locate : List Entry → List ℕ → Answer Location
  locate list numbers = (leaves (located_from F kind k (indices_of list) (outputs_of list) numbers (length work)) work).answer

  module _ (list : List Entry) (numbers : List ℕ) where
    abbrev same : ℕ → Bool
    same c = same_numbers (readings F kind k list c) numbers

    located_result : ValidList F list → length list ≡ length numbers → locate list numbers ≡ gives (location F.part (agreeing kind k F list numbers))
    located_result valid paired =
        ap (λ (x : Answer (Fills Location)). (leaves x work).answer)
        (located_opened F kind k (length work) below enough list numbers valid paired)

    pub located_as : ValidList F list → length list ≡ length numbers → Located F kind k list numbers (locate list numbers)
    located_as valid paired =
        let answer = located_result valid paired in
        record {
          none_if = λ none.
              answer ∙ ap gives (location_none same F.part F.circuits (λ c h. same_numbers_ne (readings F kind k list c) numbers (none c h)));
          none_only = λ e c h g.
              clash (same_numbers_eq (readings F kind k list c) numbers g) (nowhere_none same F.part F.circuits (gives_same (sym answer ∙ e)) c h);
          result = answer;
        }

  pub located_part : (list : List Entry) → ValidList F list
      → (c : ℕ) → ListedCircuit F c → ((d : ℕ) → ListedCircuit F d → readings F kind k list d ≡ readings F kind k list c → F.part d ≡ F.part c)
      → (d : ℕ) × LowestGiving F kind k list (readings F kind k list c) d × (locate list (readings F kind k list c) ≡ gives (parted (F.part c) d))
  located_part list valid c h one =
      let numbers = readings F kind k list c in
      let r = location_part (same list numbers) F.part F.circuits c h (same_numbers_refl numbers)
      (λ d l t. one d l (same_numbers_true (readings F kind k list d) numbers t)) in (
        r.0,
        (
          r.1,
          same_numbers_true (readings F kind k list r.0) numbers r.2,
          λ x l g. clash (same_numbers_eq (readings F kind k list x) numbers g) (r.3 x l),
        ),
        located_result list numbers valid (sym (length-map list (coef_of kind k F c))) ∙ ap gives r.4,
      )

-- ---- choosing

-- a number is 15 where a pair is found, and else 0
pub alike_number : (counts : Counts) (p : Pair) (list : List Entry) (memory : List ℕ) → (found counts (finding_by p list) memory).number ≡ 15
    → (a : ℕ) × (b : ℕ) × (p ≡ pair a b) × ((found counts (finding_by p list) memory).pair ≡ pair a b)
alike_number counts nobody list memory e = absurd (omega (arith, e))
alike_number counts (pair a b) list memory e = (a, b, refl, refl)

module _ (F : Family) (counts : Counts) (kind : Kind) (k : ℕ) (work other : List ℕ) (v : ValidFamily F)
    (below : ValidPolarity F k) (enough : Enough F work) (enough_other : Enough F other) where
  abbrev isolate : AtExit
  isolate = at_exit counts (chosen_from Isolating F kind k (length work)) work

  abbrev signed : List Entry
  signed = signature_in Isolating kind k F

  -- the work at exit
  abbrev left : List ℕ
  left = family_spectra kind k F ++ drop (length (family_spectra kind k F)) work

  told : isolate ≡ found counts (finding_by (alike_pair Isolating F) signed) left
  told = ap (λ (x : Answer (Fills Finding)). at_exit counts x work) (chosen_opened F kind k (length work) below enough Isolating)

  refused_alike : SomeAlike F → isolate.number ≡ 15
  refused_alike some =
      let r = some_paired F some in
      ap (λ (x : AtExit). x.number) told ∙ ap (λ (p : Pair). (found counts (finding_by p signed) left).number) r.2

  refused_first : isolate.number ≡ 15 → (a : ℕ) × (b : ℕ) × (isolate.pair ≡ pair a b) × FirstAlike F a b
  refused_first e =
      let r = alike_number counts (alike_pair Isolating F) signed left (sym (ap (λ (x : AtExit). x.number) told) ∙ e) in
      (r.0, r.1, ap (λ (x : AtExit). x.pair) told ∙ r.3, pair_first F r.0 r.1 r.2)

  valid_signature : ValidList F signed
  valid_signature = signature_below Isolating kind k F

  pub isolated : (SomeAlike F → ⊥) → Isolated F kind k isolate (locate F kind k other below enough_other) signed
  isolated none =
      let so : isolate ≡ found counts (finding_by nobody signed) left = told ∙ ap (λ (p : Pair). found counts (finding_by p signed) left) (none_paired F none) in
      record {
        comes_back = (
          ap (λ (x : AtExit). x.number) so,
          ap (λ (x : AtExit). returned x.signature) so ∙ signature_returned signed,
        );
        by_method = refl;
        short = omega (arith, signature_short Isolating kind k F v.good);
        valid = valid_signature;
        each_counts = signed_each F kind k;
        named_part = λ c h.
            located_part F kind k other below enough_other signed valid_signature c h (λ d l e. signed_part F kind k v below none d c l h e);
      }

  pub demand_family : Demand3 F kind k isolate (locate F kind k other below enough_other)
  demand_family =
      record {
        alike_if = refused_alike;
        alike_only = refused_first;
        otherwise = λ none. (signed, isolated none);
        located = located_as F kind k other below enough_other;
      }

-- ---- a job

pub demand_3 : Demand
demand_3 s kind k work other j read below enough enough_other =
    subst
    (λ (x : Answer Job).
    Demand3 (family_of j) kind k (at_exit (counts_in x) (onward x (λ i. chosen_from Isolating (family_of i) kind k (length work))) work)
    (λ list numbers. (leaves (onward x (λ i. located_from (family_of i) kind k (indices_of list) (outputs_of list) numbers (length other))) other).answer))
    (sym read)
    (demand_family (family_of j) (counts_in (gives j)) kind k work other (family_valid j (reading_valid s j read)) below enough enough_other)
