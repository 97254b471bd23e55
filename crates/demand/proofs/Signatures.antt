-- What holds of the signature that isolating's method fixes for listed circuits (specs/Demand.antt).
--
--   signed_each      whichever one is dropped, two listed circuits of different parts have equal readings on the rest
--   signed_apart     where no two circuits are alike, it tells listed circuits of different parts apart
--   signed_part      so listed circuits with equal readings on it have one part
use Prim.Native.Nat.{ℕ, ◌^◌, ◌<◌}
use mathlib.Core.Path.{◌≡◌}
use mathlib.Core.Bool.{false}
use mathlib.Core.List.{List}
use lib.ListN.{length}
use Rattle.tables.specs.Family.{Family}
use Rattle.tables.proofs.Families.{ValidFamily}
use Rattle.spectra.specs.Listed.{Entry, coef_of}
use Rattle.spectra.specs.declared.Kind.{Kind}
use Rattle.method.specs.Method.{agree, without}
use Rattle.method.proofs.Pairs.{full_all}
use Rattle.method.proofs.Signatures.{signature_full, signature_minimal}
use Rattle.choosing.specs.Choosing.{needed, scan_entries, signature_in}
use Rattle.choosing.specs.declared.Purpose.TheVariants.{Isolating}
use Rattle.demand.specs.Demand.{ListedCircuit, PartsDiffer, SomeAlike, readings}
use Rattle.demand.proofs.Matches.{agree_readings, told_part}
use Rattle.demand.proofs.FirstPairs.{differ_needed, needed_differ, told_apart}

module _ (F : Family) (kind : Kind) (k : ℕ) where
  abbrev signed : List Entry
  signed = signature_in Isolating kind k F

  pub signed_each : (i : ℕ) → i < length signed
      → (a : ℕ) × (b : ℕ) × (a < b) × ListedCircuit F b × PartsDiffer F a b
      × (readings F kind k (without i signed) a ≡ readings F kind k (without i signed) b)
  signed_each i h =
      let r = signature_minimal (coef_of kind k F) F.circuits (needed Isolating F.part) (scan_entries F) i h in
      (r.0, r.1, r.2, r.3, needed_differ F r.0 r.1 r.4, agree_readings (coef_of kind k F) (without i signed) r.0 r.1 r.5)

  module _ (v : ValidFamily F) (below : k < 2 ^ F.inputs) (none : SomeAlike F → ⊥) where
    pub signed_apart : (a b : ℕ) → a < b → b < F.circuits → PartsDiffer F a b → agree (coef_of kind k F) signed a b ≡ false
    signed_apart a b h l d =
        full_all (coef_of kind k F) F.circuits (needed Isolating F.part) signed
        (signature_full (coef_of kind k F) F.circuits (needed Isolating F.part) (scan_entries F) (told_apart F v kind k below none))
        a b h l (differ_needed F a b d)

    pub signed_part : (a b : ℕ) → ListedCircuit F a → ListedCircuit F b → readings F kind k signed a ≡ readings F kind k signed b → F.part a ≡ F.part b
    signed_part a b h l e = told_part (coef_of kind k F) F.circuits F.part signed signed_apart a b h l e
