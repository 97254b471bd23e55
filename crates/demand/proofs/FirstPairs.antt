-- The first pair that isolating refuses is the first pair of circuits of different parts that give equal outputs (specs/Demand.antt).
--
--   differ_needed    circuits of different parts are a needed pair
--   needed_differ    those of a needed pair have different parts
--   alike_tested     an alike pair passes the test of 15
--   tested_alike     a pair that passes it is alike
--   pair_first       the pair that comes with 15 is the first that is alike
--   some_paired      if two circuits are alike, there is such a pair
--   none_paired      if no two are, there is none
--   told_apart       then the coefficients in the order of looking tell all needed pairs apart
use Prim.Native.Nat.{ℕ, ◌^◌, ◌<◌}
use native.Mathlib.Omega.{arith}
use mathlib.Core.Path.{◌≡◌, refl, sym, ap, ◌∙◌}
use mathlib.Core.Bool.{Bool, true, not, ◌&&◌}
use borrow.Author.Tests.{ne_eqb, eqb-false, not-true}
use lib.Dec.{eqb}
use Rattle.bits.proofs.Tests.{and_l, and_r, and_i, clash, by_test}
use Rattle.tables.specs.Family.{Family, same_tables}
use Rattle.tables.proofs.Families.{ValidFamily, tables_entries, entries_tables}
use Rattle.spectra.specs.Listed.{coef_of}
use Rattle.spectra.specs.declared.Kind.{Kind}
use Rattle.method.specs.Method.{Pair, agree, full}
use Rattle.method.specs.Method.Pair.{nobody, pair}
use Rattle.method.proofs.Firsts.{first_pair_nobody, first_pair_pair}
use Rattle.method.proofs.Pairs.{all_full}
use Rattle.choosing.specs.Choosing.{needed, alike_pair, scan_entries}
use Rattle.choosing.specs.declared.Purpose.TheVariants.{Isolating}
use Rattle.choosing.proofs.Equality.{alike_tables}
use Rattle.demand.specs.Demand.{PartsDiffer, AlikePair, SomeAlike, FirstAlike}

module _ (F : Family) where
  abbrev test : ℕ → ℕ → Bool
  test a b = needed Isolating F.part a b && same_tables F a b

  pub differ_needed : (a b : ℕ) → PartsDiffer F a b → needed Isolating F.part a b ≡ true
  differ_needed a b d = ap not (ne_eqb (F.part a) (F.part b) d)

  pub needed_differ : (a b : ℕ) → needed Isolating F.part a b ≡ true → PartsDiffer F a b
  needed_differ a b n = eqb-false (F.part a) (F.part b) (not-true (eqb (F.part a) (F.part b)) n)

  pub alike_tested : (a b : ℕ) → AlikePair F a b → test a b ≡ true
  alike_tested a b p = and_i (differ_needed a b p.3) (entries_tables F a b p.4)

  pub tested_alike : (a b : ℕ) → a < b → b < F.circuits → test a b ≡ true → AlikePair F a b
  tested_alike a b h k t =
      let differ = needed_differ a b (and_l (needed Isolating F.part a b) (same_tables F a b) t) in
      (h, omega arith, (omega arith, k), differ, tables_entries F a b (and_r (needed Isolating F.part a b) (same_tables F a b) t))

  pub pair_first : (a b : ℕ) → alike_pair Isolating F ≡ pair a b → FirstAlike F a b
  pair_first a b e =
      let r = first_pair_pair F.circuits test a b e in
      (tested_alike a b r.0 r.1 r.2, λ x y p. r.3 x y p.0 p.2.1 (alike_tested x y p))

  pub some_paired : SomeAlike F → (a : ℕ) × (b : ℕ) × (alike_pair Isolating F ≡ pair a b)
  some_paired (x, y, p) = go (alike_pair Isolating F) refl
    where
      go : (first : Pair) → alike_pair Isolating F ≡ first → (a : ℕ) × (b : ℕ) × (alike_pair Isolating F ≡ pair a b)
      go nobody e = absurd (clash (alike_tested x y p) (first_pair_nobody F.circuits test e x y p.0 p.2.1))
      go (pair a b) e = (a, b, e)

  pub none_paired : (SomeAlike F → ⊥) → alike_pair Isolating F ≡ nobody
  none_paired none = go (alike_pair Isolating F) refl
    where
      go : (first : Pair) → alike_pair Isolating F ≡ first → alike_pair Isolating F ≡ nobody
      go nobody e = e
      go (pair a b) e = absurd (none (a, b, (pair_first a b e).0))

  pub told_apart : ValidFamily F → (kind : Kind) (k : ℕ) → k < 2 ^ F.inputs → (SomeAlike F → ⊥)
      → full (coef_of kind k F) F.circuits (needed Isolating F.part) (scan_entries F) ≡ true
  told_apart v kind k below none =
      all_full (coef_of kind k F) F.circuits (needed Isolating F.part) (scan_entries F)
      (λ a b h l n. by_test (agree (coef_of kind k F) (scan_entries F) a b)
      (λ t. absurd (none (a, b, tested_alike a b h l (and_i n (sym (alike_tables kind k F v below a b) ∙ t)))))
      (λ f. f))
