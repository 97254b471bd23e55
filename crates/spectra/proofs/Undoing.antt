-- Undoing is what document 01 says (specs/Undoing.antt).
--
--   accepted_has        what is accepted is the spectrum of the recovered table
--   not_spectrum        where 14 applies, the numbers are not accepted
--   has_accepted        the spectrum of a table is accepted
--   has_only            the table that has it is the only one
--   has_recovered       and packed it is the recovered one
--   undone              undoing for a valid number of inputs and a valid polarity
--   undoing             undoing, whatever is given
use Prim.Native.Nat.{ℕ, ◌^◌, ◌<◌}
use native.Mathlib.Omega.{arith}
use mathlib.Core.Path.{◌≡◌, refl, sym, ap, subst, ◌∙◌}
use mathlib.Core.Bool.{Bool, true, false}
use mathlib.Core.List.{List}
use mathlib.Core.Logic.{inr, ⊎_elim}
use borrow.Author.Tests.{ltb-true, le-leb, lt-leb}
use lib.Dec.{leb}
use lib.ListN.{length}
use Rattle.bits.specs.Answer.{Answer, Fills, unless}
use Rattle.bits.specs.Answer.Answer.{gives, refused}
use Rattle.bits.specs.Packed.{packed}
use Rattle.bits.specs.Sizes.{table_bytes}
use Rattle.bits.proofs.Answers.{never_gives, unless_true, unless_false}
use Rattle.bits.proofs.Packed.{packed_ext}
use Rattle.bits.proofs.Tests.{clash}
use Rattle.job.specs.Check.{inputs_ok}
use Rattle.spectra.specs.Operations.{at, polarity_ok, is_spectrum, undone_of}
use Rattle.spectra.specs.Spectrum.{recovered}
use Rattle.spectra.specs.Undoing.{SameTable, HasSpectrum, OnlyTable, NotSpectrum, Undone, Undoing}
use Rattle.spectra.specs.declared.Kind.{Kind}
use Rattle.spectra.proofs.Acceptance.{undone_spectrum, undone_only, recovered_bits}
use Rattle.spectra.proofs.Bounds.{length_spectrum}
use Rattle.spectra.proofs.Uniqueness.{spectrum_unique}

-- the last test of undoing never gives 14
not_fourteen : {A : Type 0} (t : Bool) (a : A) → unless t 10 (gives a) ≡ refused 14 → ⊥
not_fourteen true a e = never_gives (sym e)
not_fourteen false a e = let z : ◌≡◌ {A = ℕ} 10 14 = cc in omega arith

module _ (kind : Kind) (n k : ℕ) (numbers : List ℕ) where
  pub accepted_has : is_spectrum kind n k numbers ≡ true → HasSpectrum kind n k numbers (recovered n k (at numbers))
  accepted_has e = (recovered_bits n k numbers, sym (undone_only kind n k numbers e))

  pub not_spectrum : NotSpectrum kind n k numbers → is_spectrum kind n k numbers ≡ false
  not_spectrum none = go (is_spectrum kind n k numbers) refl
    where
      count : is_spectrum kind n k numbers ≡ true → length numbers ≡ 2 ^ n
      count e = ap length (undone_only kind n k numbers e) ∙ length_spectrum kind n k (recovered n k (at numbers))

      go : (u : Bool) → is_spectrum kind n k numbers ≡ u → is_spectrum kind n k numbers ≡ false
      go true e = absurd (⊎_elim (λ d. d (count e)) (λ d. d (recovered n k (at numbers)) (accepted_has e)) none)
      go false e = e

  module _ (below : k < 2 ^ n) where
    pub has_accepted : (t : ℕ → ℕ) → HasSpectrum kind n k numbers t → is_spectrum kind n k numbers ≡ true
    has_accepted t h = subst (λ (l : List ℕ). is_spectrum kind n k l ≡ true) h.1 (undone_spectrum kind n k t h.0 below)

    pub has_only : (t u : ℕ → ℕ) → HasSpectrum kind n k numbers t → HasSpectrum kind n k numbers u → SameTable n u t
    has_only t u ht hu = spectrum_unique kind n k u t hu.0 ht.0 below (hu.1 ∙ sym ht.1)

    pub has_recovered : (t : ℕ → ℕ) → HasSpectrum kind n k numbers t → packed (2 ^ n) (recovered n k (at numbers)) ≡ packed (2 ^ n) t
    has_recovered t h =
        packed_ext (2 ^ n) (recovered n k (at numbers)) t (has_only t (recovered n k (at numbers)) h (accepted_has (has_accepted t h)))

module _ (n : ℕ) (numbers : List ℕ) (kind : Kind) (k room : ℕ) where
  -- the numbers that go to the lent memory
  abbrev found : Fills (Unit {0})
  found = record { value = tt; filled = packed (2 ^ n) (recovered n k (at numbers)) }

  -- what is left once n and the polarity are valid, and once the numbers are accepted
  abbrev roomed : Answer (Fills (Unit {0}))
  roomed = unless (leb (table_bytes n) room) 10 (gives found)

  abbrev judged : Answer (Fills (Unit {0}))
  judged = unless (is_spectrum kind n k numbers) 14 roomed

  refused_inputs : inputs_ok n ≡ false → undone_of n numbers kind k room ≡ refused 2
  unfolding undone_of
  refused_inputs e = unless_false 2 (unless (polarity_ok n k) 13 judged) e

  module _ (inputs : inputs_ok n ≡ true) where
    refused_polarity : polarity_ok n k ≡ false → undone_of n numbers kind k room ≡ refused 13
    unfolding undone_of
    refused_polarity e = unless_true 2 (unless (polarity_ok n k) 13 judged) inputs ∙ unless_false 13 judged e

    module _ (polarity : polarity_ok n k ≡ true) where
      below : k < 2 ^ n
      below = ltb-true k (2 ^ n) polarity

      answered : undone_of n numbers kind k room ≡ judged
      unfolding undone_of
      answered = unless_true 2 (unless (polarity_ok n k) 13 judged) inputs ∙ unless_true 13 judged polarity

      no_table : is_spectrum kind n k numbers ≡ false → NotSpectrum kind n k numbers
      no_table e = inr (λ t h. clash (has_accepted kind n k numbers below t h) e)

      only_fourteen : undone_of n numbers kind k room ≡ refused 14 → NotSpectrum kind n k numbers
      only_fourteen p = go (is_spectrum kind n k numbers) refl
        where
          go : (u : Bool) → is_spectrum kind n k numbers ≡ u → NotSpectrum kind n k numbers
          go true e = absurd (not_fourteen (leb (table_bytes n) room) found (sym (answered ∙ unless_true 14 roomed e) ∙ p))
          go false e = no_table e

      one_table_lem : (NotSpectrum kind n k numbers → ⊥) → (t : ℕ → ℕ) × OnlyTable kind n k numbers t
      one_table_lem some = go (is_spectrum kind n k numbers) refl
        where
          go : (u : Bool) → is_spectrum kind n k numbers ≡ u → (t : ℕ → ℕ) × OnlyTable kind n k numbers t
          go true e =
              let h = accepted_has kind n k numbers e in
              (recovered n k (at numbers), (h, λ u hu. has_only kind n k numbers below (recovered n k (at numbers)) u h hu))
          go false e = absurd (some (no_table e))

      onward_of : (t : ℕ → ℕ) → HasSpectrum kind n k numbers t → undone_of n numbers kind k room ≡ roomed
      onward_of t h = answered ∙ unless_true 14 roomed (has_accepted kind n k numbers below t h)

      pub undone : Undone n numbers kind k room
      undone =
          record {
            none_if = λ none. answered ∙ unless_false 14 roomed (not_spectrum kind n k numbers none);
            none_only = only_fourteen;
            otherwise = one_table_lem;
            returned = λ t h l.
                onward_of t h
                ∙ unless_true 10 (gives found) (le-leb (table_bytes n) room l)
                ∙ ap (λ (s : List ℕ). gives (record { value = tt; filled = s })) (has_recovered kind n k numbers below t h);
            short = λ t h l. onward_of t h ∙ unless_false 10 (gives found) (lt-leb (table_bytes n) room l);
          }

pub undoing : Undoing
undoing n numbers kind k room =
    record {
      inputs = refused_inputs n numbers kind k room;
      polarity = refused_polarity n numbers kind k room;
      valid = undone n numbers kind k room;
    }
