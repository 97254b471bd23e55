-- Laws of reading entry by entry (specs/Reading.antt).
--
--   entries_end    what the entries from entry i on give where none is left
--   entries_step   where one is left: that entry, then those behind it
--   entries_stop, entries_next   so where that entry is refused, and where it is read
--   from_outputs_loose, from_outputs_done   what a job gives from its outputs on, where a gate is loose and where none is
use Prim.Native.Nat.{ℕ, suc, ◌+◌, ◌-◌, ◌≤◌, ◌<◌}
use mathlib.Core.Path.{◌≡◌, sym, ap, ◌∙◌}
use mathlib.Core.Bool.{true, false}
use mathlib.Core.List.{List}
use native.Mathlib.Numerals.{add-one}
use native.Mathlib.Omega.{arith}
use lib.ListN.{set}
use Rattle.bits.specs.Answer.{Answer}
use Rattle.bits.specs.Answer.Answer.{refused}
use Rattle.bits.specs.Parser.{Parser, Parsed, parsed, and_then}
use Rattle.job.specs.Dependence.{no_loose}
use Rattle.job.specs.Record.{lines}
use Rattle.job.specs.declared.Job.{Job}
use Rattle.reading.specs.Reading.{entries_from, output_line, from_outputs, from_fault_count, with_outputs}

module _ {A : Type 0} (p : ℕ → Parser A) (count i : ℕ) (entries : List A) (bits : List ℕ) where
  pub entries_end : count ≤ i → entries_from p (count - i) i entries bits ≡ parsed entries bits
  unfolding entries_from
  entries_end h =
      let e : count - i ≡ 0 = omega arith in
      ap (λ (k : ℕ). entries_from p k i entries bits) e

  pub entries_step : i < count → entries_from p (count - i) i entries bits ≡ and_then (p i bits) (λ a. entries_from p (count - (i + 1)) (i + 1) (set entries i a))
  unfolding entries_from
  entries_step h =
      let e : count - i ≡ suc (count - (i + 1)) = omega arith in
      ap (λ (k : ℕ). entries_from p k i entries bits) e ∙ ap (λ (k : ℕ). and_then (p i bits) (λ a. entries_from p (count - (i + 1)) k (set entries i a))) (sym (add-one i))

  pub entries_stop : {k : ℕ} → i < count → p i bits ≡ refused k → entries_from p (count - i) i entries bits ≡ refused k
  entries_stop h r =
      entries_step h ∙ ap (λ (x : Answer (Parsed A)). and_then x (λ a. entries_from p (count - (i + 1)) (i + 1) (set entries i a))) r

  pub entries_next : {a : A} {rest : List ℕ} → i < count → p i bits ≡ parsed a rest
      → entries_from p (count - i) i entries bits ≡ entries_from p (count - (i + 1)) (i + 1) (set entries i a) rest
  entries_next h r =
      entries_step h ∙ ap (λ (x : Answer (Parsed A)). and_then x (λ a. entries_from p (count - (i + 1)) (i + 1) (set entries i a))) r

module _ (j : Job) (bits : List ℕ) where
  module _ (k : Job) (rest : List ℕ) (e : entries_from (λ o. output_line (lines j)) j.output_count 0 j.outputs bits ≡ parsed k.outputs rest)
      (w : with_outputs j k.outputs ≡ k) where
    pub from_outputs_loose : no_loose k ≡ false → from_outputs j bits ≡ refused 19
    unfolding from_outputs
    from_outputs_loose l = let l' : no_loose (with_outputs j k.outputs) ≡ false = ap no_loose w ∙ l in rw (e, l')

    pub from_outputs_done : no_loose k ≡ true → from_outputs j bits ≡ from_fault_count k rest
    unfolding from_outputs
    from_outputs_done t =
        let t' : no_loose (with_outputs j k.outputs) ≡ true = ap no_loose w ∙ t in
        rw (e, t') (ap (λ (x : Job). from_fault_count x rest) w)
