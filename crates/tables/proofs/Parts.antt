-- The parts of a job's circuits, as a list (specs/Operations.antt).
--
--   part_listed     the part of a circuit stands at its number
--   part_entry      behind the good circuit's, in the order of the faults
--   parts_written   the list that a loop has written behind the good circuit's
use Prim.Native.Nat.{ℕ, zero, suc, ◌+◌, ◌≤◌}
use mathlib.Core.Path.{◌≡◌, refl, sym, ap, ◌∙◌}
use mathlib.Core.List.{List, ◌∷◌, ◌++◌, map, append-nil}
use lib.ListN.{length, get_or, drop, replicate, length-map, get_or-map}
use Rattle.bits.specs.Packed.{tabulate}
use Rattle.bits.specs.Slices.{splice}
use Rattle.bits.proofs.Packed.{tabulate_list}
use Rattle.bits.proofs.Splice.{Written, written_all}
use Rattle.job.specs.Record.{unused_fault}
use Rattle.job.specs.declared.FaultEntry.{FaultEntry}
use Rattle.job.specs.declared.Job.{Job}
use Rattle.tables.specs.Family.{part_of}
use Rattle.tables.specs.Operations.{parts_of, part_in}

abbrev parts_in : List FaultEntry → List ℕ
parts_in faults = map (λ (e : FaultEntry). e.part) faults

pub part_entry : (faults : List FaultEntry) (i : ℕ) → (get_or faults i unused_fault).part ≡ get_or (parts_in faults) i 0
part_entry faults i = sym (get_or-map (λ (e : FaultEntry). e.part) faults i unused_fault)

pub part_listed : (j : Job) (c : ℕ) → part_in (parts_of j) c ≡ part_of j c
part_listed j zero = refl
part_listed j (suc i) = sym (part_entry j.faults i)

pub parts_written : (faults : List FaultEntry) → length faults ≡ 63 → {parts : List ℕ} {i : ℕ}
    → Written (replicate 64 0) 1 63 (λ k. get_or (parts_in faults) k 0) parts i → 63 ≤ i → parts ≡ 0 ∷ parts_in faults
parts_written faults long w h =
    let parts = parts_in faults in
    let many : length parts ≡ 63 = length-map faults (λ (e : FaultEntry). e.part) ∙ long in
    let all : tabulate 63 (λ k. get_or parts k 0) ≡ parts = ap (λ (n : ℕ). tabulate n (λ k. get_or parts k 0)) (sym many) ∙ tabulate_list parts in
    written_all w h
    ∙ ap (splice (replicate 64 0) 1) all
    ∙ ap (λ (n : ℕ). 0 ∷ parts ++ drop (1 + n) (replicate 64 0)) many
    ∙ ap (λ (l : List ℕ). 0 ∷ l) (append-nil parts)
