-- What the exports promise, in their numbers (specs/Exports.antt).
--
--   chosen_by_lem   what choosing answers and leaves, by the numbers of a purpose and a kind
use Prim.Native.Nat.{ℕ}
use mathlib.Core.Path.{◌≡◌, refl, ap, ap₂, ◌∙◌}
use mathlib.Core.List.{List, []}
use Rattle.std.specs.Prelude.{Result, Ok, Err}
use Rattle.spectra.specs.declared.Kind.{Kind}
use Rattle.choosing.specs.Choosing.{AtExit, told}
use Rattle.choosing.specs.declared.Chosen.{Chosen}
use Rattle.choosing.specs.declared.Purpose.{Purpose}
use Rattle.choosing.specs.declared.Unchosen.{Unchosen}
use Rattle.choosing.specs.declared.Unchosen.TheVariants.{Alike, Refused}
use Rattle.horncurlew.specs.Exports.{kind_of, purpose_of, choice_of}
use Rattle.horncurlew.specs.declared.ChoiceAnswer.{ChoiceAnswer}

choice_told : (c : Result Chosen Unchosen) (memory : List ℕ) → choice_of (told c []) ≡ choice_of (told c memory)
choice_told (Ok c) memory = refl
choice_told (Err (Alike a b)) memory = refl
choice_told (Err (Refused e)) memory = refl

memory_told : (c : Result Chosen Unchosen) (memory : List ℕ) → memory ≡ (told c memory).memory
memory_told (Ok c) memory = refl
memory_told (Err (Alike a b)) memory = refl
memory_told (Err (Refused e)) memory = refl

pub chosen_by_lem : {after : List ℕ} {purpose : Purpose} {kind : Kind} {r : ChoiceAnswer} (f : Purpose → Kind → AtExit) (p k : ℕ) (c : Result Chosen Unchosen)
    → purpose ≡ purpose_of p → kind ≡ kind_of k → told c after ≡ f purpose kind → r ≡ choice_of (told c [])
    → (r ≡ choice_of (f (purpose_of p) (kind_of k))) × (after ≡ (f (purpose_of p) (kind_of k)).memory)
chosen_by_lem {after} f p k c hp hk e h =
    let q = e ∙ ap₂ f hp hk in (
      h ∙ choice_told c after ∙ ap (λ (x : AtExit). choice_of x) q,
      memory_told c after ∙ ap (λ (x : AtExit). x.memory) q,
    )
