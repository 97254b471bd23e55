-- Laws of entries: their codes (specs/Codes.antt), and the lists of their indices and outputs (specs/Listed.antt).
--
--   code_below      the code of an entry is one of its circuit's places
--   code_index      its index and
--   code_output     its output are the two digits of the code
--   entries_back    entries are those that their indices and outputs stand for
--   length_entries  as many entries as there are indices, where there are as many outputs
--   entries_get     entry i has index i and output i
--   entries_ok      numbers of entries, each below a bound, pass its test
use Prim.Native.Nat.{ℕ, zero, suc, ◌*◌, ◌/◌, ◌%◌, ◌<◌}
use native.Mathlib.Omega.{arith}
use mathlib.Core.Path.{◌≡◌, refl, ap}
use mathlib.Core.Bool.{true}
use mathlib.Core.List.{List, [], ◌∷◌, map, Memᴰ}
use borrow.Author.Tests.{lt-ltb}
use lib.Arith.{digits_lt, digits_div, digits_mod}
use lib.ListN.{length, get_or}
use Rattle.bits.specs.Bounds.{all_below}
use Rattle.bits.proofs.Tests.{and_i}
use Rattle.spectra.specs.Codes.{code_of}
use Rattle.spectra.specs.Listed.{Entry, indices_of, outputs_of, entries_at}

pub code_below : (size outputs : ℕ) (e : Entry) → e.index < size → e.output < outputs → code_of size e < outputs * size
code_below size outputs e h l = digits_lt l h

pub code_index : (size : ℕ) (e : Entry) → e.index < size → code_of size e % size ≡ e.index
code_index size e h = digits_mod e.output h

pub code_output : (size : ℕ) (e : Entry) → e.index < size → code_of size e / size ≡ e.output
code_output size e h = digits_div e.output h

pub entries_back : (l : List Entry) → entries_at (indices_of l) (outputs_of l) ≡ l
unfolding entries_at
entries_back [] = refl
entries_back (e ∷ l) = ap (λ (x : List Entry). e ∷ x) (entries_back l)

pub length_entries : (is os : List ℕ) → length is ≡ length os → length (entries_at is os) ≡ length is
unfolding entries_at
length_entries [] os h = refl
length_entries (i ∷ is) [] h = absurd (omega (arith, h))
length_entries (i ∷ is) (o ∷ os) h = ap suc (length_entries is os (omega (arith, h)))

pub entries_get : (is os : List ℕ) (i : ℕ) → i < length is → length is ≡ length os → (d : Entry)
    → get_or (entries_at is os) i d ≡ record { index = get_or is i 0; output = get_or os i 0 }
unfolding entries_at
entries_get [] os i h e d = absurd (omega arith)
entries_get (x ∷ is) [] i h e d = absurd (omega (arith, e))
entries_get (x ∷ is) (o ∷ os) zero h e d = refl
entries_get (x ∷ is) (o ∷ os) (suc i) h e d = entries_get is os i (omega arith) (omega (arith, e)) d

pub entries_ok : (bound : ℕ) (of : Entry → ℕ) (l : List Entry) → ((e : Entry) → Memᴰ e l → of e < bound) → all_below bound (map of l) ≡ true
unfolding all_below
entries_ok bound of [] h = refl
entries_ok bound of (e ∷ l) h = and_i (lt-ltb (of e) bound (h e (Memᴰ.head refl))) (entries_ok bound of l (λ x m. h x (Memᴰ.tail m)))
