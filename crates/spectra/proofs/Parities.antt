-- Packing the parities of numbers, byte by byte (specs/Parities.antt).
--
--   parity_bit       what equals a parity is 0 or 1, also past the last number
--   Digits           what a loop has done after m turns: a byte of the first m of eight digits
--   digits_none      no digit yet
--   digits_fits      and so does the byte with the next digit
--   digits_more      one digit more
--   Packing          what a loop has done after i turns: the first i bytes are written
--   packing_none     no byte yet
--   packing_more     one byte more
--   packing_all      all bytes: the packed parities
use Prim.Native.Nat.{ℕ, ◌+◌, ◌*◌, ◌^◌, ◌≤◌, ◌<◌}
use native.Mathlib.Omega.{arith}
use native.Mathlib.Numerals.{add-one}
use mathlib.Core.Path.{◌≡◌, refl, sym, ap, ◌∙◌}
use mathlib.Core.List.{List, [], ◌∷◌, ◌++◌}
use mathlib.Core.Logic.{⊎_elim}
use lib.ListN.{length, set}
use lib.Pow.{pow_mono}
use mir.Syntax.{w8}
use mir.Val.{Fits}
use Rattle.bits.specs.Bits.{value_from}
use Rattle.bits.specs.Packed.{tabulate, packed}
use Rattle.bits.proofs.Below.{lt_or_ge}
use Rattle.bits.proofs.Packed.{tabulate_more, tabulate_at, tabulate_past, length_packed, packed_at, tabulate_list}
use Rattle.bits.specs.Slices.{splice}
use Rattle.bits.proofs.Splice.{Written, written_none, written_all, splice_whole, filled_more}
use Rattle.spectra.specs.Operations.{at}
use Rattle.spectra.specs.Parities.{parity_at, Packs}

pub parity_bit : (numbers : List ℕ) (k m : ℕ) {r : ℕ} → r ≡ at (tabulate (length numbers) (parity_at numbers k)) m → r < 2
parity_bit numbers k m e =
    rw e (⊎_elim (λ l. rw (tabulate_at (length numbers) (parity_at numbers k) m l) (omega arith))
    (λ l. rw (tabulate_past (length numbers) (parity_at numbers k) m l) (omega arith)) (lt_or_ge m (length numbers)))

-- ---- a byte from eight digits

value_snoc : (v : ℕ) (bits : List ℕ) (b : ℕ) → value_from v (bits ++ (b ∷ [])) ≡ value_from v bits * 2 + b
unfolding value_from
value_snoc v [] b = refl
value_snoc v (x ∷ bits) b = value_snoc (v * 2 + x) bits b

pub record Digits (digit : ℕ → ℕ) (byte m : ℕ) : Type 0 where
  pub within : m ≤ 8
  pub small : byte < 2 ^ m
  pub so_far : byte ≡ value_from 0 (tabulate m digit)

module _ {digit : ℕ → ℕ} where
  pub digits_none : Digits digit 0 0
  unfolding value_from tabulate
  digits_none = record { within = omega arith; small = omega arith; so_far = refl }

  module _ {byte m : ℕ} (d : Digits digit byte m) where
    half_full : m < 8 → byte < 2 ^ 7
    half_full h = let p : 2 ^ m ≤ 2 ^ 7 = pow_mono {j = 7} (omega arith) in omega (arith, d.small)

    module _ {b : ℕ} (bit : b < 2) where
      pub digits_fits : m < 8 → Fits w8 (byte * 2 + b)
      digits_fits h = omega (arith, half_full h)

      pub digits_more : m < 8 → b ≡ digit m → Digits digit (byte * 2 + b) (m + 1)
      digits_more h e =
          let s : byte < 2 ^ m = d.small in
          record {
            within = omega arith;
            small = rw add-one (omega arith);
            so_far = rw (tabulate_more, value_snoc, ← d.so_far, e);
          }

-- ---- a table from its bytes

abbrev pub Packing : ℕ → List ℕ → List ℕ → List ℕ → ℕ → Type 0
Packing k numbers start table i = Written start 0 (length start) (at (packed (length numbers) (parity_at numbers k))) table i

module _ {k : ℕ} {numbers start : List ℕ} (p : Packs k numbers start) where
  pub packing_none : Packing k numbers start start 0
  packing_none = written_none (omega arith)

  module _ {table : List ℕ} {i : ℕ} (w : Packing k numbers start table i) where
    pub packing_more : (v : ℕ) → i < length start → v ≡ value_from 0 (tabulate 8 (λ t. at (tabulate (length numbers) (parity_at numbers k)) (8 * i + t)))
        → Packing k numbers start (set table i v) (i + 1)
    packing_more v h e = filled_more w v h (e ∙ sym (packed_at (length numbers) (parity_at numbers k) i (omega (arith, p.room))))

    pub packing_all : length start ≤ i → table ≡ packed (length numbers) (parity_at numbers k)
    packing_all h =
        let new = packed (length numbers) (parity_at numbers k) in
        let len : length new ≡ length start = length_packed (length numbers) (parity_at numbers k) ∙ sym p.room in
        written_all w h ∙ ap (λ (n : ℕ). splice start 0 (tabulate n (at new))) (sym len)
        ∙ ap (splice start 0) (tabulate_list new) ∙ splice_whole start new len
