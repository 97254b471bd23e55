-- Rows of bytes that are packed tables (specs/Rows.antt, specs/Polynomial.antt).
--
--   row_packed           bytes whose bits are a table's entries where the mask is 1, and 0 elsewhere
--   bit_for              bit 7 − (m mod 8) of a byte
--   entry_slice           an entry of the table at a place
--   answered             the table of a kind's answers to the tables at two places
--   gate_entries         each entry of the gate step, over any number of bytes, is the kind's answer, and each spare bit 0
--   gate_packed          over the bytes of a table they are that table
--   level_packed         the mask in every byte, or 0, is the table of a level
--   pattern_rest         the pattern of a line that is neither 0 nor 1
--   pattern_packed       the masked pattern in every byte is the table of one of the first three inputs
--   alternate_low        the bit of a place within a byte
--   alternate_packed     bytes that alternate are the table of a further input
use Prim.Native.Nat.{ℕ, ◌+◌, ◌-◌, ◌*◌, ◌/◌, ◌%◌, ◌^◌, ◌≤◌, ◌<◌}
use native.Mathlib.Nat.{zero-mul, one-mul, mul-one, mul-zero, zero-div, div-add-mod', lt_of_le_of_lt}
use native.Mathlib.Omega.{arith}
use mathlib.Core.Path.{◌≡◌, sym, ap, ap₂, ◌∙◌}
use mathlib.Core.Bool.{Bool, true, false, cond}
use mathlib.Core.List.{List, [], ◌∷◌}
use mathlib.Core.Logic.{⊎_elim}
use borrow.Author.Tests.{lt-ltb, le-ltb}
use lib.Bits.{bit_and, and_le_r}
use lib.Dec.{ltb}
use lib.ListN.{length, get_or, drop, get_or-eq_default}
use lib.Pow.{shr-shr}
use lib.Seq.{get_or-take, get_or-drop}
use Rattle.bits.specs.Packed.{tabulate, packed, entry}
use Rattle.bits.proofs.Below.{lt_or_ge, equal_below}
use Rattle.bits.proofs.Digits.{digit_lt, digit_above, digit_and}
use Rattle.bits.proofs.Slices.{slice_same}
use Rattle.bits.proofs.Packed.{Bytes, length_tabulate, tabulate_at, tabulate_past, packed_unique}
use Rattle.job.specs.Record.{level_number}
use Rattle.gates.specs.Answers.{answers, answer}
use Rattle.gates.specs.Polynomial.{mask_of, combined, kind_polynomial, pattern_of, alternating}
use Rattle.bits.specs.Sizes.{table_bytes}
use Rattle.bits.specs.Slices.{slice}
use Rattle.gates.specs.Values.{input_value}
use Rattle.gates.specs.Words.{gate_step}
use Rattle.gates.proofs.Masks.{mask_lt, mask_digit, mask_full, full_digit}
use Rattle.gates.proofs.Polynomials.{copies_fit, step_lt, step_digit}

bytes_tabulate : (n : ℕ) (g : ℕ → ℕ) → ((i : ℕ) → g i < 256) → Bytes (tabulate n g)
bytes_tabulate n g h i = ⊎_elim (λ l. rw (tabulate_at n g i l) (h i)) (λ l. rw (tabulate_past n g i l) (omega arith)) (lt_or_ge i n)

-- bit 7 − (m mod 8) of a byte, where entry m stands
abbrev pub bit_for : ℕ → ℕ → ℕ
bit_for m byte = byte / 2 ^ (7 - m % 8) % 2

module _ (n : ℕ) (f g : ℕ → ℕ) (byte : (i : ℕ) → g i < 256)
    (bit : (m : ℕ) → m < 8 * table_bytes n → bit_for m (g (m / 8)) ≡ bit_for m (mask_of n) * f m) where
  entry_row : (m : ℕ) → m < 8 * table_bytes n → entry (tabulate (table_bytes n) g) m ≡ cond (ltb m (2 ^ n)) 1 0 * f m
  unfolding entry
  entry_row m h =
      ap (bit_for m) (tabulate_at (table_bytes n) g (m / 8) (omega arith)) ∙ bit m h ∙ ap (λ (x : ℕ). x * f m) (mask_digit n m h)

  pub row_packed : tabulate (table_bytes n) g ≡ packed (2 ^ n) f
  row_packed =
      packed_unique (2 ^ n) f (tabulate (table_bytes n) g) (length_tabulate (table_bytes n) g) (bytes_tabulate (table_bytes n) g byte)
      (λ m h. entry_row m (omega arith) ∙ rw (lt-ltb m (2 ^ n) h) (one-mul (f m)))
      (λ m h l. entry_row m (rw length_tabulate at l) ∙ rw (le-ltb m (2 ^ n) h) (zero-mul (f m)))

pub entry_slice : (x count : ℕ) (rows : List ℕ) (m : ℕ) → m < 8 * count → entry (slice x count rows) m ≡ bit_for m (get_or rows (x + m / 8) 0)
unfolding entry
entry_slice x count rows m h = ap (bit_for m) (get_or-take count (drop x rows) (m / 8) 0 (omega arith) ∙ get_or-drop x rows (m / 8) 0)

-- the table of a kind's answers to the tables at two places
abbrev pub answered : ℕ → ℕ → ℕ → ℕ → List ℕ → List ℕ
answered n kind x y rows = packed (2 ^ n) (λ m. answer kind (entry (slice x (table_bytes n) rows) m) (entry (slice y (table_bytes n) rows) m))

module _ (n kind x y : ℕ) (rows : List ℕ) (h : kind < 8) where
  -- the kind's answer to the entries at x and y, or 0 in the place of a spare bit
  abbrev stepped : ℕ → ℕ → ℕ
  stepped count m = bit_for m (mask_of n) * answer kind (entry (slice x count rows) m) (entry (slice y count rows) m)

  gate_bit : (count m : ℕ) → m < 8 * count → bit_for m (combined (kind_polynomial kind (mask_of n)) x y rows (m / 8)) ≡ stepped count m
  gate_bit count m l =
      step_digit kind (mask_of n) _ _ (7 - m % 8) h (omega arith)
      ∙ ap₂ (λ (a b : ℕ). bit_for m (mask_of n) * answer kind a b) (sym (entry_slice x count rows m l)) (sym (entry_slice y count rows m l))

  pub gate_entries : (to count : ℕ) → to + count ≤ length rows → (m : ℕ) → m < 8 * count
      → entry (slice to count (gate_step (kind_polynomial kind (mask_of n)) x y to count rows)) m
      ≡ stepped count m
  unfolding entry
  gate_entries to count room m l =
      ap (λ (s : List ℕ). entry s m) (slice_same rows to count (tabulate count _) (length_tabulate count _) room)
      ∙ ap (bit_for m) (tabulate_at count _ (m / 8) (omega arith)) ∙ gate_bit count m l

  pub gate_packed : tabulate (table_bytes n) (combined (kind_polynomial kind (mask_of n)) x y rows) ≡ answered n kind x y rows
  gate_packed =
      row_packed n _ (combined (kind_polynomial kind (mask_of n)) x y rows) (λ i. step_lt (get_or answers kind []) (mask_of n) (mask_lt n) _ _)
      (gate_bit (table_bytes n))

pub level_packed : (n : ℕ) (level : Bool) → tabulate (table_bytes n) (λ i. cond level (mask_of n) 0) ≡ packed (2 ^ n) (λ m. level_number level)
level_packed n true = row_packed n (λ m. 1) (λ i. mask_of n) (λ i. mask_lt n) (λ m l. sym (mul-one (bit_for m (mask_of n))))
level_packed n false =
    row_packed n (λ m. 0) (λ i. 0) (λ i. omega arith)
    (λ m l. ap (λ (x : ℕ). x % 2) (zero-div (2 ^ (7 - m % 8))) ∙ sym (mul-zero (bit_for m (mask_of n))))

pub pattern_rest : (line : ℕ) → (line ≡ 0 → ⊥) → (line ≡ 1 → ⊥) → pattern_of line ≡ 15
pattern_rest line h0 h1 = get_or-eq_default (85 ∷ 51 ∷ []) 15 {n = line} (omega arith)

pattern_digit : (line m : ℕ) → line < 3 → bit_for m (pattern_of line) ≡ m / 2 ^ line % 2
pattern_digit line m h =
    equal_below (λ line r. pattern_of line / 2 ^ (7 - r) % 2) (λ line r. r / 2 ^ line % 2) 3 8 tt line (m % 8) h (omega arith)
    ∙ sym (digit_above 3 line (m / 8) (m % 8) h) ∙ ap (λ (x : ℕ). x / 2 ^ line % 2) (div-add-mod' m 8)

and_bits : (a b : ℕ) → a < 2 → b < 2 → bit_and a b ≡ b * a
and_bits = equal_below (λ a b. bit_and a b) (λ a b. b * a) 2 2 tt

pub pattern_packed : (n line : ℕ) → line < 3 → tabulate (table_bytes n) (λ i. bit_and (pattern_of line) (mask_of n)) ≡ packed (2 ^ n) (λ m. input_value m line)
unfolding input_value
pattern_packed n line h =
    row_packed n (λ m. m / 2 ^ line % 2) (λ i. bit_and (pattern_of line) (mask_of n)) (λ i. lt_of_le_of_lt (and_le_r (pattern_of line) (mask_of n)) (mask_lt n))
    (λ m l. digit_and (pattern_of line) (mask_of n) (7 - m % 8)
    ∙ and_bits _ _ (digit_lt (pattern_of line) (7 - m % 8)) (digit_lt (mask_of n) (7 - m % 8))
    ∙ ap (λ (x : ℕ). bit_for m (mask_of n) * x) (pattern_digit line m h))

byte_digit : (m line : ℕ) → 3 ≤ line → m / 8 / 2 ^ (line - 3) % 2 ≡ m / 2 ^ line % 2
byte_digit m line h = ap (λ (x : ℕ). x % 2) (shr-shr m 3 (line - 3)) ∙ (let e : 3 + (line - 3) ≡ line = omega arith in rw e)

pub alternate_low : (bit i : ℕ) → bit < 8 → 255 * (i % 256 / 2 ^ bit % 2) ≡ alternating bit i
alternate_low bit i h =
    ap (λ (b : ℕ). 255 * b) (sym (digit_above 8 bit (i / 256) (i % 256) h) ∙ ap (λ (x : ℕ). x / 2 ^ bit % 2) (div-add-mod' i 256))

pub alternate_packed : (n line : ℕ) → 3 ≤ line → line < n → tabulate (table_bytes n) (alternating (line - 3)) ≡ packed (2 ^ n) (λ m. input_value m line)
unfolding input_value
alternate_packed n line h l =
    row_packed n (λ m. m / 2 ^ line % 2) (alternating (line - 3)) (λ i. (copies_fit (digit_lt i (line - 3))).fits)
    (λ m _. full_digit (m / 8 / 2 ^ (line - 3) % 2) (7 - m % 8) (digit_lt (m / 8) (line - 3)) (omega arith)
    ∙ byte_digit m line h ∙ sym (one-mul (m / 2 ^ line % 2))
    ∙ ap (λ (x : ℕ). x * (m / 2 ^ line % 2)) (sym (mask_full n (7 - m % 8) (omega arith) (omega arith))))
