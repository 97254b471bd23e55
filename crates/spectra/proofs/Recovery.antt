-- Undoing a spectrum, as the code does it (specs/Operations.antt, specs/Parities.antt).
--
--   Comparing              what a loop has done after i turns: the first i numbers of two lists are the same
--   comparing_none         nothing compared yet
--   comparing_stop         two numbers that differ: the lists are not the same
--   comparing_more         one number more
--   comparing_all          all numbers: the lists are the same
--   same_pointwise         `==` compares number by number
--   same_lengths           lists that are not of one length are not the same
--   few_entries            the entries of a table fit a usize, with room for spare bits
--   packs_sums             the table has room for the parities of the sums
--   recovers               the parities transformed, and packed again, are the recovered table
--   compares               the numbers are compared with the recovered table's spectrum
--   entries_most           no table has more entries than that of the most inputs
--   lent_of                memory of the right sizes is lent
--   undo_unfit, undo_polarity, undo_count, undo_none, undo_memory, undo_done   undoing's ways out: 2, 13, 14 twice, 10, success
use Prim.Native.Nat.{ℕ, suc, ◌+◌, ◌/◌, ◌%◌, ◌^◌, ◌≤◌, ◌<◌}
use native.Mathlib.Omega.{arith}
use native.Mathlib.Nat.{le_trans, lt_of_le_of_lt}
use native.Mathlib.Numerals.{add-one}
use mathlib.Core.Path.{◌≡◌, refl, sym, ap, ◌∙◌}
use mathlib.Core.Bool.{Bool, true, false, ◌&&◌}
use mathlib.Core.List.{List, [], ◌∷◌, ◌++◌}
use borrow.Author.Tests.{eq-eqb, ne_eqb, le-leb, lt-leb, lt-ltb, le-ltb}
use lib.Dec.{eqb, lit<}
use lib.Pointwise.{pointwise}
use lib.Bits.{bit_xor, xor_lt, xor_zero_r}
use lib.ListN.{length, drop, drop_of_length-le}
use lib.Seq.{drop-cons}
use lib.Pow.{pow_pos, pow_mono}
use Rattle.bits.specs.Answer.{leaves}
use Rattle.bits.specs.Answer.Answer.{gives, refused}
use Rattle.bits.specs.Packed.{packed, entry}
use Rattle.bits.proofs.Packed.{entry_packed, packed_ext, length_packed}
use Rattle.job.specs.Check.{inputs_ok}
use Rattle.job.proofs.Sizes.{most_inputs}
use Rattle.job.specs.Layout.{max_inputs}
use Rattle.bits.specs.Sizes.{table_bytes, table_size_of}
use Rattle.bits.specs.Slices.{splice}
use Rattle.bits.proofs.Splice.{splice_start}
use Rattle.bits.proofs.TableSizes.{table_size_exact}
use Rattle.tables.proofs.Answers.{kept, put}
use Rattle.spectra.specs.Operations.{at, same_numbers, is_spectrum, undone_of}
use Rattle.spectra.specs.Parities.{parity_at, Packs, Lent}
use Rattle.spectra.specs.Rows.{rows_filled}
use Rattle.spectra.specs.Spectrum.{spectrum, recovered}
use Rattle.spectra.specs.declared.Kind.{Kind}
use Rattle.spectra.specs.declared.Kind.TheVariants.{Rm}
use Rattle.spectra.proofs.Bounds.{length_spectrum, spectrum_at, coefficient_ext, spectrum_ext}
use Rattle.spectra.proofs.Inverse.{coefficient_mod}
use Rattle.spectra.proofs.Refusals.{one_row}
use Rattle.spectra.proofs.Acceptance.{recovered_bits}
use Rattle.spectra.proofs.ValidInputs.{inputs_most, inputs_word}

-- ---- comparing

-- (the loop of `Observed::agree` in locating compares so)
pub record Comparing (a b : List ℕ) (i : ℕ) : Type 0 where
  pub within : i ≤ length a
  pub lengths : length a ≡ length b
  pub rest : same_numbers a b ≡ same_numbers (drop i a) (drop i b)

-- what `==` says of two slices
pub same_pointwise : (a b : List ℕ) → pointwise eqb a b ≡ same_numbers a b
unfolding same_numbers
same_pointwise [] [] = refl
same_pointwise [] (y ∷ b) = refl
same_pointwise (x ∷ a) [] = refl
same_pointwise (x ∷ a) (y ∷ b) = ap (λ (t : Bool). eqb x y && t) (same_pointwise a b)

and-false : (t : Bool) → t && false ≡ false
and-false true = refl
and-false false = refl

same_lengths : (a b : List ℕ) → (length a ≡ length b → ⊥) → false ≡ same_numbers a b
unfolding same_numbers
same_lengths [] [] h = absurd (h refl)
same_lengths [] (y ∷ b) h = refl
same_lengths (x ∷ a) [] h = refl
same_lengths (x ∷ a) (y ∷ b) h = rw (← same_lengths a b (λ e. h (ap suc e))) (sym (and-false (eqb x y)))

module _ {a b : List ℕ} where
  pub comparing_none : length a ≡ length b → Comparing a b 0
  comparing_none e = record { within = omega arith; lengths = e; rest = refl }

  module _ {i : ℕ} (w : Comparing a b i) where
    next : i < length a → same_numbers (drop i a) (drop i b) ≡ eqb (at a i) (at b i) && same_numbers (drop (suc i) a) (drop (suc i) b)
    unfolding same_numbers
    next h = rw (drop-cons a i 0 h, drop-cons b i 0 (omega (arith, w.lengths)))

    pub comparing_stop : i < length a → (at a i ≡ at b i → ⊥) → false ≡ same_numbers a b
    comparing_stop h d = sym (w.rest ∙ next h ∙ rw (ne_eqb (at a i) (at b i) d))

    pub comparing_more : i < length a → at a i ≡ at b i → Comparing a b (i + 1)
    comparing_more h e =
        record {
          within = omega arith;
          lengths = w.lengths;
          rest = w.rest ∙ next h ∙ rw (eq-eqb (at a i) (at b i) e, add-one);
        }

    pub comparing_all : length a ≤ i → true ≡ same_numbers a b
    unfolding same_numbers
    comparing_all h =
        sym (w.rest ∙ rw (drop_of_length-le a {i = i} h, drop_of_length-le b {i = i} (omega (arith, w.lengths))))

-- ---- recovering

few_entries : (n : ℕ) → n ≤ max_inputs → 2 ^ n < 2 ^ 63
few_entries n h = lt_of_le_of_lt (pow_mono {j = 15} (le_trans h most_inputs)) (lit< tt)

-- the spectrum of a table is made
abbrev Transformed : Kind → ℕ → ℕ → List ℕ → List ℕ → List ℕ → Type 0
Transformed kind n k table sums sums₁ = sums₁ ≡ rows_filled kind n k table 1 sums

module _ {n k : ℕ} {numbers table sums : List ℕ} (l : Lent n k numbers table sums) where
  -- the packed parities have the bytes of a table
  length_parities : length (packed (length numbers) (parity_at numbers 0)) ≡ table_bytes n
  length_parities = length_packed (length numbers) (parity_at numbers 0) ∙ ap (λ (x : ℕ). (x + 7) / 8) l.count

  parity_spectrum : {table₁ sums₁ : List ℕ} → table₁ ≡ packed (length numbers) (parity_at numbers 0) → Transformed Rm n 0 table₁ sums sums₁
      → sums₁ ≡ spectrum Rm n 0 (entry table₁)
  parity_spectrum {table₁} et es = one_row Rm n 0 table₁ sums (ap length et ∙ length_parities) l.places es

  pub packs_sums : {table₁ sums₁ : List ℕ} → table₁ ≡ packed (length numbers) (parity_at numbers 0) → Transformed Rm n 0 table₁ sums sums₁
      → Packs k sums₁ table₁
  packs_sums {table₁} {sums₁} et es =
      let p = few_entries n (inputs_most l.inputs) in
      let e : length sums₁ ≡ 2 ^ n = ap length (parity_spectrum et es) ∙ length_spectrum Rm n 0 (entry table₁) in
      record {
        closed = λ m h. rw e (xor_lt n m k (rw e at h) l.polarity);
        few = omega arith;
        room = ap length et ∙ length_parities ∙ ap (λ (x : ℕ). (x + 7) / 8) (sym e);
      }

  -- the entries of the packed parities
  parity_entry : (j : ℕ) → j < 2 ^ n → entry (packed (length numbers) (parity_at numbers 0)) j ≡ at numbers j % 2
  parity_entry j h =
      entry_packed (length numbers) (parity_at numbers 0) (λ m _. omega arith) j (omega (arith, l.count))
      ∙ ap (λ (x : ℕ). at numbers x % 2) (xor_zero_r j)

  pub recovers : {table₁ sums₁ table₂ : List ℕ} → table₁ ≡ packed (length numbers) (parity_at numbers 0) → Transformed Rm n 0 table₁ sums sums₁
      → table₂ ≡ packed (length sums₁) (parity_at sums₁ k) → table₂ ≡ packed (2 ^ n) (recovered n k (at numbers))
  unfolding recovered
  recovers {table₁} {sums₁} {table₂} et filled e =
      let es = parity_spectrum et filled in
      e ∙ ap (λ (x : ℕ). packed x (parity_at sums₁ k)) (ap length es ∙ length_spectrum Rm n 0 (entry table₁))
      ∙ packed_ext (2 ^ n) (parity_at sums₁ k) (recovered n k (at numbers))
      (λ m h. let x : bit_xor m k < 2 ^ n = xor_lt n m k h l.polarity in
      ap (λ (s : List ℕ). at s (bit_xor m k) % 2) es
      ∙ ap (λ (v : ℕ). v % 2) (spectrum_at Rm n 0 (entry table₁) (bit_xor m k) x)
      ∙ coefficient_mod Rm n 0 (entry table₁) (bit_xor m k)
      ∙ coefficient_ext Rm n 0 (entry table₁) (λ j. at numbers j % 2) (bit_xor m k) (pow_pos n)
      (λ j hj. ap (λ (s : List ℕ). entry s j) et ∙ parity_entry j hj))

  pub compares : (kind : Kind) {table₁ : List ℕ} (sums₁ : List ℕ) {sums₂ : List ℕ} → table₁ ≡ packed (2 ^ n) (recovered n k (at numbers))
      → length sums₁ ≡ length sums → Transformed kind n k table₁ sums₁ sums₂ → same_numbers numbers sums₂ ≡ is_spectrum kind n k numbers
  unfolding is_spectrum
  compares kind {table₁} sums₁ et el es =
      ap (same_numbers numbers)
      (one_row kind n k table₁ sums₁ (ap length et ∙ length_packed (2 ^ n) (recovered n k (at numbers))) (el ∙ l.places) es
      ∙ spectrum_ext kind n k (entry table₁) (recovered n k (at numbers)) l.polarity
      (λ m h. ap (λ (s : List ℕ). entry s m) et
      ∙ entry_packed (2 ^ n) (recovered n k (at numbers)) (recovered_bits n k numbers) m h))

-- ---- the ways out

no_spectrum : (kind : Kind) (n k : ℕ) (numbers : List ℕ) → (length numbers ≡ 2 ^ n → ⊥) → false ≡ is_spectrum kind n k numbers
unfolding is_spectrum
no_spectrum kind n k numbers d =
    same_lengths numbers (spectrum kind n k (recovered n k (at numbers))) (λ e. d (e ∙ length_spectrum kind n k (recovered n k (at numbers))))

pub entries_most : (n : ℕ) {size : ℕ} → size ≡ table_size_of n → inputs_ok n ≡ true → size ≤ 2 ^ max_inputs
entries_most n told valid = rw (table_size_exact (inputs_word valid) told) (pow_mono (inputs_most valid))

pub lent_of : {n k size : ℕ} {numbers table sums : List ℕ} → size ≡ table_size_of n → inputs_ok n ≡ true → k < size → length numbers ≡ size
    → length table ≡ (size + 7) / 8 → length sums ≡ size → Lent n k numbers table sums
lent_of told valid polarity count bytes places =
    let e = table_size_exact (inputs_word valid) told in
    record { inputs = valid; polarity = rw e at polarity; count = count ∙ e; bytes = bytes ∙ ap (λ (x : ℕ). (x + 7) / 8) e; places = places ∙ e }

module _ (n : ℕ) (numbers : List ℕ) (kind : Kind) (k : ℕ) (out : List ℕ) where
  -- undoing refuses with a number, and leaves the memory as it was
  abbrev Refuses : ℕ → Type 0
  Refuses number = record { answer = refused number; memory = out } ≡ leaves (undone_of n numbers kind k (length out)) out

  pub undo_unfit : inputs_ok n ≡ false → Refuses 2
  unfolding undone_of
  undo_unfit h = kept (undone_of n numbers kind k (length out)) 2 out (simp h)

  module _ (inputs : inputs_ok n ≡ true) where
    pub undo_polarity : {size : ℕ} → size ≡ table_size_of n → size ≤ k → Refuses 13
    unfolding undone_of
    undo_polarity told h = kept (undone_of n numbers kind k (length out)) 13 out (simp (inputs, le-ltb k (2 ^ n) (rw (table_size_exact (inputs_word inputs) told) at h)))

    pub undo_none : k < 2 ^ n → false ≡ is_spectrum kind n k numbers → Refuses 14
    unfolding undone_of
    undo_none h e = kept (undone_of n numbers kind k (length out)) 14 out (simp (inputs, lt-ltb k (2 ^ n) h, sym e))

    pub undo_count : {size : ℕ} → size ≡ table_size_of n → k < size → (length numbers ≡ size → ⊥) → Refuses 14
    undo_count told h d = let e = table_size_exact (inputs_word inputs) told in undo_none (rw e at h) (no_spectrum kind n k numbers (λ q. d (q ∙ sym e)))

    module _ (h : k < 2 ^ n) (e : true ≡ is_spectrum kind n k numbers) {table : List ℕ} (t : table ≡ packed (2 ^ n) (recovered n k (at numbers))) where
      length_undone : length table ≡ table_bytes n
      length_undone = ap length t ∙ length_packed (2 ^ n) (recovered n k (at numbers))

      pub undo_memory : length out < length table → Refuses 10
      unfolding undone_of
      undo_memory l =
          kept (undone_of n numbers kind k (length out)) 10 out
          (simp (inputs, lt-ltb k (2 ^ n) h, sym e, lt-leb (table_bytes n) (length out) (omega (arith, length_undone))))

      pub undo_done : {front : List ℕ} → length table ≤ length out → front ≡ table
          → record { answer = gives tt; memory = front ++ drop (length table) out } ≡ leaves (undone_of n numbers kind k (length out)) out
      unfolding undone_of
      undo_done {front} l p =
          put (undone_of n numbers kind k (length out)) tt (packed (2 ^ n) (recovered n k (at numbers))) out (front ++ drop (length table) out)
          (simp (inputs, lt-ltb k (2 ^ n) h, sym e, le-leb (table_bytes n) (length out) (omega (arith, length_undone))))
          (ap (λ (s : List ℕ). s ++ drop (length table) out) p ∙ sym (splice_start out table) ∙ ap (splice out 0) t)
