-- A text put piece by piece, as a loop does it.
--
--   Grows           a text that grows by a piece a turn, until it is whole
--   Begun           what the loop knows: its first pieces stand, and there is room for all
--   begun_none, begun_room, begun_more, begun_all   its start, the room for a piece, its step and its end
--   numbers_to, entries_to   the text of the first numbers, and of the first entries
--   entries_grow    entries
--   row_grows       the numbers of a row at the listed entries
--   Listed, listed, listed_all      which entry a turn of a loop over them has, and that it had all
--   entry_listed                    its text
--   row_inside, number_listed       its place in the work, and the number there
--   lines_grow      the lines of circuits
use Prim.Native.Nat.{ℕ, zero, suc, ◌+◌, ◌*◌, ◌-◌, ◌^◌, ◌≤◌, ◌<◌, zero-le}
use native.Mathlib.Omega.{arith}
use native.Mathlib.Nat.{le_antisymm, add-zero, le_refl}
use native.Mathlib.Numerals.{add-one}
use mathlib.Core.Path.{◌≡◌, refl, sym, ap, ap₂, subst, ◌∙◌}
use mathlib.Core.List.{List, [], ◌∷◌, ◌++◌}
use lib.ListN.{length, get_or, take, length-append}
use lib.Seq.{take-suc, take_all}
use Rattle.std.proofs.Common.{Iter, Option, Some, None}
use Rattle.std.proofs.iter.Yields.{fronts}
use Rattle.std.proofs.lemmas.Iterator.{zips}
use Rattle.std.proofs.lemmas.Slice.Zip.{zip_turn, zip_end}
use Rattle.std.specs.Iterator.{Yields}
use Rattle.std.specs.Iterator.Adapters.{zip_first, zip_second}
use Rattle.std.specs.Slice.Iter.{iter_rest}
use Rattle.std.specs.declared.iter.Zip.{Zip}
use denote.Ref.{Bor}
use Rattle.spectra.specs.Listed.{Entry}
use Rattle.spectra.proofs.Codes.{length_entries, entries_get}
use Rattle.locating.proofs.Indices.{numbers_at_lem, numbers_length}
use Rattle.locating.proofs.Scans.{row_within}
use Rattle.report_text.specs.Putting.{Puts, Room, list_of, numbers_of}
use Rattle.report_text.specs.Text.{space, decimal, numbers_text, entry_text, entries_text, circuit_line, circuit_lines}
use Rattle.report_text.specs.declared.Rows.{Rows}
use Rattle.report_text.specs.declared.Writer.{Writer}
use Rattle.report_text.proofs.Elements.{Joined, joined_snoc, numbers_joined, entries_joined}
use Rattle.report_text.proofs.Texts.{puts_none, puts_same, puts_then}

pub record Grows (upto piece : ℕ → List ℕ) (count : ℕ) (whole : List ℕ) : Type 0 where
  pub none : upto 0 ≡ []
  pub more : (i : ℕ) → i < count → upto (i + 1) ≡ upto i ++ piece i
  pub all : upto count ≡ whole

pub record Begun (upto : ℕ → List ℕ) (count : ℕ) (before after : Writer) (i : ℕ) : Type 0 where
  pub room : Room (upto count) before
  pub within : i ≤ count
  pub so_far : Puts (upto i) before after

module _ {upto piece : ℕ → List ℕ} {count : ℕ} {whole : List ℕ} (g : Grows upto piece count whole) where
  -- the text of one piece more
  next_length : (i : ℕ) → i < count → length (upto (i + 1)) ≡ length (upto i) + length (piece i)
  next_length i h = ap length (g.more i h) ∙ length-append (upto i) (piece i)

  longer : (k i : ℕ) → i + k ≡ count → length (upto i) ≤ length (upto count)
  longer zero i e = subst (λ (n : ℕ). length (upto i) ≤ length (upto n)) (sym (add-zero i) ∙ e) (le_refl (length (upto i)))
  longer (suc k) i e = omega (arith, next_length i (omega arith), longer k (i + 1) (omega arith))

  pub begun_none : (before : Writer) → Room whole before → Begun upto count before before 0
  begun_none before h =
      record {
        room = subst (λ (t : List ℕ). Room t before) (sym g.all) h;
        within = zero-le;
        so_far = puts_same g.none (puts_none before);
      }

  module _ {before after : Writer} {i : ℕ} (w : Begun upto count before after i) where
    pub begun_room : {next : List ℕ} → i < count → next ≡ piece i → Room next after
    begun_room h e =
        omega (arith, ap length e, next_length i h, longer (count - (i + 1)) (i + 1) (omega arith), w.room, w.so_far.ends, w.so_far.kept)

    pub begun_more : {next : List ℕ} {after' : Writer} {k : ℕ} → k ≡ i + 1 → i < count → next ≡ piece i → Puts next after after' → Begun upto count before after' k
    begun_more {after' = after'} k h e p =
        subst (Begun upto count before after') (sym k)
        (record { room = w.room; within = omega arith; so_far = puts_same (g.more i h) (puts_then w.so_far (puts_same (sym e) p)) })

    pub begun_all : count ≤ i → Puts whole before after
    begun_all h = puts_same (sym g.all) (subst (λ (n : ℕ). Puts (upto n) before after) (le_antisymm w.within h) w.so_far)

-- ---- numbers and entries, each behind a space

-- `element i` is element i of the list
module _ {A : Type 0} {text : List A → List ℕ} {piece : A → List ℕ} (t : Joined text piece) (l : List A) (d : A) where
  joined_more : (i : ℕ) → i < length l → text (take (i + 1) l) ≡ text (take i l) ++ piece (get_or l i d)
  joined_more i h =
      ap (λ (k : ℕ). text (take k l)) (add-one i) ∙ ap text (take-suc l i d h) ∙ joined_snoc t (take i l) (get_or l i d)

  joined_grow : (count : ℕ) (element : ℕ → A) → length l ≡ count → ((i : ℕ) → i < count → get_or l i d ≡ element i)
      → Grows (λ i. text (take i l)) (λ i. piece (element i)) count (text l)
  joined_grow count element same at =
      record {
        none = t.none;
        more = λ i h. joined_more i (omega arith) ∙ ap (λ (x : A). text (take i l) ++ piece x) (at i h);
        all = ap text (take_all count l (omega arith));
      }

abbrev pub numbers_to : List ℕ → ℕ → List ℕ
numbers_to values i = numbers_text (take i values)

abbrev pub entries_to : List Entry → ℕ → List ℕ
entries_to list i = entries_text (take i list)

module _ (r : Rows) where
  abbrev indices : List ℕ
  indices = r.indices.now

  abbrev outputs : List ℕ
  outputs = r.outputs.now

  pub entries_grow : Grows (entries_to (list_of r)) (λ i. entry_text (record { index = get_or indices i 0; output = get_or outputs i 0 })) (length indices) (entries_text (list_of r))
  entries_grow =
      joined_grow entries_joined (list_of r) (record { index = 0; output = 0 }) (length indices) (λ i. record { index = get_or indices i 0; output = get_or outputs i 0 })
      (length_entries indices outputs r.in_work.paired) (λ i h. entries_get indices outputs i h r.in_work.paired (record { index = 0; output = 0 }))

  -- of so many numbers an output
  abbrev RowGrows : ℕ → ℕ → Type 0
  RowGrows c size =
      Grows (numbers_to (numbers_of r c))
      (λ i. space ∷ decimal (get_or r.work.now (c * (r.counts.outputs * size) + (get_or outputs i 0 * size + get_or indices i 0)) 0))
      (length indices) (numbers_text (numbers_of r c))

  pub row_grows : (c : ℕ) {size : ℕ} → size ≡ 2 ^ r.counts.inputs → RowGrows c size
  row_grows c e =
      let full = 2 ^ r.counts.inputs in
      let start = c * (r.counts.outputs * full) in
      subst (RowGrows c) (sym e)
      (joined_grow numbers_joined (numbers_of r c) 0 (length indices) (λ i. get_or r.work.now (start + (get_or outputs i 0 * full + get_or indices i 0)) 0)
      (numbers_length r.work.now start full indices outputs r.in_work.paired) (numbers_at_lem r.work.now start full indices outputs r.in_work.paired))

-- ---- a loop over the entries

-- entry i
pub record Listed (r : Rows) (i index output : ℕ) : Type 0 where
  pub more : i < length r.indices.now
  pub index_is : index ≡ get_or r.indices.now i 0
  pub output_is : output ≡ get_or r.outputs.now i 0

-- a zip of both lists, from `start` to `now`, and a step further
module _ (r : Rows) (start now next : Zip (Iter ℕ) (Iter ℕ)) (passed : List (Bor ℕ × Bor ℕ))
    {zipped : Zip (Iter ℕ) (Iter ℕ)} {first : Iter ℕ} (made : start ≡ zipped) (firsts : zip_first zipped ≡ first)
    (indices_rest : iter_rest first ≡ r.indices.now) (outputs_rest : iter_rest (zip_second zipped) ≡ r.outputs.now) where
  over_indices : iter_rest (zip_first start) ≡ r.indices.now
  over_indices = ap (λ z. iter_rest (zip_first z)) made ∙ ap iter_rest firsts ∙ indices_rest

  over_outputs : iter_rest (zip_second start) ≡ r.outputs.now
  over_outputs = ap (λ z. iter_rest (zip_second z)) made ∙ outputs_rest

  module _ {found : Option (Bor ℕ × Bor ℕ)} (so_far : Yields (zips fronts fronts) start passed now) (step : zips fronts fronts now found next) where
    pub listed : {p : Bor ℕ × Bor ℕ} → found ≡ Some p → Listed r (length passed) p.0.now p.1.now
    listed {p} e =
        let turn = zip_turn r.indices.now r.outputs.now passed start now next found over_indices over_outputs so_far p e step in
        record { more = turn.0; index_is = turn.2 0; output_is = turn.3 0 }

    pub listed_all : found ≡ None → length r.indices.now ≤ length passed
    listed_all e =
        let all = zip_end r.indices.now r.outputs.now passed start now next found over_indices over_outputs so_far e step in
        omega (arith, r.in_work.paired)

pub entry_listed : (r : Rows) {i index output : ℕ} → Listed r i index output
    → entry_text (record { index = index; output = output }) ≡ entry_text (record { index = get_or r.indices.now i 0; output = get_or r.outputs.now i 0 })
entry_listed r h = ap₂ (λ (i o : ℕ). entry_text (record { index = i; output = o })) h.index_is h.output_is

-- its number in the row of circuit c, which has `size` numbers an output
module _ (r : Rows) (c : ℕ) {size i index output : ℕ} (e : size ≡ 2 ^ r.counts.inputs) (h : Listed r i index output) where
  abbrev start : ℕ
  start = c * (r.counts.outputs * size)

  place_listed : start + (output * size + index) ≡ start + (get_or r.outputs.now i 0 * size + get_or r.indices.now i 0)
  place_listed = ap₂ (λ (i o : ℕ). start + (o * size + i)) h.index_is h.output_is

  pub row_inside : c < r.counts.faults + 1 → start + (output * size + index) < length r.work.now
  row_inside l = omega (arith, place_listed, (row_within r.in_work e l).inside i h.more)

  pub number_listed : space ∷ decimal (get_or r.work.now (start + (output * size + index)) 0)
      ≡ space ∷ decimal (get_or r.work.now (start + (get_or r.outputs.now i 0 * size + get_or r.indices.now i 0)) 0)
  number_listed = ap (λ (n : ℕ). space ∷ decimal (get_or r.work.now n 0)) place_listed

-- ---- the lines of circuits

pub lines_grow : (numbers : ℕ → List ℕ) (count : ℕ) → Grows (circuit_lines numbers) (λ c. circuit_line c (numbers c)) count (circuit_lines numbers count)
unfolding circuit_lines
lines_grow numbers count = record { none = refl; more = λ i h. ap (circuit_lines numbers) (add-one i); all = refl }
