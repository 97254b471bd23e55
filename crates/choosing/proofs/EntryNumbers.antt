-- Entries as numbers, in the order of looking and back (specs/Looking.antt, spectra's specs/Codes.antt).
--
--   code_fits       an entry's number fits two bytes
--   outputs_codes   the numbers of an index's entries, output after output
--   length_outputs  as many as there are outputs
--   length_codes    those of indices are as many as indices times outputs
--   codes_at, codes_block   and stand index after index
--   codes_put, part_few   put in a part of an array, which has no more places
--   size_shifted, size_some   the number of coefficients of an output fits two bytes, and is not 0
--   decoded_map     numbers taken apart one by one
--   codes_within    the numbers of entries within a circuit's
--   decoded_codes   entries as numbers, taken apart
--   scan_size       as many indices are looked at as there are
--   scan_within, scan_length, scan_bounded, scan_room   what putting their entries asks
--   scan_coded      the entries in the order of looking, each as its number
use Prim.Native.Nat.{ℕ, zero, suc, ◌+◌, ◌-◌, ◌*◌, ◌/◌, ◌%◌, ◌^◌, ◌≤◌, ◌<◌}
use native.Mathlib.Nat.{zero-mul, one-mul, suc-mul, mul_comm, mul-le-mul, mod-eq_of_lt, zero-div, zero-mod}
use native.Mathlib.Omega.{arith}
use mathlib.Core.Bool.{true}
use mathlib.Core.Path.{◌≡◌, refl, sym, ap, ap₂, subst, ◌∙◌}
use mathlib.Core.List.{List, [], ◌∷◌, ◌++◌, map, map-append, append_assoc, Memᴰ}
use Rattle.std.proofs.lemmas.List.{drop-drop}
use borrow.Rule.Slice.PartMut.{mid_of, put_mid}
use lib.Count.{ones-le}
use lib.Pow.{pow_mono, pow_pos}
use lib.ListN.{length, get_or, take, drop, length-map, length-append, length-take, length-drop, get_or-map}
use lib.Seq.{take_at}
use Rattle.bits.specs.Blocks.{block}
use Rattle.bits.specs.Bounds.{all_below}
use Rattle.bits.specs.Packed.{tabulate}
use Rattle.bits.specs.Sizes.{table_size_of}
use Rattle.bits.specs.Slices.{splice}
use Rattle.bits.proofs.Blocks.{block_ext, block_append}
use Rattle.bits.proofs.Bounds.{members_below}
use Rattle.bits.proofs.Splice.{splice_start}
use Rattle.bits.proofs.Packed.{length_tabulate, tabulate_ext, tabulate_list}
use Rattle.job.specs.Layout.{max_inputs, max_outputs}
use Rattle.spectra.specs.Codes.{code_of, codes_of}
use Rattle.spectra.specs.Listed.{Entry}
use Rattle.spectra.proofs.Codes.{code_below, code_index, code_output, entries_ok}
use Rattle.chooser.specs.Matrix as chooser
use Rattle.chooser.specs.Matrix.{max_signature, zeros}
use Rattle.choosing.specs.Choosing.{scan_order, outputs_at, entries_of, signature_of}
use Rattle.choosing.specs.Looking.{max_places, max_entries, Listed, decoded_from}
use Rattle.choosing.proofs.Indices.{scan_below, length_all}
use Rattle.choosing.proofs.Order.{size_few, listed_sized, listed_length, listed_within}
use Rattle.choosing.proofs.Sizes.{entries_fit, inputs_small}

-- ---- the entries of an index

pub code_fits : (o size index : ℕ) → o < max_outputs → index < size → size ≤ max_places → o * size + index < 2 ^ 16
unfolding max_entries
code_fits o size index h l m =
    let most : suc o * size ≤ max_outputs * max_places = mul-le-mul h m in
    omega (arith, most, suc-mul o size, entries_fit)

pub outputs_codes : (index size outputs : ℕ) → tabulate outputs (λ o. o * size + index) ≡ codes_of size (outputs_at index outputs)
unfolding tabulate outputs_at
outputs_codes index size zero = refl
outputs_codes index size (suc outputs) =
    ap (λ (l : List ℕ). l ++ ((outputs * size + index) ∷ [])) (outputs_codes index size outputs)
    ∙ sym (map-append (code_of size) (outputs_at index outputs) (record { index = index; output = outputs } ∷ []))

-- ---- index after index

pub length_outputs : (index size outputs : ℕ) → length (codes_of size (outputs_at index outputs)) ≡ outputs
length_outputs index size outputs = ap length (sym (outputs_codes index size outputs)) ∙ length_tabulate outputs (λ o. o * size + index)

pub length_codes : (size outputs : ℕ) (l : List ℕ) → length (codes_of size (entries_of outputs l)) ≡ length l * outputs
unfolding entries_of
length_codes size outputs [] = sym (zero-mul outputs)
length_codes size outputs (x ∷ l) =
    ap length (map-append (code_of size) (outputs_at x outputs) (entries_of outputs l))
    ∙ length-append (codes_of size (outputs_at x outputs)) (codes_of size (entries_of outputs l))
    ∙ ap₂ ◌+◌ (length_outputs x size outputs) (length_codes size outputs l)
    ∙ (let e : outputs + length l * outputs ≡ suc (length l) * outputs = omega (arith, suc-mul (length l) outputs) in e)

-- the numbers of the entries of index i of a list
abbrev pub codes_at : ℕ → ℕ → List ℕ → ℕ → List ℕ
codes_at size outputs l i = codes_of size (outputs_at (get_or l i 0) outputs)

pub codes_block : (size outputs : ℕ) (l : List ℕ) → block (length l) (codes_at size outputs l) ≡ codes_of size (entries_of outputs l)
unfolding entries_of block
codes_block size outputs [] = refl
codes_block size outputs (x ∷ l) =
    let f = codes_at size outputs (x ∷ l) in
    let more : suc (length l) ≡ 1 + length l = omega arith in
    ap (λ (k : ℕ). block k f) more ∙ sym (block_append 1 (length l) f)
    ∙ ap (λ (m : List ℕ). codes_of size (outputs_at x outputs) ++ m)
    (block_ext (length l) (λ i. f (1 + i)) (codes_at size outputs l) (λ i _. let e : 1 + i ≡ suc i = omega arith in ap f e) ∙ codes_block size outputs l)
    ∙ sym (map-append (code_of size) (outputs_at x outputs) (entries_of outputs l))

-- the numbers of an index's entries, put in a part of an array
pub codes_put : (at outputs : ℕ) (l : List ℕ) (f : ℕ → List ℕ) {new : List ℕ} → at + outputs ≤ length l → length (f outputs) ≡ outputs
    → new ≡ f (length (mid_of at (at + outputs - at) l)) → put_mid at (at + outputs - at) l new ≡ splice l at (f outputs)
codes_put at outputs l f {new} room long e =
    let P : ℕ → Type 0 = λ x. new ≡ f (length (mid_of at x l)) → put_mid at x l new ≡ splice l at (f outputs) in
    let same : outputs ≡ at + outputs - at = omega arith in
    let part : length (mid_of at outputs l) ≡ outputs = simp (length-take, length-drop) (omega arith) in
    subst P same
    (λ q.
    ap (λ (m : List ℕ). take at l ++ (m ++ drop outputs (drop at l))) (q ∙ ap f part)
    ∙ sym (append_assoc (take at l) (f outputs) (drop outputs (drop at l)))
    ∙ ap (λ (m : List ℕ). take at l ++ f outputs ++ m) (drop-drop outputs at l ∙ ap (λ (n : ℕ). drop (at + n) l) (sym long)))
    e

pub part_few : (at outputs : ℕ) (l : List ℕ) → length (mid_of at (at + outputs - at) l) ≤ outputs
part_few at outputs l = omega (arith, length-take (at + outputs - at) (drop at l))

-- ---- numbers taken apart

-- the size as the code works it out
pub size_shifted : (n : ℕ) → n ≤ max_inputs → 1 * 2 ^ n % 2 ^ 16 ≡ 2 ^ n
size_shifted n h = rw one-mul (mod-eq_of_lt (omega (arith, inputs_small, pow_mono {i = n} {j = max_inputs} h)))

pub size_some : (n : ℕ) → n ≤ max_inputs → 0 < 1 * 2 ^ n % 2 ^ 16
size_some n h = rw (size_shifted n h) (pow_pos n)

pub decoded_map : (f : ℕ → ℕ) (l : List ℕ) → f 0 ≡ 0 → tabulate (length l) (λ i. f (get_or l i 0)) ≡ map f l
decoded_map f l z =
    tabulate_ext (length l) (λ i. f (get_or l i 0)) (λ i. get_or (map f l) i 0)
    (λ i _. sym (get_or-map f l i 0) ∙ ap (λ (d : ℕ). get_or (map f l) i d) z)
    ∙ ap (λ (k : ℕ). tabulate k (λ i. get_or (map f l) i 0)) (sym (length-map l f))
    ∙ tabulate_list (map f l)

-- entries whose indices lie below a size
pub codes_within : (size outputs : ℕ) (l : List Entry) → ((e : Entry) → Memᴰ e l → (e.index < size) × (e.output < outputs))
    → all_below (outputs * size) (codes_of size l) ≡ true
codes_within size outputs l h = entries_ok (outputs * size) (code_of size) l (λ e m. let r = h e m in code_below size outputs e r.0 r.1)

map_zeros : (f : ℕ → ℕ) → f 0 ≡ 0 → (n : ℕ) → map f (zeros n) ≡ zeros n
unfolding zeros
map_zeros f e zero = refl
map_zeros f e (suc n) = ap₂ (λ (x : ℕ) (l : List ℕ). x ∷ l) e (map_zeros f e n)

-- one part of each number, and of the 0s past them
apart : (f : ℕ → ℕ) (g : Entry → ℕ) (size : ℕ) → f 0 ≡ 0 → (l : List Entry) → ((e : Entry) → Memᴰ e l → f (code_of size e) ≡ g e)
    → map f (codes_of size l ++ zeros (max_signature - length (codes_of size l))) ≡ map g l ++ zeros (max_signature - length l)
apart f g size z l h =
    map-append f (codes_of size l) (zeros (max_signature - length (codes_of size l)))
    ∙ ap₂ ◌++◌ (go l h) (map_zeros f z (max_signature - length (codes_of size l)) ∙ ap (λ (k : ℕ). zeros (max_signature - k)) (length-map l (code_of size)))
  where
    go : (l : List Entry) → ((e : Entry) → Memᴰ e l → f (code_of size e) ≡ g e) → map f (codes_of size l) ≡ map g l
    go [] h = refl
    go (e ∷ l) h = ap₂ (λ (x : ℕ) (m : List ℕ). x ∷ m) (h e (Memᴰ.head refl)) (go l (λ x m. h x (Memᴰ.tail m)))

pub decoded_codes : (size : ℕ) (l : List Entry) → ((e : Entry) → Memᴰ e l → e.index < size)
    → decoded_from size (chooser.signature_of (codes_of size l)) ≡ signature_of l
decoded_codes size l h i =
    record {
      count = length-map l (code_of size) i;
      indices = apart (λ c. c % size) (λ (e : Entry). e.index) size (zero-mod size) l (λ e m. code_index size e (h e m)) i;
      outputs = apart (λ c. c / size) (λ (e : Entry). e.output) size (zero-div size) l (λ e m. code_output size e (h e m)) i;
    }

-- ---- the order of looking

pub scan_size : (n : ℕ) → length (scan_order n) ≡ 2 ^ n
scan_size n = length_all (2 ^ n) (n + 1) (λ e h. omega (arith, ones-le n e h))

module _ (n outputs : ℕ) (few : n ≤ max_inputs) (outputs_few : outputs ≤ max_outputs) {size : ℕ} (answered : size ≡ table_size_of n)
    {places : List ℕ} (listed : Listed (scan_order n) (2 ^ n) places) where
  w : Listed (scan_order n) size places
  w = listed_sized few answered (λ k. k) listed

  sized : size ≡ 2 ^ n
  sized = w.counted ∙ scan_size n

  pub scan_within : size ≤ length places
  scan_within = listed_within w

  pub scan_length : size ≡ length (take size places)
  scan_length = listed_length w

  pub scan_bounded : all_below size (take size places) ≡ true
  scan_bounded =
      ap₂ all_below sized w.done ∙ members_below (2 ^ n) (scan_order n) (λ e m. scan_below n m)

  entries_few : size * outputs ≤ max_entries
  unfolding max_entries
  entries_few = subst (λ (k : ℕ). k ≤ max_outputs * max_places) (mul_comm outputs size) (mul-le-mul outputs_few (size_few few answered))

  pub scan_room : {room : ℕ} → room ≡ max_entries → length (take size places) * outputs ≤ room
  scan_room {room} e =
      subst (λ (k : ℕ). length (take size places) * outputs ≤ k) (sym e)
      (subst (λ (k : ℕ). k * outputs ≤ max_entries) scan_length entries_few)

  pub scan_coded : (start : List ℕ) {after : List ℕ} → after ≡ splice start 0 (codes_of size (entries_of outputs (take size places)))
      → Listed (codes_of (2 ^ n) (entries_of outputs (scan_order n))) (2 ^ n * outputs) after
  scan_coded start {after} e =
      let codes = codes_of (2 ^ n) (entries_of outputs (scan_order n)) in
      let long : 2 ^ n * outputs ≡ length codes =
      ap (λ (k : ℕ). k * outputs) listed.counted ∙ sym (length_codes (2 ^ n) outputs (scan_order n))
      in
      record {
        counted = long;
        done =
            ap (take (2 ^ n * outputs))
            (e ∙ ap₂ (λ (k : ℕ) (l : List ℕ). splice start 0 (codes_of k (entries_of outputs l))) sized w.done ∙ splice_start start codes)
            ∙ take_at codes (drop (length codes) start) (2 ^ n * outputs) (sym long);
      }
