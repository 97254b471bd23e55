-- The indices as the code lists them: each at the next place of its order (specs/Choosing.antt, specs/Looking.antt).
--
--   order_within               an index has few ones
--   index_fits                 it fits in two bytes
--   place_few, place_apart     its place is below the number of indices, and no other index has it
--   Raised                     numbers, one for each order, that each index below e has raised by one
--   raised_none, raised_at, raised_next      their start, the one that index e raises, and their step
--   Summing                    what a loop has done from the highest order down to one: each number has the one before added
--   summing_none, summing_fits, summing_next, summing_all       its start, the room for a sum, its step and its end
--   Starting                   the first place of each order, with so many inputs
--   starting_none, starting_few, starting_next                  its start, its room and its step
--   Placing                    what a loop has done after e turns: the indices below e stand at their places
--   placing_none, placing_inside, placing_next                  its start, its room and its step
--   placed_listed              indices that stand at their places are listed in the order of looking
--   size_few, size_firsts, listed_sized      the number of indices as the code works it out
--   listed_length, listed_within             a list that stands in an array is no longer than the array
use Prim.Native.Nat.{ℕ, zero, suc, ◌+◌, ◌-◌, ◌^◌, ◌≤◌, ◌<◌, min}
use native.Mathlib.Nat.{not-suc-le-zero, eq-or-lt_of_le, le_of_suc-le-suc, le_refl}
use native.Mathlib.Numerals.{add-one}
use native.Mathlib.Omega.{arith}
use mathlib.Core.Path.{◌≡◌, refl, sym, ap, ap₂, subst, ◌∙◌}
use mathlib.Core.Bool.{Bool, true, false, cond}
use mathlib.Core.Logic.{⊎_elim}
use mathlib.Core.List.{List, [], ◌∷◌, ◌++◌, append-nil, append_assoc}
use mir.Syntax.{w16, w64}
use mir.Val.{Fits}
use borrow.Author.Tests.{eq-eqb, ne_eqb, eqb-true, eqb-false}
use lib.Count.{ones, ones-le}
use lib.Dec.{eqb}
use lib.ListN.{length, take, get_or, set, replicate, length-append, length-set, length-take, length-replicate, get_or-replicate}
use lib.Pow.{pow_mono}
use lib.Seq.{take-suc, get_or-set_same, get_or-set_other}
use Rattle.job.specs.Layout.{max_inputs}
use Rattle.job.proofs.Sizes.{inputs_few}
use Rattle.bits.specs.Sizes.{table_size_of}
use Rattle.bits.proofs.TableSizes.{table_size_exact}
use Rattle.bits.proofs.Below.{lt_or_ge}
use Rattle.bits.specs.Passing.{passing}
use Rattle.bits.proofs.Tests.{by_test}
use Rattle.bits.specs.Tabulation.{Tabulates}
use Rattle.choosing.specs.Choosing.{scan_to, scan_order}
use Rattle.choosing.specs.Looking.{max_places, max_orders, Few, summed, of_order, place_of, Placed, Listed}
use Rattle.choosing.proofs.Indices.{length_passing, passing_more, length_scan_to, length_all, length_one, pascal}
use Rattle.choosing.proofs.Sizes.{places_fit}

-- ---- one index

pub order_within : (e : ℕ) → e < max_places → ones e < max_orders
unfolding max_places max_orders
order_within e h = omega (arith, ones-le max_inputs e h)

pub index_fits : (index : ℕ) → index < max_places → Fits w16 index
index_fits index h = omega (arith, places_fit)

length_order : (size order : ℕ) → length (scan_to size (suc order)) ≡ length (scan_to size order) + length (of_order order size)
unfolding scan_to
length_order size order = length-append (scan_to size order) (of_order order size)

scan_more : (size a b : ℕ) → a ≤ b → length (scan_to size a) ≤ length (scan_to size b)
scan_more size a zero h = let e : a ≡ 0 = omega arith in rw e (omega arith)
scan_more size a (suc b) h =
    ⊎_elim (λ (e : a ≡ suc b). rw e (omega arith))
    (λ (l : a < suc b). omega (arith, scan_more size a b (le_of_suc-le-suc l), length_order size b))
    (eq-or-lt_of_le h)

-- one index more has the order, or has not
order_next : (e : ℕ) → length (of_order (ones e) (suc e)) ≡ length (of_order (ones e) e) + 1
order_next e = length_passing (λ i. eqb (ones i) (ones e)) e ∙ rw (eq-eqb (ones e) (ones e) refl)

order_same : (order e : ℕ) → (order ≡ ones e → ⊥) → length (of_order order (suc e)) ≡ length (of_order order e)
order_same order e d =
    length_passing (λ i. eqb (ones i) order) e ∙ rw (ne_eqb (ones e) order (λ p. d (sym p))) (omega arith)

order_more : (order a b : ℕ) → a ≤ b → length (of_order order a) ≤ length (of_order order b)
order_more order a b h = passing_more (λ i. eqb (ones i) order) a b h

place_within : (size e : ℕ) → e < size → place_of size e < length (scan_to size (suc (ones e)))
place_within size e h =
    let all = length_order size (ones e) in
    let one = order_next e in
    let few = order_more (ones e) (suc e) size h in
    omega arith

place_few : (size e : ℕ) → e < size → place_of size e < size
place_few size e h = omega (arith, place_within size e h, length_scan_to size (suc (ones e)))

lower_first : (size a b : ℕ) → a < size → ones a < ones b → place_of size a < place_of size b
lower_first size a b h o = omega (arith, place_within size a h, scan_more size (suc (ones a)) (ones b) o)

place_apart : (size a b : ℕ) → a < b → b < size → place_of size a ≡ place_of size b → ⊥
place_apart size a b h k p =
    let inside : a < size = omega arith in
    ⊎_elim
    (λ (l : ones a < ones b). omega (arith, lower_first size a b inside l))
    (λ (g : ones b ≤ ones a). ⊎_elim
    (λ (l : ones b < ones a). omega (arith, lower_first size b a k l))
    (λ (l : ones a ≤ ones b).
    let same : ones a ≡ ones b = omega arith in
    let q : place_of size a ≡ length (scan_to size (ones a)) + length (of_order (ones a) b) =
    p ∙ ap (λ (o : ℕ). length (scan_to size o) + length (of_order o b)) (sym same) in
    omega (arith, order_next a, order_more (ones a) (suc a) b h))
    (lt_or_ge (ones b) (ones a)))
    (lt_or_ge (ones a) (ones b))

-- ---- numbers raised by the indices of each order

pub record Raised (base : ℕ → ℕ) (e : ℕ) (l : List ℕ) : Type 0 where
  pub long : length l ≡ max_orders
  pub done : Tabulates max_orders (λ order. base order + length (of_order order e)) l

raised_none : (base : ℕ → ℕ) (l : List ℕ) → length l ≡ max_orders → Tabulates max_orders base l → Raised base 0 l
unfolding passing
raised_none base l e h = record { long = e; done = λ order k. h order k ∙ omega arith }

module _ {base : ℕ → ℕ} {e : ℕ} {l : List ℕ} (w : Raised base e l) (h : e < max_places) where
  raised_at : get_or l (ones e) 0 ≡ base (ones e) + length (of_order (ones e) e)
  raised_at = w.done (ones e) (order_within e h)

  raised_same : (k : ℕ) → k ≡ ones e → get_or (set l (ones e) (get_or l (ones e) 0 + 1)) k 0 ≡ base k + length (of_order k (e + 1))
  raised_same k own =
      let x = get_or l (ones e) 0 in
      let now : x ≡ base k + length (of_order k e) = raised_at ∙ ap (λ (i : ℕ). base i + length (of_order i e)) (sym own) in
      let more : length (of_order k (e + 1)) ≡ length (of_order k e) + 1 =
      ap₂ (λ (i j : ℕ). length (of_order i j)) own (add-one e) ∙ order_next e ∙ ap (λ (i : ℕ). length (of_order i e) + 1) (sym own) in
      let put : get_or (set l (ones e) (x + 1)) k 0 ≡ x + 1 =
      ap (λ (i : ℕ). get_or (set l (ones e) (x + 1)) i 0) own
      ∙ get_or-set_same l (ones e) (x + 1) 0 (omega (arith, order_within e h, w.long)) in
      put ∙ omega arith

  raised_other : (k v : ℕ) → k < max_orders → (k ≡ ones e → ⊥) → get_or (set l (ones e) v) k 0 ≡ base k + length (of_order k (e + 1))
  raised_other k v b d =
      let same : length (of_order k (e + 1)) ≡ length (of_order k e) = ap (λ (j : ℕ). length (of_order k j)) (add-one e) ∙ order_same k e d in
      get_or-set_other l (ones e) k v 0 d ∙ w.done k b ∙ ap (λ (i : ℕ). base k + i) (sym same)

  raised_next : Raised base (e + 1) (set l (ones e) (get_or l (ones e) 0 + 1))
  raised_next =
      let v = get_or l (ones e) 0 + 1 in
      record {
        long = length-set l (ones e) v ∙ w.long;
        done = λ k b. by_test (eqb k (ones e)) (λ t. raised_same k (eqb-true k (ones e) t)) (λ f. raised_other k v b (eqb-false k (ones e) f));
      }

-- ---- the first place of each order

pub record Summing (start : List ℕ) (order : ℕ) (l : List ℕ) : Type 0 where
  pub within : order ≤ max_orders
  pub long : length l ≡ max_orders
  pub done : (k : ℕ) → order ≤ k → k < max_orders → get_or l k 0 ≡ summed start k
  pub kept : (k : ℕ) → k < order → get_or l k 0 ≡ get_or start k 0

pub summing_none : (start : List ℕ) → length start ≡ max_orders → Summing start max_orders start
summing_none start e =
    record { within = omega arith; long = e; done = λ k (a : max_orders ≤ k) (b : k < max_orders). absurd (omega arith); kept = λ k h. refl }

summed_before : (l : List ℕ) (order : ℕ) → 0 < order → get_or l order 0 + get_or l (order - 1) 0 ≡ summed l order
summed_before l zero h = absurd (not-suc-le-zero h)
summed_before l (suc order) h = let e : suc order - 1 ≡ order = omega arith in ap (λ (x : ℕ). get_or l (suc order) 0 + get_or l x 0) e

module _ {start l : List ℕ} {order : ℕ} (w : Summing start order l) where
  pub summing_fits : 1 < order → Few start → Fits w64 (get_or l (order - 1) 0 + get_or l (order - 1 - 1) 0)
  summing_fits h few =
      let a = w.kept (order - 1) (omega arith) in
      let b = w.kept (order - 1 - 1) (omega arith) in
      omega (arith, few (order - 1) (omega (arith, w.within)), few (order - 1 - 1) (omega (arith, w.within)), places_fit)

  summed_at : 1 < order → get_or l (order - 1) 0 + get_or l (order - 1 - 1) 0 ≡ summed start (order - 1)
  summed_at h = ap₂ (λ (x y : ℕ). x + y) (w.kept (order - 1) (omega arith)) (w.kept (order - 1 - 1) (omega arith)) ∙ summed_before start (order - 1) (omega arith)

  pub summing_next : 1 < order → Summing start (order - 1) (set l (order - 1) (get_or l (order - 1) 0 + get_or l (order - 1 - 1) 0))
  summing_next h =
      let at = order - 1 in
      let v = get_or l (order - 1) 0 + get_or l (order - 1 - 1) 0 in
      record {
        within = omega (arith, w.within);
        long = length-set l at v ∙ w.long;
        done = λ k (a : order - 1 ≤ k) b.
            ⊎_elim
            (λ (p : order - 1 ≡ k).
            ap (λ (x : ℕ). get_or (set l at v) x 0) (sym p) ∙ get_or-set_same l at v 0 (omega (arith, w.within, w.long)) ∙ summed_at h ∙ ap (summed start) p)
            (λ (m : order - 1 < k). get_or-set_other l at k v 0 (λ (p : k ≡ order - 1). absurd (omega arith)) ∙ w.done k (omega arith) b)
            (eq-or-lt_of_le a);
        kept = λ k (a : k < order - 1). get_or-set_other l at k v 0 (λ (p : k ≡ order - 1). absurd (omega arith)) ∙ w.kept k (omega arith);
      }

  pub summing_all : order ≤ 1 → Tabulates max_orders (summed start) l
  summing_all h zero b = ⊎_elim (λ (k : 0 < order). w.kept zero k) (λ (k : order ≤ 0). w.done zero k b) (lt_or_ge zero order)
  summing_all h (suc k) b = w.done (suc k) (omega arith) b

pub record Starting (m : ℕ) (l : List ℕ) : Type 0 where
  pub done : Tabulates max_orders (λ order. length (scan_to (2 ^ m) order)) l

start_done : Tabulates max_orders (λ order. length (scan_to 1 order)) (set (replicate max_orders 1) 0 0)
unfolding scan_to
start_done zero h = get_or-set_same (replicate max_orders 1) 0 0 0 (omega (arith, length-replicate {A = ℕ} max_orders 1))
start_done (suc order) h =
    get_or-set_other (replicate max_orders 1) 0 (suc order) 0 0 (λ (e : suc order ≡ 0). absurd (omega arith))
    ∙ get_or-replicate max_orders (suc order) 1 0 h ∙ sym (length_one order)

pub starting_none : Starting 0 (set (replicate max_orders 1) 0 0)
starting_none = record { done = start_done }

module _ {m : ℕ} {l : List ℕ} (w : Starting m l) where
  pub starting_few : m ≤ max_inputs → Few l
  unfolding max_places
  starting_few few order b = omega (arith, w.done order b, length_scan_to (2 ^ m) order, pow_mono {i = m} {j = max_inputs} few)

  summed_start : (order : ℕ) → order < max_orders → summed l order ≡ length (scan_to (2 ^ (m + 1)) order)
  unfolding scan_to
  summed_start zero b = w.done zero b
  summed_start (suc order) b = ap₂ (λ (x y : ℕ). x + y) (w.done (suc order) b) (w.done order (omega arith)) ∙ sym (pascal m order)

  pub starting_next : {after : List ℕ} → Tabulates max_orders (summed l) after → Starting (m + 1) after
  starting_next s = record { done = λ order b. s order b ∙ summed_start order b }

-- ---- all indices

pub record Placing (size e : ℕ) (next places : List ℕ) : Type 0 where
  pub long : length places ≡ max_places
  pub raised : Raised (λ order. length (scan_to size order)) e next
  pub placed : (i : ℕ) → i < e → get_or places (place_of size i) 0 ≡ i

pub placing_none : (size : ℕ) (next places : List ℕ) → length next ≡ max_orders → length places ≡ max_places → Tabulates max_orders (λ order. length (scan_to size order)) next
    → Placing size 0 next places
placing_none size next places n e h =
    record {
      long = e;
      raised = raised_none (λ order. length (scan_to size order)) next n h;
      placed = λ i k. absurd (not-suc-le-zero k);
    }

module _ {size e : ℕ} {next places : List ℕ} (w : Placing size e next places) (few : size ≤ max_places) (h : e < size) where
  below : e < max_places
  below = omega arith

  placing_at : get_or next (ones e) 0 ≡ place_of size e
  placing_at = raised_at w.raised below

  pub placing_inside : get_or next (ones e) 0 < max_places
  placing_inside = omega (arith, placing_at, place_few size e h)

  pub placing_next : Placing size (e + 1) (set next (ones e) (get_or next (ones e) 0 + 1)) (set places (get_or next (ones e) 0) e)
  placing_next =
      let at = get_or next (ones e) 0 in
      record {
        long = length-set places at e ∙ w.long;
        raised = raised_next w.raised below;
        placed = λ i (k : i < e + 1).
            ⊎_elim
            (λ (b : i < e). get_or-set_other places at (place_of size i) e 0 (λ p. place_apart size i e b h (p ∙ placing_at)) ∙ w.placed i b)
            (λ (b : e ≤ i).
            let p : i ≡ e = omega arith in
            ap (λ (x : ℕ). get_or (set places at e) (place_of size x) 0) p
            ∙ ap (λ (x : ℕ). get_or (set places at e) x 0) (sym placing_at)
            ∙ get_or-set_same places at e 0 (omega (arith, placing_inside, w.long))
            ∙ sym p)
            (lt_or_ge i e);
      }

-- ---- the list that they make

module _ (size : ℕ) (places : List ℕ) (long : size ≤ length places) (placed : Placed size places) where
  -- one index more stands after a list, or not
  abbrev Starts : List ℕ → Type 0
  Starts l = take (length l) places ≡ l

  starts_more : (u : Bool) (l : List ℕ) (m : ℕ) → (u ≡ true → (length l < length places) × (get_or places (length l) 0 ≡ m)) → Starts l
      → Starts (l ++ cond u (m ∷ []) [])
  starts_more true l m h s =
      let one : length (l ++ (m ∷ [])) ≡ suc (length l) = omega (arith, length-append l (m ∷ [])) in
      ap (λ (x : ℕ). take x places) one ∙ take-suc places (length l) 0 (h refl).0
      ∙ ap₂ (λ (r : List ℕ) (x : ℕ). r ++ (x ∷ [])) s (h refl).1
  starts_more false l m h s = subst Starts (sym (append-nil l)) s

  abbrev up_to : ℕ → ℕ → List ℕ
  up_to order m = scan_to size order ++ of_order order m

  up_to_length : (order m : ℕ) → ones m ≡ order → length (up_to order m) ≡ place_of size m
  up_to_length order m e =
      length-append (scan_to size order) (of_order order m)
      ∙ ap (λ (x : ℕ). length (scan_to size x) + length (of_order x m)) (sym e)

  up_to_starts : (order m : ℕ) → m ≤ size → Starts (scan_to size order) → Starts (up_to order m)
  unfolding passing
  up_to_starts order zero h s = subst Starts (sym (append-nil (scan_to size order))) s
  up_to_starts order (suc m) h s =
      let u = eqb (ones m) order in
      subst Starts (append_assoc (scan_to size order) (of_order order m) (cond u (m ∷ []) []))
      (starts_more u (up_to order m) m
      (λ t.
      let e : length (up_to order m) ≡ place_of size m = up_to_length order m (eqb-true (ones m) order t) in
      (omega (arith, place_few size m h), ap (λ (x : ℕ). get_or places x 0) e ∙ placed m h))
      (up_to_starts order m (omega arith) s))

  scan_starts : (order : ℕ) → Starts (scan_to size order)
  unfolding scan_to
  scan_starts zero = refl
  scan_starts (suc order) = up_to_starts order size (le_refl size) (scan_starts order)

-- the number of indices as the code works it out
module _ {n size : ℕ} (few : n ≤ max_inputs) (answered : size ≡ table_size_of n) where
  sized : size ≡ 2 ^ n
  sized = table_size_exact (inputs_few few) answered

  pub size_few : size ≤ max_places
  unfolding max_places
  size_few = rw sized (pow_mono {i = n} {j = max_inputs} few)

  pub size_firsts : (l : List ℕ) → Tabulates max_orders (λ order. length (scan_to (2 ^ n) order)) l
      → Tabulates max_orders (λ order. length (scan_to size order)) l
  size_firsts l h order b = h order b ∙ ap (λ (x : ℕ). length (scan_to x order)) (sym sized)

  pub placed_listed : {places : List ℕ} → length places ≡ max_places → Placed size places → Listed (scan_order n) (2 ^ n) places
  placed_listed {places} e p =
      let counted : 2 ^ n ≡ length (scan_order n) = sym (length_all (2 ^ n) (n + 1) (λ i h. omega (arith, ones-le n i h))) in
      let room : 2 ^ n ≤ length places = omega (arith, size_few, sized, e) in
      record {
        counted = counted;
        done = ap (λ (x : ℕ). take x places) counted
            ∙ scan_starts (2 ^ n) places room (subst (λ (x : ℕ). Placed x places) sized p) (n + 1);
      }

  -- a number of places that follows from the size
  pub listed_sized : (f : ℕ → ℕ) {list places : List ℕ} → Listed list (f (2 ^ n)) places → Listed list (f size) places
  listed_sized f {list} {places} w = subst (λ (k : ℕ). Listed list (f k) places) (sym sized) w

pub listed_length : {list places : List ℕ} {count : ℕ} → Listed list count places → count ≡ length (take count places)
listed_length w = w.counted ∙ ap length (sym w.done)

pub listed_within : {list places : List ℕ} {count : ℕ} → Listed list count places → count ≤ length places
listed_within {list} {places} {count} w =
    let e : count ≡ length (take count places) = listed_length w in
    let h : length (take count places) ≡ min count (length places) = length-take count places in
    omega arith
