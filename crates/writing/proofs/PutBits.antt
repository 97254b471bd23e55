-- Laws of putting bits into lent bytes (specs/Pen.antt).
--
--   puts_none     putting no bits
--   puts_then     putting bits, and then more
--   room_front    room for bits is room for the first of them
--   room_after    with the first of them put, there is room for the others
--   room_end      with all of them put, there is room for none
--   waiting_lt    the waiting bits with a field behind them fit their number
--   inside        a field that fills the byte has its byte
--   byte_fits     the byte that a field fills is a byte
--   puts_waiting  a field that does not fill the byte waits with the bits before it
--   puts_byte     a field that fills the byte: the byte is put, and what is over waits
--   spare_fits, spare_put, spare_none   the last byte filled up, where bits wait and where none do
--   start_room    memory that holds the bytes of bits has room for them from its start on
--   start_filled  bits put from the start on fill the start of the memory with their bytes, and no more
use Prim.Native.Nat.{ℕ, suc, ◌+◌, ◌*◌, ◌-◌, ◌/◌, ◌%◌, ◌^◌, ◌≤◌, ◌<◌}
use mathlib.Core.Path.{◌≡◌, refl, sym, ap, ap₂, ◌∙◌, subst}
use mathlib.Core.Logic.{⊎_elim}
use mathlib.Core.List.{List, [], ◌∷◌, ◌++◌, append_assoc, append-nil}
use native.Mathlib.Nat.{add-zero, le_refl}
use native.Mathlib.Numerals.{add-one}
use native.Mathlib.Omega.{arith}
use lib.Arith.{digits_lt}
use lib.ListN.{length, take, drop, set, length-append, length-set, length-take, take-append-drop, get_or-eq_default}
use lib.Pow.{pow-add, shl_exact, shl_lt, shr_lt}
use lib.Seq.{drop-drop, take-suc-set, drop-set-lt, set_split, take-take, length-take-le, get_or-take}
use Rattle.std.proofs.lemmas.List.{take-append-le}
use Rattle.bits.specs.Bits.{bits_of, string_of, bytes_to, bytes_of}
use Rattle.bits.proofs.Bits.{length_bits_of, bits_of_split, bits_of_mod, bits_of_join}
use Rattle.bits.proofs.Below.{lt_or_ge}
use Rattle.bits.proofs.Bytes.{string_of_append, length_bytes_of, bytes_of_string, bytes_of_last}
use Rattle.bits.proofs.Packed.{Bytes}
use Rattle.bits.proofs.Fields.{shift_exact}
use Rattle.writing.specs.Pen.{inked, inked_bytes, filled, HasRoom, Puts}
use Rattle.writing.specs.declared.pen.Pen.{Pen}

pub puts_none : {p : Pen} → Puts p [] p
puts_none {p} =
    record { same_memory = refl; place = sym (add-zero (p.at * 8 + p.count)); long = refl; text = sym (append-nil (inked p)); rest = refl }

-- what stands behind a place stands behind each later place
drop_later : (a b : List ℕ) (i j : ℕ) → i ≤ j → drop i a ≡ drop i b → drop j a ≡ drop j b
drop_later a b i j h e =
    let k : i + (j - i) ≡ j = omega arith in
    ap (λ (n : ℕ). drop n a) (sym k) ∙ sym (drop-drop (j - i) i a) ∙ ap (drop (j - i)) e ∙ drop-drop (j - i) i b ∙ ap (λ (n : ℕ). drop n b) k

pub puts_then : {p q r : Pen} {b d : List ℕ} → Puts p b q → Puts q d r → Puts p (b ++ d) r
puts_then {p} {q} {r} {b} {d} x y =
    let h : q.at ≤ r.at = let few = q.few in omega arith in
    record {
      same_memory = y.same_memory ∙ x.same_memory;
      place = simp length-append (omega arith);
      long = y.long ∙ x.long;
      text = y.text ∙ ap (λ (l : List ℕ). l ++ d) x.text ∙ append_assoc (inked p) b d;
      rest = y.rest ∙ drop_later q.out.now p.out.now q.at r.at h x.rest;
    }

pub room_front : {p : Pen} (b d : List ℕ) → HasRoom p (b ++ d) → HasRoom p b
room_front b d r = record { room = let e = length-append b d in omega arith }

pub room_after : {p q : Pen} {b : List ℕ} (d : List ℕ) → HasRoom p (b ++ d) → Puts p b q → HasRoom q d
room_after {b = b} d r x = record { room = let e = length-append b d in omega arith }

pub room_end : {p q : Pen} {bits : List ℕ} → HasRoom p bits → Puts p bits q → HasRoom q []
room_end r x = record { room = omega arith }

-- what putting a field of at most a byte takes: `waiting` and `count` are the waiting bits with the field behind them, as the code has them
module _ {p : Pen} (w v : ℕ) (room : HasRoom p (bits_of w v)) (small : w ≤ 8) (fits : v < 2 ^ w) where
  few_waiting : p.count < 8
  few_waiting = p.few

  abbrev waiting : ℕ
  waiting = (p.waiting * 2 ^ w) % 18446744073709551616 + v

  abbrev count : ℕ
  count = p.count + w

  abbrev over : ℕ
  over = count - 8

  waiting_exact : waiting ≡ p.waiting * 2 ^ w + v
  waiting_exact = ap (λ (x : ℕ). x + v) (shl_exact p.count w 64 p.fits (let few = few_waiting in omega arith))

  pub waiting_lt : waiting < 2 ^ count
  waiting_lt = rw (waiting_exact, pow-add 2 p.count w) (digits_lt p.fits fits)

  pub inside : 8 ≤ count → p.at < length p.out.now
  inside h = omega (arith, length_bits_of w v)

  over_exact : (1 * 2 ^ over) % 18446744073709551616 ≡ 2 ^ over
  over_exact = shift_exact over (let few = few_waiting in omega arith)

  pub byte_fits : 8 ≤ count → waiting / 2 ^ over < 2 ^ 8
  byte_fits h = let e : 8 + over ≡ count = omega arith in shr_lt 8 over (rw e waiting_lt)

  waiting_bits : bits_of count waiting ≡ bits_of p.count p.waiting ++ bits_of w v
  waiting_bits = ap (bits_of count) waiting_exact ∙ bits_of_join p.count w p.waiting v fits

  pub puts_waiting : {few : count < 8} {fits : waiting < 2 ^ count} → Puts p (bits_of w v) (record { out = p.out; at = p.at; waiting = waiting; count = count; few = few; fits = fits })
  unfolding inked
  puts_waiting =
      record {
        same_memory = refl;
        place = simp length_bits_of (omega arith);
        long = refl;
        text = ap (λ (l : List ℕ). string_of (take p.at p.out.now) ++ l) waiting_bits ∙ sym (append_assoc (string_of (take p.at p.out.now)) (bits_of p.count p.waiting) (bits_of w v));
        rest = refl;
      }

  byte_text : 8 ≤ count → string_of (take (p.at + 1) (set p.out.now p.at (waiting / 2 ^ over))) ++ bits_of over (waiting % 2 ^ over) ≡ (string_of (take p.at p.out.now) ++ bits_of p.count p.waiting) ++ bits_of w v
  unfolding string_of
  byte_text h =
      let byte = waiting / 2 ^ over in
      let before = string_of (take p.at p.out.now) in
      let whole : 8 + over ≡ count = omega arith in
      ap (λ (l : List ℕ). string_of l ++ bits_of over (waiting % 2 ^ over)) (ap (λ (n : ℕ). take n (set p.out.now p.at byte)) (add-one p.at) ∙ take-suc-set p.out.now p.at byte (inside h))
      ∙ ap₂ (λ (l m : List ℕ). l ++ m) (string_of_append (take p.at p.out.now) (byte ∷ [])) (sym (bits_of_mod over waiting))
      ∙ append_assoc before (bits_of 8 byte ++ []) (bits_of over waiting)
      ∙ ap (λ (l : List ℕ). before ++ l) (ap (λ (l : List ℕ). l ++ bits_of over waiting) (append-nil (bits_of 8 byte)) ∙ sym (bits_of_split 8 over waiting) ∙ ap (λ (n : ℕ). bits_of n waiting) whole ∙ waiting_bits)
      ∙ sym (append_assoc before (bits_of p.count p.waiting) (bits_of w v))

  pub puts_byte : 8 ≤ count
      → {few : over < 8} {fits : waiting % ((1 * 2 ^ over) % 18446744073709551616) < 2 ^ over}
      → Puts p (bits_of w v)
      (record {
        out = record p.out { now = set p.out.now p.at (waiting / 2 ^ over) };
        at = p.at + 1;
        waiting = waiting % ((1 * 2 ^ over) % 18446744073709551616);
        count = over;
        few = few;
        fits = fits;
      })
  unfolding inked
  puts_byte h =
      record {
        same_memory = refl;
        place = simp length_bits_of (omega arith);
        long = length-set p.out.now p.at (waiting / 2 ^ over);
        text = rw over_exact (byte_text h);
        rest = drop-set-lt (p.at + 1) p.out.now p.at (waiting / 2 ^ over) (omega arith);
      }

-- The last byte is filled up: `spare` is the waiting bits at its top, as the code has them.
module _ {p : Pen} (room : HasRoom p []) where
  few_left : p.count < 8
  few_left = p.few

  abbrev spare : ℕ
  spare = (p.waiting * 2 ^ (8 - p.count)) % 18446744073709551616

  spare_exact : spare ≡ p.waiting * 2 ^ (8 - p.count)
  spare_exact = shl_exact p.count (8 - p.count) 64 p.fits (let few = few_left in omega arith)

  pub spare_fits : spare < 2 ^ 8
  spare_fits = let e : p.count + (8 - p.count) ≡ 8 = let few = few_left in omega arith in rw spare_exact (rw e at (shl_lt p.count (8 - p.count) p.fits))

  spare_inside : 0 < p.count → p.at < length p.out.now
  spare_inside h = omega arith

  whole : length (take p.at p.out.now) ≡ p.at
  whole = length-take-le p.at p.out.now (omega arith)

  pub spare_put : 0 < p.count → set p.out.now p.at spare ≡ filled (inked_bytes p) p.out.now
  unfolding inked_bytes
  spare_put h =
      set_split p.out.now p.at spare (spare_inside h)
      ∙ sym (append_assoc (take p.at p.out.now) (spare ∷ []) (drop (suc p.at) p.out.now))
      ∙ ap (λ (n : ℕ). (take p.at p.out.now ++ (spare ∷ [])) ++ drop n p.out.now) (sym (length-append (take p.at p.out.now) (spare ∷ []) ∙ ap (λ (n : ℕ). n + 1) whole ∙ add-one p.at))
      ∙ ap (λ (l : List ℕ). filled (take p.at p.out.now ++ l) p.out.now) (ap (λ (x : ℕ). x ∷ []) spare_exact ∙ sym (bytes_of_last p.count p.waiting h p.few p.fits))

  pub spare_none : p.count ≤ 0 → p.out.now ≡ filled (inked_bytes p) p.out.now
  unfolding inked_bytes bytes_of bytes_to bits_of
  spare_none h =
      let none : p.count ≡ 0 = omega arith in
      sym (take-append-drop p.at p.out.now)
      ∙ ap (λ (n : ℕ). take p.at p.out.now ++ drop n p.out.now) (sym whole)
      ∙ ap (λ (l : List ℕ). filled l p.out.now) (sym (append-nil (take p.at p.out.now)))
      ∙ ap (λ (n : ℕ). filled (take p.at p.out.now ++ bytes_of (bits_of n p.waiting)) p.out.now) (sym none)

bytes_take : (n : ℕ) (s : List ℕ) → Bytes s → Bytes (take n s)
bytes_take n s h i =
    ⊎_elim (λ (l : i < n). rw (get_or-take n s i 0 l) (h i))
    (λ (l : n ≤ i). rw (get_or-eq_default (take n s) 0 {n = i} (simp length-take (omega arith))) (omega arith)) (lt_or_ge i n)

-- Bits put from the start of the memory on.
module _ {p : Pen} {out : List ℕ} (whole : (p.out.now ≡ out) × (p.at ≡ 0) × (p.count ≡ 0)) where
  pub start_room : (bits : List ℕ) → length (bytes_of bits) ≤ length out → HasRoom p bits
  start_room bits h =
      let e = length_bytes_of bits in
      let same = ap length whole.0 in
      record { room = omega (arith, whole.1, whole.2) }

  pub start_filled : {q : Pen} {bits after : List ℕ} → Puts p bits q → HasRoom q [] → after ≡ filled (inked_bytes q) q.out.now → Bytes after → after ≡ filled (bytes_of bits) out
  unfolding inked inked_bytes string_of bits_of
  start_filled {q} {bits} {after} x room last bytes =
      let front : take q.at after ≡ take q.at q.out.now =
      ap (take q.at) last
      ∙ ap (take q.at) (append_assoc (take q.at q.out.now) (bytes_of (bits_of q.count q.waiting)) (drop (length (inked_bytes q)) q.out.now))
      ∙ take-append-le q.at (take q.at q.out.now) (bytes_of (bits_of q.count q.waiting) ++ drop (length (inked_bytes q)) q.out.now) (omega (arith, length-take q.at q.out.now))
      ∙ take-take q.at q.at q.out.now (le_refl q.at)
      in
      let blank : inked p ≡ [] = rw (whole.1, whole.2) refl in
      let e : inked_bytes q ≡ bytes_of bits =
      sym (bytes_of_string (take q.at q.out.now) (bits_of q.count q.waiting) (subst Bytes front (bytes_take q.at after bytes))) ∙ ap bytes_of (x.text ∙ ap (λ (l : List ℕ). l ++ bits) blank)
      in
      let far : q.at ≤ length (bytes_of bits) = simp length_bytes_of (omega (arith, whole.1, whole.2)) in
      last
      ∙ ap (λ (l : List ℕ). filled l q.out.now) e
      ∙ ap (λ (l : List ℕ). bytes_of bits ++ l) (drop_later q.out.now p.out.now q.at (length (bytes_of bits)) far x.rest)
      ∙ ap (λ (l : List ℕ). filled (bytes_of bits) l) whole.0
