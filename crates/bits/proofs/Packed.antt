-- Laws of packed tables (specs/Packed.antt).
--
--   Table n f          the entries of f below n are 0 and 1
--   Bytes s            the elements of s are below 256
--   get_or_zeros       zeros behind a list change no element, where 0 stands past its end
--   length_bytes_to    so many bytes are asked for, so many there are
--   tabulate_more      one entry more
--   length_tabulate    the number of entries
--   tabulate_constant  copies of one entry
--   tabulate_at        the entries of a list of entries
--   tabulate_past      past its end stands 0
--   tabulate_list      a list is the list of its elements
--   tabulate_ext       lists of equal entries are equal
--   length_packed      the number of a packed table's bytes
--   packed_ext         packed tables of equal entries are equal
--   packed_bytes       the bytes of a packed table are below 256
--   packed_at          byte i of a packed table is the value of eight entries from entry 8 * i on, zeros past the last
--   packed_all         the entries of a packed table's bytes, with its spare bits
--   entry_packed       the entries of a packed table
--   packed_entries     equal packed tables have equal entries
--   entry_lt           an entry is 0 or 1
--   entry_digit        a digit of a byte is an entry
--   bytes_ext          bytes of equal entries are equal
--   packed_unique      bytes that have a table's entries, and spare bits 0, are the packed table
use Prim.Native.Nat.{ℕ, zero, suc, ◌+◌, ◌-◌, ◌*◌, ◌/◌, ◌%◌, ◌^◌, ◌≤◌, ◌<◌}
use native.Mathlib.Nat.{mod-eq_of_lt, pow-succ', zero-add, sub-zero, suc-sub-suc, not-suc-le-zero, le_of_suc-le-suc, eq-or-lt_of_le, add-mul, mul_assoc, add_assoc}
use native.Mathlib.Numerals.{add-one}
use native.Mathlib.Omega.{arith}
use mathlib.Core.Path.{◌≡◌, refl, sym, ap, ◌∙◌}
use mathlib.Core.List.{List, [], ◌∷◌, ◌++◌}
use mathlib.Core.Logic.{⊎_elim}
use lib.Arith.{digits_lt}
use Rattle.std.proofs.lemmas.List.{replicate-append-replicate}
use lib.ListN.{length, get_or, take, drop, replicate, length-append, length-take, get_or-append, get_or-eq_default}
use lib.Pow.{pow_pos, high}
use lib.Seq.{ext_get_or, get_or-take, get_or-drop, drop-drop, get_or-append_seam}
use Rattle.bits.specs.Bits.{value_from, bytes_to, bytes_of}
use Rattle.bits.specs.Packed.{tabulate, packed, entry}
use Rattle.bits.proofs.Below.{lt_or_ge}
use Rattle.bits.proofs.Digits.{digit_lt, digits_equal, digit_above}

-- ---- the number that a list of binary digits gives

value_from_add : (v : ℕ) (bits : List ℕ) → value_from v bits ≡ v * 2 ^ length bits + value_from 0 bits
unfolding value_from
value_from_add v [] = omega arith
value_from_add v (b ∷ bits) =
    rw (value_from_add (v * 2 + b) bits, value_from_add (0 + b) bits, zero-add, pow-succ', add-mul, mul_assoc, add_assoc)

value_cons : (b : ℕ) (bits : List ℕ) → value_from 0 (b ∷ bits) ≡ b * 2 ^ length bits + value_from 0 bits
unfolding value_from
value_cons b bits = rw zero-add (value_from_add b bits)

-- the elements of a list are binary digits; past its end stands 0
abbrev Binary : List ℕ → Type 0
Binary bits = (k : ℕ) → get_or bits k 0 < 2

binary_tail : (b : ℕ) (bits : List ℕ) → Binary (b ∷ bits) → Binary bits
binary_tail b bits h k = h (suc k)

value_lt : (bits : List ℕ) → Binary bits → value_from 0 bits < 2 ^ length bits
unfolding value_from
value_lt [] h = pow_pos 0
value_lt (b ∷ bits) h = rw (value_cons b bits, pow-succ') (digits_lt (h 0) (value_lt bits (binary_tail b bits h)))

value_digit : (bits : List ℕ) → Binary bits → (k : ℕ) → k < length bits → value_from 0 bits / 2 ^ (length bits - suc k) % 2 ≡ get_or bits k 0
value_digit [] h k l = absurd (not-suc-le-zero l)
value_digit (b ∷ bits) h zero l =
    rw (value_cons b bits, suc-sub-suc, sub-zero, high b (length bits) (value_lt bits (binary_tail b bits h))) (mod-eq_of_lt (h 0))
value_digit (b ∷ bits) h (suc k) l =
    rw (value_cons b bits, suc-sub-suc, digit_above (length bits) (length bits - suc k) b (value_from 0 bits) (omega arith))
    (value_digit bits (binary_tail b bits h) k (le_of_suc-le-suc l))

-- ---- bytes of a string of bits

past : (s : List ℕ) (n k : ℕ) → length s ≡ n → n ≤ k → get_or s k 0 ≡ 0
past s n k len h = get_or-eq_default s 0 {n = k} (omega arith)

-- eight bits from a place of a string on, zeros past its end
eight : List ℕ → List ℕ
eight bits = take 8 (bits ++ replicate 8 0)

length_eight : (bits : List ℕ) → length (eight bits) ≡ 8
unfolding eight
length_eight bits = simp (length-take, length-append) (omega arith)

zeros : (n k : ℕ) → ◌≡◌ {A = ℕ} (get_or (replicate n 0) k 0) 0
zeros zero k = refl
zeros (suc n) zero = refl
zeros (suc n) (suc k) = zeros n k

pub get_or_zeros : (bits : List ℕ) (n k : ℕ) → get_or (bits ++ replicate n 0) k 0 ≡ get_or bits k 0
get_or_zeros [] n k = zeros n k
get_or_zeros (b ∷ bits) n zero = refl
get_or_zeros (b ∷ bits) n (suc k) = get_or_zeros bits n k

at_eight : (bits : List ℕ) (k : ℕ) → k < 8 → get_or (eight bits) k 0 ≡ get_or bits k 0
unfolding eight
at_eight bits k h = get_or-take 8 (bits ++ replicate 8 0) k 0 h ∙ get_or_zeros bits 8 k

binary_eight : (bits : List ℕ) → Binary bits → Binary (eight bits)
binary_eight bits h k =
    ⊎_elim (λ l. rw (at_eight bits k l) (h k))
    (λ l. rw (past (eight bits) 8 k (length_eight bits) l) (omega arith)) (lt_or_ge k 8)

byte_lt : (bits : List ℕ) → Binary bits → value_from 0 (eight bits) < 256
byte_lt bits h = rw length_eight at (value_lt (eight bits) (binary_eight bits h))

byte_digit : (bits : List ℕ) → Binary bits → (k : ℕ) → k < 8 → value_from 0 (eight bits) / 2 ^ (7 - k) % 2 ≡ get_or bits k 0
byte_digit bits h k l =
    (let e : 7 - k ≡ 8 - suc k = omega arith in rw (e, ← length_eight bits))
    ∙ value_digit (eight bits) (binary_eight bits h) k (rw length_eight l) ∙ at_eight bits k l

binary_drop : (n : ℕ) (bits : List ℕ) → Binary bits → Binary (drop n bits)
binary_drop n bits h k = rw get_or-drop (h (n + k))

pub length_bytes_to : (n : ℕ) (bits : List ℕ) → length (bytes_to n bits) ≡ n
unfolding bytes_to
length_bytes_to zero bits = refl
length_bytes_to (suc n) bits = ap suc (length_bytes_to n (drop 8 bits))

byte_at : (n : ℕ) (bits : List ℕ) (i : ℕ) → i < n → get_or (bytes_to n bits) i 0 ≡ value_from 0 (eight (drop (8 * i) bits))
unfolding bytes_to eight
byte_at zero bits i h = absurd (not-suc-le-zero h)
byte_at (suc n) bits zero h = refl
byte_at (suc n) bits (suc i) h =
    byte_at n (drop 8 bits) i (le_of_suc-le-suc h)
    ∙ (let e : 8 + 8 * i ≡ 8 * suc i = omega arith in rw (drop-drop, e))

bytes_to_bytes : (n : ℕ) (bits : List ℕ) → Binary bits → (i : ℕ) → get_or (bytes_to n bits) i 0 < 256
bytes_to_bytes n bits h i =
    ⊎_elim (λ l. rw (byte_at n bits i l) (byte_lt (drop (8 * i) bits) (binary_drop (8 * i) bits h)))
    (λ l. rw (past (bytes_to n bits) n i (length_bytes_to n bits) l) (omega arith)) (lt_or_ge i n)

-- entries inside the string are its bits, and those past its end are 0
entry_bytes_to : (n : ℕ) (bits : List ℕ) → Binary bits → (m : ℕ) → m < 8 * n → entry (bytes_to n bits) m ≡ get_or bits m 0
unfolding entry
entry_bytes_to n bits h m l =
    ap (λ (x : ℕ). x / 2 ^ (7 - m % 8) % 2) (byte_at n bits (m / 8) (omega arith))
    ∙ byte_digit (drop (8 * (m / 8)) bits) (binary_drop (8 * (m / 8)) bits h) (m % 8) (omega arith)
    ∙ get_or-drop (8 * (m / 8)) bits (m % 8) 0 ∙ (let e : 8 * (m / 8) + m % 8 ≡ m = omega arith in rw e)

-- ---- the entries of a table

pub tabulate_more : (n : ℕ) (f : ℕ → ℕ) → tabulate (n + 1) f ≡ tabulate n f ++ (f n ∷ [])
unfolding tabulate
tabulate_more n f = rw add-one

pub length_tabulate : (n : ℕ) (f : ℕ → ℕ) → length (tabulate n f) ≡ n
unfolding tabulate
length_tabulate zero f = refl
length_tabulate (suc n) f = rw (length-append, length_tabulate n f) (add-one n)

pub tabulate_constant : (n x : ℕ) → tabulate n (λ i. x) ≡ replicate n x
unfolding tabulate
tabulate_constant zero x = refl
tabulate_constant (suc n) x = ap (λ (l : List ℕ). l ++ (x ∷ [])) (tabulate_constant n x) ∙ replicate-append-replicate n 1 x ∙ ap (λ (k : ℕ). replicate k x) (add-one n)

pub tabulate_at : (n : ℕ) (f : ℕ → ℕ) (m : ℕ) → m < n → get_or (tabulate n f) m 0 ≡ f m
unfolding tabulate
tabulate_at zero f m h = absurd (not-suc-le-zero h)
tabulate_at (suc n) f m h =
    ⊎_elim
    (λ e. rw e (ap (λ (i : ℕ). get_or (tabulate n f ++ (f n ∷ [])) i 0) (sym (length_tabulate n f)) ∙ get_or-append_seam (tabulate n f) (f n) [] 0))
    (λ l. get_or-append (tabulate n f) (f n ∷ []) 0 m (rw length_tabulate l) ∙ tabulate_at n f m l)
    (eq-or-lt_of_le (le_of_suc-le-suc h))

pub tabulate_list : (l : List ℕ) → tabulate (length l) (λ i. get_or l i 0) ≡ l
tabulate_list l =
    let len : length (tabulate (length l) (λ i. get_or l i 0)) ≡ length l = length_tabulate (length l) (λ i. get_or l i 0) in
    ext_get_or 0 (tabulate (length l) (λ i. get_or l i 0)) l len (λ i h. tabulate_at (length l) (λ i. get_or l i 0) i (omega arith))

pub tabulate_past : (n : ℕ) (f : ℕ → ℕ) (m : ℕ) → n ≤ m → get_or (tabulate n f) m 0 ≡ 0
tabulate_past n f m h = past (tabulate n f) n m (length_tabulate n f) h

pub tabulate_ext : (n : ℕ) (f g : ℕ → ℕ) → ((m : ℕ) → m < n → f m ≡ g m) → tabulate n f ≡ tabulate n g
unfolding tabulate
tabulate_ext zero f g h = refl
tabulate_ext (suc n) f g h = rw (tabulate_ext n f g (λ m l. h m (omega arith)), h n (omega arith))

-- the entries are binary digits
abbrev pub Table : ℕ → (ℕ → ℕ) → Type 0
Table n f = (m : ℕ) → m < n → f m < 2

binary_tabulate : (n : ℕ) (f : ℕ → ℕ) → Table n f → Binary (tabulate n f)
binary_tabulate n f h m =
    ⊎_elim (λ l. rw (tabulate_at n f m l) (h m l)) (λ l. rw (tabulate_past n f m l) (omega arith)) (lt_or_ge m n)

-- ---- packed tables

pub length_packed : (n : ℕ) (f : ℕ → ℕ) → length (packed n f) ≡ (n + 7) / 8
unfolding packed bytes_of
length_packed n f = length_bytes_to ((length (tabulate n f) + 7) / 8) (tabulate n f) ∙ rw length_tabulate

pub packed_ext : (n : ℕ) (f g : ℕ → ℕ) → ((m : ℕ) → m < n → f m ≡ g m) → packed n f ≡ packed n g
unfolding packed
packed_ext n f g h = ap bytes_of (tabulate_ext n f g h)

pub packed_bytes : (n : ℕ) (f : ℕ → ℕ) → Table n f → (i : ℕ) → get_or (packed n f) i 0 < 256
unfolding packed bytes_of
packed_bytes n f h i = bytes_to_bytes ((length (tabulate n f) + 7) / 8) (tabulate n f) (binary_tabulate n f h) i

eight_tabulate : (bits : List ℕ) (first : ℕ) → eight (drop first bits) ≡ tabulate 8 (λ t. get_or bits (first + t) 0)
eight_tabulate bits first =
    let len : length (eight (drop first bits)) ≡ 8 = length_eight (drop first bits) in
    ext_get_or 0 (eight (drop first bits)) (tabulate 8 (λ t. get_or bits (first + t) 0)) (len ∙ sym (length_tabulate 8 (λ t. get_or bits (first + t) 0)))
    (λ t h. let l : t < 8 = omega arith in
    at_eight (drop first bits) t l ∙ get_or-drop first bits t 0 ∙ sym (tabulate_at 8 (λ t. get_or bits (first + t) 0) t l))

pub packed_at : (n : ℕ) (f : ℕ → ℕ) (i : ℕ) → i < (n + 7) / 8 → get_or (packed n f) i 0 ≡ value_from 0 (tabulate 8 (λ t. get_or (tabulate n f) (8 * i + t) 0))
unfolding packed bytes_of
packed_at n f i h =
    byte_at ((length (tabulate n f) + 7) / 8) (tabulate n f) i (rw length_tabulate h) ∙ ap (value_from 0) (eight_tabulate (tabulate n f) (8 * i))

pub packed_all : (n : ℕ) (f : ℕ → ℕ) → Table n f → (m : ℕ) → m < 8 * ((n + 7) / 8) → entry (packed n f) m ≡ get_or (tabulate n f) m 0
unfolding packed bytes_of
packed_all n f h m l = entry_bytes_to ((length (tabulate n f) + 7) / 8) (tabulate n f) (binary_tabulate n f h) m (rw length_tabulate l)

pub entry_packed : (n : ℕ) (f : ℕ → ℕ) → Table n f → (m : ℕ) → m < n → entry (packed n f) m ≡ f m
entry_packed n f h m l = packed_all n f h m (omega arith) ∙ tabulate_at n f m l

pub packed_entries : (n : ℕ) (f g : ℕ → ℕ) → Table n f → Table n g → packed n f ≡ packed n g → (m : ℕ) → m < n → f m ≡ g m
packed_entries n f g hf hg e m l = sym (entry_packed n f hf m l) ∙ ap (λ (s : List ℕ). entry s m) e ∙ entry_packed n g hg m l

-- ---- bytes by their entries

-- every element of a list is a byte
abbrev pub Bytes : List ℕ → Type 0
Bytes s = (i : ℕ) → get_or s i 0 < 256

pub entry_lt : (s : List ℕ) (m : ℕ) → entry s m < 2
unfolding entry
entry_lt s m = digit_lt (get_or s (m / 8) 0) (7 - m % 8)

pub entry_digit : (s : List ℕ) (i k : ℕ) → k < 8 → entry s (i * 8 + (7 - k)) ≡ get_or s i 0 / 2 ^ k % 2
unfolding entry
entry_digit s i k h =
    let e : (i * 8 + (7 - k)) / 8 ≡ i = omega arith in
    let d : 7 - (i * 8 + (7 - k)) % 8 ≡ k = omega arith in rw (e, d)

pub bytes_ext : (s t : List ℕ) → Bytes s → Bytes t → length s ≡ length t → ((m : ℕ) → m < 8 * length s → entry s m ≡ entry t m) → s ≡ t
bytes_ext s t hs ht len same =
    ext_get_or 0 s t len
    (λ i l. digits_equal 8 (get_or s i 0) (get_or t i 0) (hs i) (ht i)
    (λ k h. sym (entry_digit s i k h) ∙ same (i * 8 + (7 - k)) (omega arith) ∙ entry_digit t i k h))

pub packed_unique : (n : ℕ) (f : ℕ → ℕ) (s : List ℕ) → length s ≡ (n + 7) / 8 → Bytes s → ((m : ℕ) → m < n → entry s m ≡ f m)
    → ((m : ℕ) → n ≤ m → m < 8 * length s → entry s m ≡ 0) → s ≡ packed n f
packed_unique n f s len bytes inside spare = bytes_ext s (packed n f) bytes (packed_bytes n f table) (len ∙ sym (length_packed n f)) same
  where
    table : Table n f
    table m h = rw (inside m h) at (entry_lt s m)

    same : (m : ℕ) → m < 8 * length s → entry s m ≡ entry (packed n f) m
    same m h =
        ⊎_elim (λ l. inside m l ∙ sym (tabulate_at n f m l)) (λ l. spare m l h ∙ sym (tabulate_past n f m l)) (lt_or_ge m n)
        ∙ sym (packed_all n f table m (rw len at h))
