-- How long the lines of a report are (specs/Text.antt).
--
--   one_digit, two_digits, three_digits   a number below 10, 100, 1000 has at most so many digits
--   numbers_width                         so numbers below 1000 take at most four characters each
--   entry_width                           and an entry, of such an index and an output below 10, six
--   counts_width                          the line of counts
--   signature_width                       the line of a signature
--   circuits_width                        the lines of circuits 0 to c − 1
--   refused_width, alike_width            the line of a refusal, without and with a pair
use Prim.Native.Nat.{ℕ, zero, suc, ◌+◌, ◌*◌, ◌^◌, ◌≤◌, ◌<◌}
use native.Mathlib.Nat.{suc-mul}
use native.Mathlib.Omega.{arith}
use mathlib.Core.Path.{sym, subst}
use mathlib.Core.List.{List, Memᴰ}
use lib.ListN.{length, length-append}
use Rattle.tables.specs.declared.Counts.{Counts}
use Rattle.std.proofs.lemmas.Fmt.{length-decimal-le}
use Rattle.spectra.specs.Listed.{Entry}
use Rattle.report_text.specs.Text.{decimal, numbers_text, entry_text, inputs_word, gates_word, faults_word, signature_word, refused_word, alike_word, counts_line, signature_line, circuit_line, circuit_lines, refused_line, alike_line}
use Rattle.report_text.proofs.Decimals.{decimal_known}
use Rattle.report_text.proofs.Elements.{joined_width, numbers_joined, entries_joined}

-- ---- a number's digits

-- with the bound that the library's law takes
width : (most n : ℕ) → 0 < most → n < 10 ^ most → n < 2 ^ 64 → length (decimal n) ≤ most
width most n some few fits =
    subst (λ (d : List ℕ). length d ≤ most) (sym (decimal_known n fits)) (length-decimal-le most n some few fits)

pub one_digit : (n : ℕ) → n < 10 → length (decimal n) ≤ 1
one_digit n h = width 1 n (omega arith) h (omega arith)

pub two_digits : (n : ℕ) → n < 100 → length (decimal n) ≤ 2
two_digits n h = width 2 n (omega arith) h (omega arith)

pub three_digits : (n : ℕ) → n < 1000 → length (decimal n) ≤ 3
three_digits n h = width 3 n (omega arith) h (omega arith)

-- ---- the lines

pub numbers_width : (l : List ℕ) → ((v : ℕ) → Memᴰ v l → v < 1000) → length (numbers_text l) ≤ length l * 4
numbers_width l h = joined_width numbers_joined 4 l (λ v m. let digits = three_digits v (h v m) in omega arith)

entry_width : (e : Entry) → e.index < 1000 → e.output < 10 → length (entry_text e) ≤ 6
entry_width e i o =
    let index = three_digits e.index i in
    let output = one_digit e.output o in
    simp length-append (omega arith)

pub counts_width : (c : Counts) → c.inputs < 10 → c.gates < 100 → c.faults < 100 → length (counts_line c) ≤ 28
unfolding inputs_word gates_word faults_word
counts_width c n g f =
    let inputs = one_digit c.inputs n in
    let gates = two_digits c.gates g in
    let faults = two_digits c.faults f in
    simp length-append (omega arith)

pub signature_width : (l : List Entry) → ((e : Entry) → Memᴰ e l → (e.index < 1000) × (e.output < 10)) → length (signature_line l) ≤ 10 + length l * 6
unfolding signature_word
signature_width l h =
    let entries = joined_width entries_joined 6 l (λ e m. entry_width e (h e m).0 (h e m).1) in
    simp length-append (omega arith)

circuit_width : (c : ℕ) (numbers : List ℕ) → c < 100 → length (circuit_line c numbers) ≤ 3 + length (numbers_text numbers)
circuit_width c numbers h = let number = two_digits c h in simp length-append (omega arith)

pub circuits_width : (numbers : ℕ → List ℕ) (most count : ℕ) → count ≤ 100 → ((c : ℕ) → c < count → length (numbers_text (numbers c)) ≤ most)
    → length (circuit_lines numbers count) ≤ count * (3 + most)
unfolding circuit_lines
circuits_width numbers most zero h each = omega arith
circuits_width numbers most (suc count) h each =
    let before = circuits_width numbers most count (omega arith) (λ c l. each c (omega arith)) in
    let last = circuit_width count (numbers count) (omega arith) in
    let short = each count (omega arith) in
    let all = length-append (circuit_lines numbers count) (circuit_line count (numbers count)) in
    let more = suc-mul count (3 + most) in
    omega arith

pub refused_width : (i : ℕ) → i < 100 → length (refused_line i) ≤ 11
unfolding refused_word
refused_width i h = let number = two_digits i h in simp length-append (omega arith)

pub alike_width : (a b : ℕ) → a < 100 → b < 100 → length (alike_line a b) ≤ 17
unfolding alike_word
alike_width a b h k =
    let first = two_digits a h in
    let second = two_digits b k in
    simp length-append (omega arith)
