-- Believed: the operations on spectra (document 01, "Refusal by operation").
--
--   table_ok         12: a packed table of n inputs has (N+7) div 8 bytes and spare bits 0
--   polarity_ok      13
--   at               number j of a list
--   tables_ok        12, of the tables of counted circuits that stand one after the other
--   tables_checked   2 and 12 of these
--   from_tables      an operation on listed circuits, from their tables
--   filled_from      the spectra of listed circuits
--   spectrum_of      the spectrum of one table
--   undone_of        the table of a spectrum; specs/Undoing.antt says what it is
use Rattle.std.specs.Prelude.{ℕ, zero, suc, ◌+◌, ◌-◌, ◌*◌, ◌^◌, Bool, true, false, ◌&&◌, List, [], ◌∷◌, leb, ltb, eqb, length, get_or, take, drop}
use Rattle.bits.specs.Answer.{Answer, Fills, unless, onward}
use Rattle.bits.specs.Answer.Answer.{gives}
use Rattle.bits.specs.Packed.{entry, packed}
use Rattle.job.specs.Check.{inputs_ok}
use Rattle.job.specs.Layout.{max_outputs, max_faults}
use Rattle.bits.specs.Sizes.{table_bytes}
use Rattle.tables.specs.Family.{Family}
use Rattle.tables.specs.Operations.{part_in}
use Rattle.tables.specs.declared.Counts.{Counts}
use Rattle.spectra.specs.Listed.{family_spectra, places}
use Rattle.spectra.specs.Spectrum.{spectrum, recovered}
use Rattle.spectra.specs.declared.Kind.{Kind}

-- so many entries from entry m on are 0
unfoldable pub zero_from : ℕ → ℕ → List ℕ → Bool
zero_from zero m s = true
zero_from (suc left) m s = eqb (entry s m) 0 && zero_from left (suc m) s

-- "12, table length not (N+7) div 8 or a spare bit 1": the spare bits are those from entry N on
unfoldable pub table_ok : ℕ → List ℕ → Bool
table_ok n s = eqb (length s) (table_bytes n) && zero_from (table_bytes n * 8 - 2 ^ n) (2 ^ n) s

-- "13, polarity not below N"
abbrev pub polarity_ok : ℕ → ℕ → Bool
polarity_ok n k = ltb k (2 ^ n)

abbrev pub at : List ℕ → ℕ → ℕ
at numbers j = get_or numbers j 0

-- row r of tables that stand one after the other
abbrev pub table_row : ℕ → List ℕ → ℕ → List ℕ
table_row n s r = take (table_bytes n) (drop (r * table_bytes n) s)

-- rows 0 to r − 1 are tables
unfoldable pub rows_ok : ℕ → List ℕ → ℕ → Bool
rows_ok n s zero = true
rows_ok n s (suc r) = rows_ok n s r && table_ok n (table_row n s r)

-- a table for each circuit and each output
abbrev pub rows_in : Counts → ℕ
rows_in counts = (counts.faults + 1) * counts.outputs

-- so many rows, each a table
abbrev pub all_rows_ok : ℕ → ℕ → List ℕ → Bool
all_rows_ok n rows s = eqb (length s) (rows * table_bytes n) && rows_ok n s rows

-- 12 of the tables of counted circuits, circuit after circuit, output after output: no more faults and outputs than a job may have, and as many rows
unfoldable pub tables_ok : Counts → List ℕ → Bool
tables_ok counts s =
    leb counts.faults max_faults && (leb 1 counts.outputs && (leb counts.outputs max_outputs && all_rows_ok counts.inputs (rows_in counts) s))

-- 2; 12
unfoldable pub tables_checked : Counts → List ℕ → Answer (Unit {0})
tables_checked counts s =
    unless (inputs_ok counts.inputs) 2
    (unless (tables_ok counts s) 12
    (gives tt))

-- these tables as a family
abbrev pub table_family : Counts → List ℕ → Family
table_family counts s =
    record {
      inputs = counts.inputs;
      circuits = counts.faults + 1;
      outputs = counts.outputs;
      part = part_in counts.parts;
      entry = λ c o m. entry (table_row counts.inputs s (c * counts.outputs + o)) m;
    }

-- an operation on listed circuits, from their counts and their tables
abbrev pub from_tables : {A : Type 0} → Counts → List ℕ → (Family → Answer A) → Answer A
from_tables counts s go = onward (tables_checked counts s) (λ _. go (table_family counts s))

-- the spectra of listed circuits: 13; 10, fewer than (f+1) × outputs × N places
unfoldable pub filled_from : Family → Kind → ℕ → ℕ → Answer (Fills (Unit {0}))
filled_from F kind k room =
    unless (polarity_ok F.inputs k) 13
    (unless (leb (places F) room) 10
    (gives (record { value = tt; filled = family_spectra kind k F })))

-- "Spectrum of a table: 2, then 12 .., then 13 .., then 10, fewer than N places"
unfoldable pub spectrum_of : ℕ → List ℕ → Kind → ℕ → ℕ → Answer (Fills (Unit {0}))
spectrum_of n s kind k room =
    unless (inputs_ok n) 2
    (unless (table_ok n s) 12
    (unless (polarity_ok n k) 13
    (unless (leb (2 ^ n) room) 10
    (gives (record { value = tt; filled = spectrum kind n k (entry s) })))))

unfoldable pub same_numbers : List ℕ → List ℕ → Bool
same_numbers [] [] = true
same_numbers [] (y ∷ ys) = false
same_numbers (x ∷ xs) [] = false
same_numbers (x ∷ xs) (y ∷ ys) = eqb x y && same_numbers xs ys

-- "Undoing accepts exactly the spectra of some table": only the recovered table can have these numbers, so it is transformed anew and compared
unfoldable pub is_spectrum : Kind → ℕ → ℕ → List ℕ → Bool
is_spectrum kind n k numbers = same_numbers numbers (spectrum kind n k (recovered n k (at numbers)))

-- how the table is found, as the code does it; what document 01 says of it stands in specs/Undoing.antt, and is proved of this:
-- "Undoing a spectrum: 2; 13; 14, not exactly N numbers or no table has this spectrum; 10."
unfoldable pub undone_of : ℕ → List ℕ → Kind → ℕ → ℕ → Answer (Fills (Unit {0}))
undone_of n numbers kind k room =
    unless (inputs_ok n) 2
    (unless (polarity_ok n k) 13
    (unless (is_spectrum kind n k numbers) 14
    (unless (leb (table_bytes n) room) 10
    (gives (record { value = tt; filled = packed (2 ^ n) (recovered n k (at numbers)) })))))
