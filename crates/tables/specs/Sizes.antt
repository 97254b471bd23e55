-- Kept by the code: the size of packed tables, the polynomials of the kinds of gates, and tables side by side.
--
--   shape_of       the inputs, the bytes, and the bits of each byte that are entries
--   shape_within   so, with no bytes where no word holds the number of entries
--   Room           there is room for a table at a place
--   Space          so for tables side by side
--   Below          there is room for a table at a place, and two tables stand before it
--   no_polynomial, Formed   the polynomials of the kinds of gates
--   fixed_row      the table that a fault gives the lines that it fixes, from the rows of the good circuit
use Rattle.std.specs.Prelude.{ℕ, ◌+◌, ◌*◌, ◌^◌, ◌≤◌, ◌<◌, ◌≡◌, List, length, get_or}
use Rattle.bits.specs.Packed.{packed, entry}
use Rattle.job.specs.Record.{level_number}
use Rattle.job.specs.declared.Fault.{Fault}
use Rattle.job.specs.declared.Fault.TheVariants.{Stuck, Bridge}
use Rattle.gates.specs.Polynomial.{mask_of, kind_polynomial}
use Rattle.bits.specs.Sizes.{table_bytes, table_bytes_of}
use Rattle.bits.specs.Slices.{slice}
use Rattle.gates.specs.Values.{bridged}
use Rattle.gates.specs.declared.Polynomial.{Polynomial}
use Rattle.tables.specs.declared.rows.Shape.{Shape}

abbrev pub shape_of : ℕ → Shape
shape_of n = record { inputs = n; bytes = table_bytes n; mask = mask_of n }

abbrev pub shape_within : ℕ → Shape
shape_within n = record { inputs = n; bytes = table_bytes_of n; mask = mask_of n }

pub record Room (shape : Shape) (to : ℕ) (rows : List ℕ) : Type 0 where
  pub shaped : shape ≡ shape_of shape.inputs
  pub room : to + shape.bytes ≤ length rows

-- three inputs change within a byte, and eight with the lowest bits of a byte's number
pub record Space (shape : Shape) (to count : ℕ) (rows : List ℕ) : Type 0 where
  pub shaped : shape ≡ shape_of shape.inputs
  pub few : shape.inputs ≤ 11
  pub room : to + count * shape.bytes ≤ length rows

pub record Below (shape : Shape) (x y to : ℕ) (rows : List ℕ) : Type 0 where
  pub at : Room shape to rows
  pub first : x + shape.bytes ≤ to
  pub second : y + shape.bytes ≤ to

abbrev pub no_polynomial : Polynomial
no_polynomial = record { constant = 0; first = 0; second = 0; both = 0 }

pub record Formed (mask : ℕ) (polynomials : List Polynomial) : Type 0 where
  pub polynomial : (kind : ℕ) → kind < 8 → get_or polynomials kind no_polynomial ≡ kind_polynomial kind mask

unfoldable pub fixed_row : Shape → Fault → List ℕ → List ℕ
fixed_row shape (Stuck l level) rows = packed (2 ^ shape.inputs) (λ m. level_number level)
fixed_row shape (Bridge a b is_and) rows =
    packed (2 ^ shape.inputs)
    (λ m. bridged is_and (entry (slice (a * shape.bytes) shape.bytes rows) m) (entry (slice (b * shape.bytes) shape.bytes rows) m))
