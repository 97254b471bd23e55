-- Kept by the code: bits put one field after the other into lent bytes.
--
--   inked         the string of bits put so far: whole bytes, and the bits that wait for their byte to be full
--   inked_bytes   the bytes that hold it
--   filled        memory whose start is filled
--   HasRoom       room for more bits
--   Puts          what putting bits does to the bytes and the pen
--   EntryFits     a kind and two lines that fit their fields
--   GateFits, LineFits, FaultFits   a gate, an output line and a fault that fit theirs
use Rattle.std.specs.Prelude.{ℕ, ◌+◌, ◌*◌, ◌^◌, ◌≤◌, ◌<◌, ◌≡◌, List, ◌++◌, length, take, drop}
use Rattle.bits.specs.Bits.{bits_of, string_of, bytes_of}
use Rattle.job.specs.Layout.{gate_kind_bits, line_bits, fault_kind_bits, part_bits}
use Rattle.job.specs.Record.{gate_kind, gate_a, gate_b, fault_kind, fault_a, fault_b}
use Rattle.job.specs.declared.FaultEntry.{FaultEntry}
use Rattle.job.specs.declared.GateEntry.{GateEntry}
use Rattle.writing.specs.declared.pen.Pen.{Pen}

unfoldable pub inked : Pen → List ℕ
inked p = string_of (take p.at p.out.now) ++ bits_of p.count p.waiting

unfoldable pub inked_bytes : Pen → List ℕ
inked_bytes p = take p.at p.out.now ++ bytes_of (bits_of p.count p.waiting)

abbrev pub filled : List ℕ → List ℕ → List ℕ
filled start memory = start ++ drop (length start) memory

pub record HasRoom (p : Pen) (more : List ℕ) : Type 0 where
  pub room : p.at * 8 + p.count + length more ≤ length p.out.now * 8

pub record Puts (p : Pen) (bits : List ℕ) (q : Pen) : Type 0 where
  pub same_memory : q.out.ghost_name ≡ p.out.ghost_name
  pub place : q.at * 8 + q.count ≡ p.at * 8 + p.count + length bits
  pub long : length q.out.now ≡ length p.out.now
  pub text : inked q ≡ inked p ++ bits
  pub rest : drop q.at q.out.now ≡ drop q.at p.out.now

pub record EntryFits (kind_bits kind a b : ℕ) : Type 0 where
  pub kind_fits : kind < 2 ^ kind_bits
  pub a_fits : a < 2 ^ line_bits
  pub b_fits : b < 2 ^ line_bits

abbrev pub GateFits : GateEntry → Type 0
GateFits e = EntryFits gate_kind_bits (gate_kind e.gate) (gate_a e.gate) (gate_b e.gate)

abbrev pub LineFits : ℕ → Type 0
LineFits line = line < 2 ^ line_bits

abbrev pub FaultFits : FaultEntry → Type 0
FaultFits e = EntryFits fault_kind_bits (fault_kind e.fault) (fault_a e.fault) (fault_b e.fault) × (e.part < 2 ^ part_bits)
