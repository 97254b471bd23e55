-- Believed: what an operation answers and leaves in lent memory, in document 01's terms.
--
--   number       the number of a refusal ("Refusal by operation")
--   Answer A     a value of A, or a refusal's number
--   outcome      what the result of an operation stands for
--   unless       goes on where a test holds, and refuses with a number where it does not
--   onward       goes on with the value of an answer; a refusal stays
--   Fills A      a value, and the numbers that go to the start of the lent memory
--   leaves       the answer, and the whole lent memory at exit
use Rattle.std.specs.Prelude.{ℕ, Bool, true, false, List, Result, Ok, Err, ◌++◌, length, drop}
use Rattle.bits.specs.declared.Refusal.{Refusal}
use Rattle.bits.specs.declared.Refusal.TheVariants.{BytesEnd, Inputs, Gates, GateLine, OneLine, Output, FaultLine, FaultPair, Spare, Memory, Circuit, Table, Polarity, NoSpectrum, Alike, Index, Readings, Faults, LooseGate, OutputNumber, Part}

-- "Refusal by operation", and the numbers that document 02 adds: the number of each cause
abbrev pub number : Refusal → ℕ
number BytesEnd = 1
number Inputs = 2
number Gates = 3
number GateLine = 4
number OneLine = 5
number Output = 6
number FaultLine = 7
number FaultPair = 8
number Spare = 9
number Memory = 10
number Circuit = 11
number Table = 12
number Polarity = 13
number NoSpectrum = 14
number Alike = 15
number Index = 16
number Readings = 17
number Faults = 18
number LooseGate = 19
number OutputNumber = 20
number Part = 21

pub data Answer (A : Type 0) : Type 0 where
  gives : A → Answer A
  refused : ℕ → Answer A

-- what an operation's result stands for: its value, or the number of its refusal; "table, spectrum and undoing give success alone"
abbrev pub outcome : {A : Type 0} → Result A Refusal → Answer A
outcome (Ok a) = gives a
outcome (Err e) = refused (number e)

abbrev pub unless : {A : Type 0} → Bool → ℕ → Answer A → Answer A
unless true k a = a
unless false k a = refused k

abbrev pub onward : {A B : Type 0} → Answer A → (A → Answer B) → Answer B
onward (gives a) f = f a
onward (refused k) f = refused k

pub record Fills (A : Type 0) : Type 0 where
  pub value : A
  pub filled : List ℕ

pub record Leaves (A : Type 0) : Type 0 where
  pub answer : Answer A
  pub memory : List ℕ

-- "Refused calls return their number only .. and write nothing"; "Successful writes fill the named places from the start and no others."
abbrev pub leaves : {A : Type 0} → Answer (Fills A) → List ℕ → Leaves A
leaves (gives w) memory = record { answer = gives w.value; memory = w.filled ++ drop (length w.filled) memory }
leaves (refused k) memory = record { answer = refused k; memory = memory }
