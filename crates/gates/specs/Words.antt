-- Kept by the code: the gate step by words, eight bytes that travel together.
--
--   word_of     the word of eight bytes that a function gives
--   bytes_of    its bytes in order
--   word_step   the gate step of two words, byte by byte
--   gate_step   rows in which the table at one place is the gate step of so many bytes at two others
--   further     places so many bytes further on
--   stepped     the gate step at places
--   Apart       the two that are read end before the one that is written, and that one within the rows
use Rattle.std.specs.Prelude.{ℕ, ◌+◌, ◌≤◌, List, [], ◌∷◌, length}
use Rattle.bits.specs.Packed.{tabulate}
use Rattle.bits.specs.Slices.{splice}
use Rattle.gates.specs.Polynomial.{step, combined}
use Rattle.gates.specs.declared.Polynomial.{Polynomial}
use Rattle.gates.specs.declared.step.Places.{Places}
use Rattle.gates.specs.declared.step.Word.{Word}

abbrev pub word_of : (ℕ → ℕ) → Word
word_of f =
    record {
      b0 = f 0;
      b1 = f 1;
      b2 = f 2;
      b3 = f 3;
      b4 = f 4;
      b5 = f 5;
      b6 = f 6;
      b7 = f 7;
    }

abbrev pub bytes_of : Word → List ℕ
bytes_of w = w.b0 ∷ w.b1 ∷ w.b2 ∷ w.b3 ∷ w.b4 ∷ w.b5 ∷ w.b6 ∷ w.b7 ∷ []

abbrev pub word_step : Polynomial → Word → Word → Word
word_step f x y =
    record {
      b0 = step f x.b0 y.b0;
      b1 = step f x.b1 y.b1;
      b2 = step f x.b2 y.b2;
      b3 = step f x.b3 y.b3;
      b4 = step f x.b4 y.b4;
      b5 = step f x.b5 y.b5;
      b6 = step f x.b6 y.b6;
      b7 = step f x.b7 y.b7;
    }

abbrev pub gate_step : Polynomial → ℕ → ℕ → ℕ → ℕ → List ℕ → List ℕ
gate_step f x y to count rows = splice rows to (tabulate count (combined f x y rows))

abbrev pub further : Places → ℕ → Places
further p by = record { x = p.x + by; y = p.y + by; to = p.to + by }

abbrev pub stepped : Polynomial → Places → ℕ → List ℕ → List ℕ
stepped f p count rows = gate_step f p.x p.y p.to count rows

abbrev pub Apart : Places → ℕ → List ℕ → Type 0
Apart p count rows = (p.x + count ≤ p.to) × (p.y + count ≤ p.to) × (p.to + count ≤ length rows)
