-- `report_text::Writer::put_decimal` meets its contract.
use native.Mathlib.Omega.{arith}
use Prim.Native.Nat.{ℕ}
use mathlib.Core.Path.{ap}
use lib.ListN.{length, length-append}
use Rattle.report_text.specs.Putting.{Puts}
use Rattle.report_text.proofs.Decimals.{front, front_small, front_large, decimal_front}
use Rattle.report_text.proofs.Texts.{puts_none, puts_same, puts_then}
use Rattle.report_text.proofs.Writer.+put_decimal.Goals as goal
use Rattle.report_text.proofs.Writer.+put_decimal.Goals.{Joined-n-ge10, then-n-ge10, else-n-ge10}

pub put_decimal-requires : goal.put_decimal-requires
put_decimal-requires t c = (
  omega arith,
  omega (arith, ap length (decimal_front c.args.n), ap length (front_large c.args.n c.if-n-ge10.true), length-append {A = ℕ}),
)

-- the digits before the last are put
before : (t : ℕ) (c : Joined-n-ge10 t) → Puts (front c.args.n) c.args.self.now c.if-n-ge10.self
before t c =
    elim c.if-n-ge10.branch [
      | then-n-ge10 w ↦ rw w.self-is (puts_same (front_large c.args.n w.if-n-ge10.true) w.put_decimal.ensures)
      | else-n-ge10 w ↦ rw w.self-is (puts_same (front_small c.args.n w.if-n-ge10.false) (puts_none c.args.self.now))
    ]

pub put-requires : goal.put-requires
put-requires t c =
    let h = before t (goal.at.put-requires t c).Joined-n-ge10 in
    omega (arith, ap length (decimal_front c.args.n), length-append {A = ℕ})

pub returns : goal.returns
returns t c =
    puts_same (decimal_front c.args.n) (puts_then (before t (goal.at.returns t c).Joined-n-ge10) c.put.ensures)
