-- `choosing::decoded` meets its contract: a number taken apart a turn.
use Prim.Native.Nat.{◌/◌, ◌%◌, ◌^◌}
use lib.ListN.{get_or, replicate}
use Rattle.bits.proofs.Splice.{Written}
use Rattle.chooser.specs.Matrix.{max_signature}
use Rattle.choosing.proofs.decoded.Given as goal

abbrev pub invariant-loop-i : goal.invariant-loop-i
invariant-loop-i l =
    Written (replicate max_signature 0) 0 max_signature (λ p. get_or l.fn.coded.entries p 0 % 2 ^ l.n) l.indices l.i
    × Written (replicate max_signature 0) 0 max_signature (λ p. get_or l.fn.coded.entries p 0 / 2 ^ l.n) l.outputs l.i
