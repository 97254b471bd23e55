-- Marks and orders, which the code stores from place 0 on (specs/Choosing.antt, specs/Looking.antt).
--
--   faulty_mark    detecting's mark of every faulty circuit is 1
use Prim.Native.Nat.{ℕ, ◌^◌, ◌<◌}
use native.Mathlib.Omega.{arith}
use mathlib.Core.Path.{◌≡◌}
use mir.Syntax.{w8}
use mir.Val.{Fits}
use lib.Count.{ones, ones-le}
use lib.ListN.{get_or, replicate, get_or-replicate}
use Rattle.job.specs.Layout.{max_faults}

pub faulty_mark : (c : ℕ) → c < max_faults → ◌≡◌ {A = ℕ} (get_or (replicate max_faults 1) c 0) 1
faulty_mark c h = get_or-replicate max_faults c 1 0 h
