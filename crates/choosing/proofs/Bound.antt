-- The size of a signature, over any purpose, kind and polarity.
--
--   signature_short   it has fewer entries than there are circuits
--   signature_below   each has an index below N, and an output that there is
use Prim.Native.Nat.{ℕ, ◌+◌, ◌^◌, ◌≤◌, ◌<◌}
use mathlib.Core.List.{Memᴰ}
use lib.ListN.{length}
use Rattle.tables.specs.Family.{Family}
use Rattle.spectra.specs.Listed.{Entry, coef_of}
use Rattle.spectra.specs.declared.Kind.{Kind}
use Rattle.method.proofs.Signatures.{signature_from, signature_bounded}
use Rattle.choosing.specs.Choosing.{needed, scan_entries, signature_in}
use Rattle.choosing.specs.declared.Purpose.{Purpose}
use Rattle.choosing.proofs.Entries.{looked_entry}

module _ (purpose : Purpose) (kind : Kind) (k : ℕ) (F : Family) where
  pub signature_short : 1 ≤ F.circuits → length (signature_in purpose kind k F) + 1 ≤ F.circuits
  signature_short h = signature_bounded (coef_of kind k F) F.circuits (needed purpose F.part) (scan_entries F) h

  pub signature_below : (e : Entry) → Memᴰ e (signature_in purpose kind k F) → (e.index < 2 ^ F.inputs) × (e.output < F.outputs)
  signature_below e m = looked_entry F (signature_from (coef_of kind k F) F.circuits (needed purpose F.part) (scan_entries F) m)
