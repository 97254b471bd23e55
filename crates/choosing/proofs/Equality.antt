-- Circuits that no coefficient tells apart have equal tables: choosing rests on the meaning of a spectrum alone.
--
--   alike_tables   all coefficients of two circuits are equal exactly when their tables are, of either kind and in any polarity
use Prim.Native.Nat.{ℕ, ◌^◌, ◌<◌}
use mathlib.Core.Path.{◌≡◌, refl, sym}
use mathlib.Core.Bool.{Bool, true, false}
use Rattle.tables.specs.Family.{Family, same_tables}
use Rattle.tables.proofs.Families.{ValidFamily, tables_entries, entries_tables}
use Rattle.spectra.specs.Listed.{coef_of}
use Rattle.spectra.specs.declared.Kind.{Kind}
use Rattle.spectra.proofs.Bounds.{coefficient_ext}
use Rattle.spectra.proofs.Uniqueness.{coefficients_unique}
use Rattle.method.specs.Method.{agree}
use Rattle.choosing.specs.Choosing.{scan_entries}
use Rattle.choosing.proofs.Entries.{agree_looked, looked_agree}

-- tests that hold together are equal
same_tests : (s t : Bool) → (s ≡ true → t ≡ true) → (t ≡ true → s ≡ true) → s ≡ t
same_tests true t p q = sym (p refl)
same_tests false true p q = q refl
same_tests false false p q = refl

pub alike_tables : (kind : Kind) (k : ℕ) (F : Family) → ValidFamily F → k < 2 ^ F.inputs → (a b : ℕ)
    → agree (coef_of kind k F) (scan_entries F) a b ≡ same_tables F a b
alike_tables kind k F v h a b =
    same_tests (agree (coef_of kind k F) (scan_entries F) a b) (same_tables F a b)
    (λ t. entries_tables F a b
    (λ o m l. coefficients_unique kind F.inputs k (F.entry a o) (F.entry b o) (λ m _. v.bit a o m l) (λ m _. v.bit b o m l) h
    (λ j g. agree_looked F (coef_of kind k F) a b t (record { index = j; output = o }) g l) m))
    (λ t. looked_agree F (coef_of kind k F) a b
    (λ e _ l. coefficient_ext kind F.inputs k (F.entry a e.output) (F.entry b e.output) e.index h
    (λ m g. tables_entries F a b t e.output m l g)))
