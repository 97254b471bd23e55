-- The rows of tables, tested chunk by chunk (the function `rows_ok`).
--
--   all_tables    rows that each are a table
--   fails         a row that is none
--   rows_tested   what `all` answers of the chunks is the test of the rows
use Prim.Native.Nat.{ℕ, zero, suc, ◌+◌, ◌*◌, ◌/◌, ◌≤◌, ◌<◌}
use native.Mathlib.Omega.{arith}
use native.Mathlib.Nat.{mul-le-mul_right, mul-div_cancel}
use mathlib.Core.Logic.{⊎_elim}
use Rattle.bits.proofs.Below.{lt_or_ge}
use mathlib.Core.Path.{◌≡◌, refl, sym, ap, ap₂, subst, ◌∙◌}
use mathlib.Core.Bool.{Bool, true, false, ◌&&◌}
use mathlib.Core.List.{List}
use borrow.Author.Tests.{eq-eqb}
use denote.Param.Members.{Mut, Called}
use denote.Ref.{Bor}
use lib.ListN.{length}
use Rattle.std.specs.Prelude.{Option, Some, None, IfSome, IsSomeAnd, MatchBool, IsTrue}
use Rattle.std.specs.Option.{option_map}
use Rattle.std.specs.List.{IsSubsliceAt}
use Rattle.std.specs.Iterator.Runs.{Run, IsChunksExactRun, AllItemsGive, AnyItemGives}
use Rattle.bits.proofs.Tests.{and_i}
use Rattle.bits.specs.Sizes.{table_bytes}
use Rattle.spectra.specs.Operations.{table_ok, table_row, rows_ok, all_rows_ok}

all_tables : (n : ℕ) (s : List ℕ) (rows : ℕ) → ((k : ℕ) → k < rows → table_ok n (table_row n s k) ≡ true) → rows_ok n s rows ≡ true
unfolding rows_ok
all_tables n s zero h = refl
all_tables n s (suc rows) h = and_i (all_tables n s rows (λ k l. h k (omega arith))) (h rows (omega arith))

fails : (n : ℕ) (s : List ℕ) (r rows : ℕ) → r < rows → table_ok n (table_row n s r) ≡ false → rows_ok n s rows ≡ false
unfolding rows_ok
fails n s r zero h e = absurd (omega arith)
fails n s r (suc rows) h e =
    ⊎_elim
    (λ l. ap (λ (t : Bool). t && table_ok n (table_row n s rows)) (fails n s r rows l e))
    (λ l. let same : r ≡ rows = omega arith in last (rows_ok n s rows) (subst (λ (x : ℕ). table_ok n (table_row n s x) ≡ false) same e))
    (lt_or_ge r rows)
  where
    last : (t : Bool) → table_ok n (table_row n s rows) ≡ false → t && table_ok n (table_row n s rows) ≡ false
    last true p = p
    last false p = refl

-- a run over the chunks, each as long as a table, and a test of each; d is some slice
module _ {S F : Type 0} {steps : S → Option (Bor (List ℕ)) → S → Type 0} (p : Run steps) (g : Mut F (Bor (List ℕ) × Unit {0}) Bool) (f : F)
    (n rows : ℕ) (s : List ℕ) (some : 0 < table_bytes n) (size : length s ≡ rows * table_bytes n) (chunks : IsChunksExactRun p (table_bytes n) s)
    (d : Bor (List ℕ)) (calls : (a : Bor (List ℕ) × Unit {0}) (b : Bool) (q : F) → Called g f a b q → (q ≡ f) × (b ≡ table_ok n a.0.now)) where
  keeps : (a : Bor (List ℕ) × Unit {0}) (b : Bool) (q : F) → Called g f a b q → q ≡ f
  keeps a b q h = (calls a b q h).0

  abbrev Chunk : ℕ → Bor (List ℕ) → Type 0
  Chunk k x = (length x.now ≡ table_bytes n) × (k * table_bytes n + table_bytes n ≤ length s) × IsSubsliceAt (table_bytes n) s (k * table_bytes n) x.now

  -- chunk k is row k, and its test was called
  given : (t : Bool) (k : ℕ) (x : Bor (List ℕ)) → Called g f (x, tt) t f → Chunk k x → table_ok n (table_row n s k) ≡ t
  given t k x call row = ap (table_ok n) (sym row.2.0) ∙ sym (calls (x, tt) t f call).1

  passed : (k : ℕ) (o : Option (Bor (List ℕ))) (y : Bor (List ℕ)) → option_map (λ y. y) o ≡ Some y → IfSome o (λ x. Called g f (x, tt) true f)
      → IfSome o (Chunk k) → table_ok n (table_row n s k) ≡ true
  passed k None y e call row = absurd (let z : ◌≡◌ {A = Option (Bor (List ℕ))} None (Some y) = e in cc)
  passed k (Some x) y e call row = given true k x call row

  failed : (k : ℕ) (o : Option (Bor (List ℕ))) → IsSomeAnd o (λ x. Called g f (x, tt) false f) → IfSome o (Chunk k)
      → (k < rows) × (table_ok n (table_row n s k) ≡ false)
  failed k None call row = absurd call
  failed k (Some x) call row = (⊎_elim (λ l. l) (λ l. absurd (omega (arith, mul-le-mul_right (table_bytes n) l, row.1, size, some))) (lt_or_ge k rows), given false k x call row)

  many : {k : ℕ} → p.len ≡ length s / table_bytes n → k < rows → k < p.len
  many e l = rw e (rw size (rw (mul-div_cancel rows some) l))

  pub rows_tested : (r : Bool) → MatchBool r (IsTrue p.whole × AllItemsGive p g f true) (AnyItemGives p g f false) → r ≡ all_rows_ok n rows s
  rows_tested true h = sym (and_i (eq-eqb (length s) (rows * table_bytes n) size) (all_tables n s rows (λ k l. passed k (p.at k) _ (p.reads k d (many (chunks.1 h.0) l)) (h.1 keeps k) (chunks.2 k))))
  rows_tested false h =
      let some = h keeps in
      let fail = failed some.0 (p.at some.0) some.2 (chunks.2 some.0) in
      sym (ap₂ ◌&&◌ (eq-eqb (length s) (rows * table_bytes n) size) (fails n s some.0 rows fail.0 fail.1))
