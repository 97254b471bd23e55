-- Laws of the tests by which a function makes sure of its places (specs/Slices.antt).
--
--   room_fits               it passes where so many places end within a size
--   refused, passed         a test that the code negates
--   kept, put               a list is left as it is where a test fails, and is what was put where it passes
--   fitted                  where a test passes, the list is what was put
--   and_then_lem            what is left of two tests when the first passes
--   copy_second             the test of a copy, where its first side passes
--   copy_fits_lem               it passes where there is room for what is copied, and it ends within its source
use Prim.Native.Nat.{ℕ, ◌+◌, ◌≤◌}
use mathlib.Core.Path.{◌≡◌, sym, ap, ◌∙◌}
use mathlib.Core.Bool.{Bool, true, false, not, cond, ◌&&◌}
use mathlib.Core.List.{List}
use borrow.Author.Tests.{le-leb, not-true, not-false}
use Rattle.bits.specs.Slices.{has_room, copy_fits}

module _ (size at count : ℕ) where
  pub room_fits : at + count ≤ size → has_room size at count ≡ true
  room_fits h = le-leb (at + count) size h

pub refused : {t u : Bool} → t ≡ u → not t ≡ true → u ≡ false
refused {t} e n = sym e ∙ not-true t n

pub passed : {t u : Bool} → t ≡ u → not t ≡ false → u ≡ true
passed {t} e n = sym e ∙ not-false t n

module _ (new rows : List ℕ) where
  pub kept : {t : Bool} → t ≡ false → rows ≡ cond t new rows
  kept e = ap (λ (t : Bool). cond t new rows) (sym e)

  pub put : {t : Bool} {out : List ℕ} → t ≡ true → out ≡ new → out ≡ cond t new rows
  put e p = p ∙ ap (λ (t : Bool). cond t new rows) (sym e)

  pub fitted : {t : Bool} {out : List ℕ} → t ≡ true → out ≡ cond t new rows → out ≡ new
  fitted e p = p ∙ ap (λ (t : Bool). cond t new rows) e

pub and_then_lem : {a b v : Bool} → a ≡ true → b ≡ v → a && b ≡ v
and_then_lem {a} {b} p q = ap (λ (t : Bool). t && b) p ∙ q

module _ (to at count size rows : ℕ) where
  pub copy_second : {v : Bool} → has_room size to count ≡ true → has_room rows at count ≡ v → copy_fits to at count size rows ≡ v
  copy_second room e = and_then_lem room e

  pub copy_fits_lem : to + count ≤ size → at + count ≤ rows → copy_fits to at count size rows ≡ true
  copy_fits_lem h k = copy_second (room_fits size to count h) (room_fits rows at count k)
