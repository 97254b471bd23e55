-- The entries in the order of looking (specs/Choosing.antt).
--
--   entries_within           the entries of indices below a bound
--   entry_looked             every entry of an index below N at an output that there is, is looked at
--   looked_entry             and no other
--   agree_looked, looked_agree   rows agree on all entries when their coefficients are the same
use Prim.Native.Nat.{ℕ, zero, suc, ◌^◌, ◌<◌}
use native.Mathlib.Nat.{not-suc-le-zero, eq-or-lt_of_le, le_of_suc-le-suc}
use native.Mathlib.Omega.{arith}
use mathlib.Core.Path.{◌≡◌, refl, sym, ap, subst, ◌∙◌}
use mathlib.Core.Bool.{true}
use mathlib.Core.Logic.{⊎_elim}
use mathlib.Core.List.Memᴰ
use mathlib.Core.List.{List, [], ◌∷◌, Memᴰ}
use borrow.Author.Tests.{eq-eqb, eqb-true}
use lib.Dec.{eqb}
use Rattle.bits.proofs.Tests.{and_l, and_r, and_i}
use Rattle.tables.specs.Family.{Family}
use Rattle.spectra.specs.Listed.{Entry}
use Rattle.method.specs.Method.{agree}
use Rattle.choosing.specs.Choosing.{scan_order, outputs_at, entries_of, scan_entries}
use Rattle.choosing.proofs.Indices.{scan_has, scan_below}

outputs_has : (i outputs o : ℕ) → o < outputs → Memᴰ (record { index = i; output = o }) (outputs_at i outputs)
unfolding outputs_at
outputs_has i zero o h = absurd (not-suc-le-zero h)
outputs_has i (suc outputs) o h =
    ⊎_elim
    (λ (e : o ≡ outputs). Memᴰ.append_right (outputs_at i outputs) (Memᴰ.head (ap (λ (x : ℕ). record { index = i; output = x }) e)))
    (λ (l : o < outputs). Memᴰ.append_left (record { index = i; output = outputs } ∷ []) (outputs_has i outputs o l))
    (eq-or-lt_of_le (le_of_suc-le-suc h))

-- an entry of an index
record Of (i outputs : ℕ) (e : Entry) : Type 0 where
  index : e.index ≡ i
  output : e.output < outputs

outputs_only : (i outputs : ℕ) {e : Entry} → Memᴰ e (outputs_at i outputs) → Of i outputs e
unfolding outputs_at
outputs_only i zero m = absurd (Memᴰ.not-nil m)
outputs_only i (suc outputs) {e} m =
    ⊎_elim
    (λ p. let r = outputs_only i outputs p in record { index = r.index; output = omega (arith, r.output) })
    (λ p. let q : e ≡ record { index = i; output = outputs } = Memᴰ.eq_of_singleton p in
    record { index = ap (λ (x : Entry). x.index) q; output = (let z : e.output ≡ outputs = ap (λ (x : Entry). x.output) q in omega arith) })
    (Memᴰ.append_cases (outputs_at i outputs) m)

entries_has : (outputs : ℕ) (l : List ℕ) {i : ℕ} (o : ℕ) → Memᴰ i l → o < outputs → Memᴰ (record { index = i; output = o }) (entries_of outputs l)
unfolding entries_of
entries_has outputs [] o m h = absurd (Memᴰ.not-nil m)
entries_has outputs (x ∷ l) {i} o m h =
    ⊎_elim
    (λ (e : i ≡ x). Memᴰ.append_left {s = outputs_at x outputs} (entries_of outputs l)
    (subst (λ (y : ℕ). Memᴰ (record { index = y; output = o }) (outputs_at x outputs)) (sym e) (outputs_has x outputs o h)))
    (λ p. Memᴰ.append_right (outputs_at x outputs) (entries_has outputs l o p h))
    (Memᴰ.cases_cons m)

-- an entry of one of the indices
record From (outputs : ℕ) (l : List ℕ) (e : Entry) : Type 0 where
  member : Memᴰ e.index l
  output : e.output < outputs

entries_only : (outputs : ℕ) (l : List ℕ) {e : Entry} → Memᴰ e (entries_of outputs l) → From outputs l e
unfolding entries_of
entries_only outputs [] m = absurd (Memᴰ.not-nil m)
entries_only outputs (x ∷ l) m =
    ⊎_elim
    (λ p. let r = outputs_only x outputs p in record { member = Memᴰ.head r.index; output = r.output })
    (λ p. let r = entries_only outputs l p in record { member = Memᴰ.tail r.member; output = r.output })
    (Memᴰ.append_cases (outputs_at x outputs) m)

pub entries_within : (outputs : ℕ) (l : List ℕ) (size : ℕ) → ((i : ℕ) → Memᴰ i l → i < size) → {e : Entry} → Memᴰ e (entries_of outputs l)
    → (e.index < size) × (e.output < outputs)
entries_within outputs l size h m = let r = entries_only outputs l m in (h _ r.member, r.output)

-- ---- rows that agree on a list

module _ {E : Type 0} (coef : ℕ → E → ℕ) where
  agree_has : (l : List E) (a b : ℕ) → agree coef l a b ≡ true → {e : E} → Memᴰ e l → coef a e ≡ coef b e
  unfolding agree
  agree_has [] a b t m = absurd (Memᴰ.not-nil m)
  agree_has (x ∷ l) a b t {e} m =
      ⊎_elim
      (λ p. ap (coef a) p ∙ eqb-true (coef a x) (coef b x) (and_l (eqb (coef a x) (coef b x)) (agree coef l a b) t) ∙ ap (coef b) (sym p))
      (λ p. agree_has l a b (and_r (eqb (coef a x) (coef b x)) (agree coef l a b) t) p)
      (Memᴰ.cases_cons m)

  has_agree : (l : List E) (a b : ℕ) → ((e : E) → Memᴰ e l → coef a e ≡ coef b e) → agree coef l a b ≡ true
  unfolding agree
  has_agree [] a b h = refl
  has_agree (x ∷ l) a b h =
      and_i (eq-eqb (coef a x) (coef b x) (h x (Memᴰ.head refl))) (has_agree l a b (λ e m. h e (Memᴰ.tail m)))

-- ---- the scan of a family

module _ (F : Family) where
  pub entry_looked : (e : Entry) → e.index < 2 ^ F.inputs → e.output < F.outputs → Memᴰ e (scan_entries F)
  entry_looked e h l = entries_has F.outputs (scan_order F.inputs) e.output (scan_has F.inputs e.index h) l

  pub looked_entry : {e : Entry} → Memᴰ e (scan_entries F) → (e.index < 2 ^ F.inputs) × (e.output < F.outputs)
  looked_entry m = entries_within F.outputs (scan_order F.inputs) (2 ^ F.inputs) (λ i p. scan_below F.inputs p) m

  module _ (coef : ℕ → Entry → ℕ) (a b : ℕ) where
    pub agree_looked : agree coef (scan_entries F) a b ≡ true → (e : Entry) → e.index < 2 ^ F.inputs → e.output < F.outputs → coef a e ≡ coef b e
    agree_looked t e h l = agree_has coef (scan_entries F) a b t (entry_looked e h l)

    pub looked_agree : ((e : Entry) → e.index < 2 ^ F.inputs → e.output < F.outputs → coef a e ≡ coef b e) → agree coef (scan_entries F) a b ≡ true
    looked_agree h = has_agree coef (scan_entries F) a b (λ e m. let r = looked_entry m in h e r.0 r.1)
