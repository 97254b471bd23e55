-- Taking on the way down, dropping on the way up (specs/Pairing.antt, `keeps`).
--
--   useful           an entry tells a pair apart
--   none_found       where none does, none is found
--   keeps_none       where no entry does, nothing is kept
--   below_all        the entries are below the width
--   keeps_step       else the first that does is put before those kept behind it
--   keeps_start      where nothing is kept, all pairs are left
--   rest_there       the rows of the pairs that the entries kept leave are there
--   put_goes, put_stays      what is kept where no pair is in both, and where there is one
--   put_room         there is room for an entry that stays
--   put_leaves       the pairs that are left with it
use Prim.Native.Nat.{ℕ, zero, suc, ◌+◌, ◌-◌, ◌≤◌, ◌<◌}
use native.Mathlib.Numerals.{add-one}
use native.Mathlib.Omega.{arith}
use mathlib.Core.Path.{◌≡◌, refl, sym, ap, subst, ◌∙◌}
use mathlib.Core.Bool.{Bool, true, false, not, cond, ◌&&◌, and-true, and_assoc, and_comm}
use mathlib.Core.List.{List, [], ◌∷◌}
use borrow.Author.Tests.{not-true, not-false, ltb-false, le-ltb}
use lib.Dec.{ltb}
use lib.ListN.{length, take, drop, get_or, length-drop}
use lib.Seq.{take_all}
use Rattle.bits.specs.Bounds.{all_below}
use Rattle.bits.proofs.Bounds.{entry_below}
use Rattle.std.specs.List.{All}
use Rattle.std.proofs.lemmas.List.Elements.{All-from_get_or}
use Rattle.std.specs.Prelude.{Some, None}
use Rattle.std.specs.List.{position, position_or_len}
use Rattle.std.proofs.lemmas.List.Quantifiers.{position-Some}
use Rattle.std.proofs.lemmas.List.Sums.{fails_before_first, position_or_len_is}
use Rattle.method.specs.Method.{agree}
use Rattle.bits.proofs.Tests.{by_test}
use Rattle.chooser.specs.Matrix.{max_signature}
use Rattle.chooser.specs.Pairing.{pair_of, There, Leaves, meets, equal_at, clear, puts, keeps}
use Rattle.chooser.specs.declared.matrix.Matrix.{Matrix}
use Rattle.chooser.proofs.CommonPairs.{meets_same}
use Rattle.chooser.proofs.Soundness.{leaves_there}
use Rattle.chooser.proofs.KeptEntries.{keeps_clear, keeps_puts}

-- ---- the next entry

pub none_found : (p : ℕ → Bool) (scan : List ℕ) → ((k : ℕ) → k < length scan → p (get_or scan k 0) ≡ false) → None ≡ position p scan
none_found p scan none =
    let all : position_or_len p scan ≡ length scan = position_or_len_is p scan (length scan) 0 (omega arith) none (λ l. absurd (omega arith)) in
    sym (ap (λ (t : Bool). cond t (Some (position_or_len p scan)) None) (le-ltb (position_or_len p scan) (length scan) (omega (arith, all))))

abbrev pub useful : (ℕ → ℕ → ℕ) → (ℕ → ℕ → Bool) → ℕ → Bool
useful coef pair e = not (clear coef pair e)

module _ (coef : ℕ → ℕ → ℕ) (pair all : ℕ → ℕ → Bool) where
  passed : (scan : List ℕ) → ((k : ℕ) → k < length scan → useful coef pair (get_or scan k 0) ≡ false) → keeps coef pair all scan ≡ []
  unfolding keeps
  passed [] none = refl
  passed (e ∷ scan) none =
      keeps_clear coef pair all e scan (not-false (clear coef pair e) (none 0 (omega arith)))
      ∙ passed scan (λ k h. none (suc k) (omega arith))

  reached : (scan : List ℕ) (at : ℕ) → at < length scan → ((k : ℕ) → k < at → useful coef pair (get_or scan k 0) ≡ false) → useful coef pair (get_or scan at 0) ≡ true
      → keeps coef pair all scan
      ≡ puts coef pair all (get_or scan at 0) (keeps coef (λ a b. pair a b && equal_at coef (get_or scan at 0) a b) all (drop (suc at) scan))
  reached [] at h none t = absurd (omega arith)
  reached (e ∷ scan) zero h none t = keeps_puts coef pair all e scan (not-true (clear coef pair e) t)
  reached (e ∷ scan) (suc at) h none t =
      keeps_clear coef pair all e scan (not-false (clear coef pair e) (none 0 (omega arith)))
      ∙ reached scan at (omega arith) (λ k l. none (suc k) (omega arith)) t

  pub keeps_none : (scan : List ℕ) → position (useful coef pair) scan ≡ None → keeps coef pair all scan ≡ []
  keeps_none scan e =
      by_test (ltb (position_or_len (useful coef pair) scan) (length scan)) (λ t. absurd (found t))
      (λ f. passed scan (λ k h. fails_before_first (useful coef pair) scan k 0 (omega (arith, ltb-false (position_or_len (useful coef pair) scan) (length scan) f))))
    where
      found : ltb (position_or_len (useful coef pair) scan) (length scan) ≡ true → ⊥
      found t =
          let some : position (useful coef pair) scan ≡ Some (position_or_len (useful coef pair) scan) =
          ap (λ (u : Bool). cond u (Some (position_or_len (useful coef pair) scan)) None) t in
          cc

-- ---- the entries behind it

behind : (n : ℕ) (scan : List ℕ) → take (length scan - n) (drop n scan) ≡ drop n scan
behind n scan = take_all (length scan - n) (drop n scan) (omega (arith, length-drop n scan))

pub below_all : (bound : ℕ) (scan : List ℕ) → all_below bound scan ≡ true → All (λ e. e < bound) scan
below_all bound scan t = All-from_get_or (λ e. e < bound) scan 0 (λ i h. entry_below bound scan i t h)

-- the entry found is put before those kept behind it
pub keeps_step : (coef : ℕ → ℕ → ℕ) (pairs all scan : List ℕ) (at : ℕ) {fewer kept : List ℕ} → position (useful coef (pair_of pairs)) scan ≡ Some at
    → Leaves pairs (equal_at coef (get_or scan at 0)) fewer
    → kept ≡ keeps coef (pair_of fewer) (pair_of all) (take (length scan - (at + 1)) (drop (at + 1) scan))
    → keeps coef (pair_of pairs) (pair_of all) scan ≡ puts coef (pair_of pairs) (pair_of all) (get_or scan at 0) kept
keeps_step coef pairs all scan at {fewer} {kept} e left w =
    let p = position-Some (useful coef (pair_of pairs)) scan at 0 e in
    let rest : kept ≡ keeps coef (pair_of fewer) (pair_of all) (drop (suc at) scan) =
    w ∙ ap (keeps coef (pair_of fewer) (pair_of all)) (behind (at + 1) scan ∙ ap (λ (n : ℕ). drop n scan) (add-one at)) in
    reached coef (pair_of pairs) (pair_of all) scan at p.0 p.2 p.1
    ∙ (λ i. puts coef (pair_of pairs) (pair_of all) (get_or scan at 0) (keeps coef (λ a b. sym (left.each a b) i) (pair_of all) (drop (suc at) scan)))
    ∙ ap (puts coef (pair_of pairs) (pair_of all) (get_or scan at 0)) (sym rest)

-- where nothing is kept, all pairs are left
pub keeps_start : (coef : ℕ → ℕ → ℕ) (all : List ℕ) {kept : List ℕ} → kept ≡ [] → Leaves all (agree coef kept) all
unfolding agree
keeps_start coef all e = subst (λ (k : List ℕ). Leaves all (agree coef k) all) (sym e) (record { each = λ a b. sym (and-true (pair_of all a b)) })

-- ---- one entry on the way up

module _ (coef : ℕ → ℕ → ℕ) {all : List ℕ} (kept : List ℕ) {rest : List ℕ} (w : Leaves all (agree coef kept) rest) where
  pub rest_there : {matrix : Matrix} → There matrix all → There matrix rest
  rest_there t = leaves_there w t

  pub put_leaves : (e : ℕ) {left : List ℕ} → Leaves rest (equal_at coef e) left → Leaves all (agree coef (e ∷ kept)) left
  unfolding agree
  put_leaves e g =
      record {
        each = λ a b.
            g.each a b ∙ ap (λ (t : Bool). t && equal_at coef e a b) (w.each a b)
            ∙ and_assoc (pair_of all a b) (agree coef kept a b) (equal_at coef e a b)
            ∙ ap (λ (t : Bool). pair_of all a b && t) (and_comm (agree coef kept a b) (equal_at coef e a b));
      }

  module _ (pairs : List ℕ) (e : ℕ) {t : Bool} (apart : t ≡ not (meets (pair_of pairs) (pair_of rest))) where
    -- the entry stays when some pair is in both
    stays_when : puts coef (pair_of pairs) (pair_of all) e kept ≡ cond (meets (pair_of pairs) (pair_of rest)) (e ∷ kept) kept
    unfolding puts
    stays_when =
        ap (λ (t : Bool). cond t (e ∷ kept) kept)
        (meets_same (pair_of pairs) (pair_of pairs) (λ a b. pair_of all a b && agree coef kept a b) (pair_of rest)
        (λ a b. ap (λ (t : Bool). pair_of pairs a b && t) (sym (w.each a b))))

    pub put_goes : t ≡ true → kept ≡ puts coef (pair_of pairs) (pair_of all) e kept
    put_goes h =
        sym (stays_when ∙ ap (λ (u : Bool). cond u (e ∷ kept) kept) (not-true (meets (pair_of pairs) (pair_of rest)) (sym apart ∙ h)))

    pub put_stays : t ≡ false → e ∷ kept ≡ puts coef (pair_of pairs) (pair_of all) e kept
    put_stays h =
        sym (stays_when ∙ ap (λ (u : Bool). cond u (e ∷ kept) kept) (not-false (meets (pair_of pairs) (pair_of rest)) (sym apart ∙ h)))

    pub put_room : {whole : List ℕ} → t ≡ false → whole ≡ puts coef (pair_of pairs) (pair_of all) e kept → length whole ≤ max_signature
        → length kept < max_signature
    put_room h p few = let long : length (e ∷ kept) ≡ length _ = ap length (put_stays h ∙ sym p) in omega arith
