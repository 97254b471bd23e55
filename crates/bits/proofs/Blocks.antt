-- Laws of lists one after the other (specs/Blocks.antt).
--
--   block_ext      blocks of equal lists are equal
--   block_append   a block behind a block
--   block_blocks   blocks side by side are one block
--   length_below   lists of one length together have so many times that length
--   length_block   lists that all have one length together have so many times that length
--   block_at       element j of list i stands at i × length + j
--   block_list     and the whole list from there on
use Prim.Native.Nat.{ℕ, zero, suc, ◌+◌, ◌*◌, ◌≤◌, ◌<◌}
use native.Mathlib.Nat.{add-zero, not-suc-le-zero, zero-mul, suc-mul, mul-le-mul_right}
use native.Mathlib.Omega.{arith}
use mathlib.Core.Path.{◌≡◌, refl, sym, ap, ap₂, subst, ◌∙◌}
use mathlib.Core.Logic.{⊎_elim}
use mathlib.Core.List.{List, ◌++◌, append_assoc, append-nil}
use lib.ListN.{length, get_or, take, drop, length-append, get_or-append}
use lib.Seq.{get_or-append-add, take_at, drop_at}
use Rattle.bits.specs.Blocks.{block}
use Rattle.bits.proofs.Below.{lt_or_ge}

pub block_ext : (c : ℕ) (f g : ℕ → List ℕ) → ((i : ℕ) → i < c → f i ≡ g i) → block c f ≡ block c g
unfolding block
block_ext zero f g h = refl
block_ext (suc c) f g h = ap₂ ◌++◌ (block_ext c f g (λ i l. h i (omega arith))) (h c (omega arith))

pub block_append : (a b : ℕ) (f : ℕ → List ℕ) → block a f ++ block b (λ i. f (a + i)) ≡ block (a + b) f
unfolding block
block_append a zero f = append-nil (block a f) ∙ ap (λ (k : ℕ). block k f) (sym (add-zero a))
block_append a (suc b) f =
    let e : suc (a + b) ≡ a + suc b = omega arith in
    sym (append_assoc (block a f) (block b (λ i. f (a + i))) (f (a + b)))
    ∙ ap (λ (l : List ℕ). l ++ f (a + b)) (block_append a b f) ∙ ap (λ (k : ℕ). block k f) e

pub block_blocks : (a b : ℕ) (f : ℕ → List ℕ) → block a (λ i. block b (λ j. f (i * b + j))) ≡ block (a * b) f
unfolding block
block_blocks zero b f = ap (λ (k : ℕ). block k f) (sym (zero-mul b))
block_blocks (suc a) b f =
    ap (λ (l : List ℕ). l ++ block b (λ j. f (a * b + j))) (block_blocks a b f)
    ∙ block_append (a * b) b f ∙ ap (λ (k : ℕ). block k f) (sym (suc-mul a b))

pub length_below : (w : ℕ) (f : ℕ → List ℕ) (c : ℕ) → ((i : ℕ) → i < c → length (f i) ≡ w) → length (block c f) ≡ c * w
unfolding block
length_below w f zero long = sym (zero-mul w)
length_below w f (suc c) long =
    length-append (block c f) (f c) ∙ ap₂ ◌+◌ (length_below w f c (λ i h. long i (omega arith))) (long c (omega arith)) ∙ sym (suc-mul c w)

pub length_block : (w : ℕ) (f : ℕ → List ℕ) → ((i : ℕ) → length (f i) ≡ w) → (c : ℕ) → length (block c f) ≡ c * w
length_block w f long c = length_below w f c (λ i _. long i)

module _ (width : ℕ) (f : ℕ → List ℕ) (wide : (i : ℕ) → length (f i) ≡ width) where
  -- the list lies before the last, or is the last
  step : (c i j : ℕ) → j < width → (i < c → get_or (block c f) (i * width + j) 0 ≡ get_or (f i) j 0) → i < suc c
      → get_or (block (suc c) f) (i * width + j) 0 ≡ get_or (f i) j 0
  unfolding block
  step c i j h before l =
      ⊎_elim
      (λ (b : i < c).
      let m : suc i * width ≤ c * width = mul-le-mul_right width b in
      let e : suc i * width ≡ i * width + width = suc-mul i width in
      let s : length (block c f) ≡ c * width = length_block width f wide c in
      get_or-append (block c f) (f c) 0 (i * width + j) (omega arith) ∙ before b)
      (λ (b : c ≤ i).
      let e : c ≡ i = omega arith in
      subst (λ (x : ℕ). get_or (block x f ++ f x) (i * width + j) 0 ≡ get_or (f i) j 0) (sym e)
      (ap (λ (k : ℕ). get_or (block i f ++ f i) (k + j) 0) (sym (length_block width f wide i)) ∙ get_or-append-add (block i f) (f i) j 0))
      (lt_or_ge i c)

  pub block_at : (c i j : ℕ) → i < c → j < width → get_or (block c f) (i * width + j) 0 ≡ get_or (f i) j 0
  block_at zero i j l h = absurd (not-suc-le-zero l)
  block_at (suc c) i j l h = step c i j h (λ b. block_at c i j b h) l

  pub block_list : (c : ℕ) (rest : List ℕ) (i : ℕ) → i < c → take width (drop (i * width) (block c f ++ rest)) ≡ f i
  unfolding block
  block_list zero rest i h = absurd (omega arith)
  block_list (suc c) rest i h =
      ap (λ (s : List ℕ). take width (drop (i * width) s)) (append_assoc (block c f) (f c) rest)
      ∙ ⊎_elim
      (λ l. block_list c (f c ++ rest) i l)
      (λ l. let same : i ≡ c = omega arith in
      ap (λ (x : ℕ). take width (drop (x * width) (block c f ++ (f c ++ rest)))) same
      ∙ ap (take width) (drop_at (block c f) (f c ++ rest) (c * width) (length_block width f wide c))
      ∙ take_at (f c) rest width (wide c)
      ∙ ap f (sym same))
      (lt_or_ge i c)
