-- Believed: demand 3, one statement about choosing and locating together (document 01, "Words of demand 3"; document 02, CR 2 and 3). The theorem is `demand_3`
-- in proofs/Theorem.antt. It speaks of the listed circuits' tables, of what choosing answers (`isolate`) and of what locating answers to a list and readings
-- (`locate`); a job enters at the end, by reading. `isolating` and `locating` there are what the contracts of `choosing::choose` and
-- `locating::locate` name: the statement is about these definitions, and so about the code that is proved to equal them.
use Rattle.std.specs.Prelude.{ℕ, ◌-◌, ◌^◌, ◌≤◌, ◌<◌, ◌≡◌, ◌⊎◌, length, take}
use mathlib.Core.List.{List, Memᴰ}
use Rattle.bits.specs.Answer.{Answer, leaves}
use Rattle.bits.specs.Answer.Answer.{gives}
use Rattle.job.specs.declared.Job.{Job}
use Rattle.reading.specs.Reading.{reading}
use Rattle.tables.specs.Family.{Family, family_of}
use Rattle.spectra.specs.Listed.{Entry, readings_of, places, indices_of, outputs_of, entries_at}
use Rattle.spectra.specs.declared.Kind.{Kind}
use Rattle.method.specs.Method.{without}
use Rattle.method.specs.Method.Pair.{pair}
use Rattle.choosing.specs.Choosing.{AtExit, chosen_of, counts_in, at_exit, signature_in}
use Rattle.choosing.specs.declared.Purpose.TheVariants.{Isolating}
use Rattle.choosing.specs.declared.Signature.{Signature}
use Rattle.locating.specs.Locating.{Location, agreeing, location, located_of}
use Rattle.locating.specs.Locating.Location.{parted, nowhere}

-- "the list that choosing returned, unchanged"
abbrev pub returned : Signature → List Entry
returned s = entries_at (take s.count s.indices) (take s.count s.outputs)

module _ (F : Family) where
  -- "a polarity when it is below N"
  abbrev pub ValidPolarity : ℕ → Type 0
  ValidPolarity k = k < 2 ^ F.inputs

  -- "a list when none of its entries is refused": each is an index below N, of an output that there is
  abbrev pub ValidList : List Entry → Type 0
  ValidList list = (e : Entry) → Memᴰ e list → (e.index < 2 ^ F.inputs) × (e.output < F.outputs)

  -- "Lent memory is enough when 10 doesn't apply": it has (f+1) × outputs × N places
  abbrev pub Enough : List ℕ → Type 0
  Enough work = places F ≤ length work

  -- "The listed circuits are 0 to f, the good one included; the listed faults are 1 to f."
  abbrev pub ListedCircuit : ℕ → Type 0
  ListedCircuit c = c < F.circuits

  abbrev pub ListedFault : ℕ → Type 0
  ListedFault c = (1 ≤ c) × ListedCircuit c

  -- two circuits "give equal outputs on every input"; "all outputs agree on every input"
  abbrev pub EqualOutputs : ℕ → ℕ → Type 0
  EqualOutputs a b = (o m : ℕ) → o < F.outputs → m < 2 ^ F.inputs → F.entry a o m ≡ F.entry b o m

  -- "pairs whose parts differ"
  abbrev pub PartsDiffer : ℕ → ℕ → Type 0
  PartsDiffer a b = F.part a ≡ F.part b → ⊥

  -- "two listed faults, or a listed fault and the good circuit, give equal outputs on every input"; "two faults with equal functions are alike only" where
  -- their parts differ
  abbrev pub AlikePair : ℕ → ℕ → Type 0
  AlikePair a b = (a < b) × ListedCircuit a × ListedFault b × PartsDiffer a b × EqualOutputs a b

  abbrev pub SomeAlike : Type 0
  SomeAlike = (a : ℕ) × (b : ℕ) × AlikePair a b

  -- "the first such pair, by lower number, then by higher"
  abbrev pub FirstAlike : ℕ → ℕ → Type 0
  FirstAlike a b = AlikePair a b × ((x y : ℕ) → AlikePair x y → (a < x) ⊎ ((a ≡ x) × (b ≤ y)))

  module _ (kind : Kind) (k : ℕ) where
    -- "A circuit's readings for a list are its coefficients at the list's indices, in list order, for the job, kind and polarity given."
    abbrev pub readings : List Entry → ℕ → List ℕ
    readings list c = readings_of kind k F list c

    -- "A circuit gives readings when it agrees with them."
    abbrev pub Gives : List Entry → List ℕ → ℕ → Type 0
    Gives list numbers c = readings list c ≡ numbers

    -- the lowest listed circuit that gives readings
    abbrev pub LowestGiving : List Entry → List ℕ → ℕ → Type 0
    LowestGiving list numbers d = ListedCircuit d × Gives list numbers d × ((c : ℕ) → c < d → Gives list numbers c → ⊥)

    abbrev pub NoneGives : List Entry → List ℕ → Type 0
    NoneGives list numbers = (c : ℕ) → ListedCircuit c → Gives list numbers c → ⊥

    -- "In every other case the signature that document 01's method fixes comes back": `list`
    pub record Isolated (isolate : AtExit) (locate : List Entry → List ℕ → Answer Location) (list : List Entry) : Type 0 where
      pub comes_back : (isolate.number ≡ 0) × (returned isolate.signature ≡ list)
      pub by_method : list ≡ signature_in Isolating kind k F
      -- "It has at most as many coefficients as there are faults"
      pub short : length list ≤ F.circuits - 1
      pub valid : ValidList list
      -- "Whichever one of them is dropped, two listed circuits have equal readings on the rest."; "The rest, when one coefficient is dropped, is the
      -- signature without that entry."; "the clause on dropping keep[s] the same words over needed pairs"
      pub each_counts : (i : ℕ) → i < length list
          → (a : ℕ) × (b : ℕ) × (a < b) × ListedCircuit b × PartsDiffer a b × (readings (without i list) a ≡ readings (without i list) b)
      -- "The promise that a listed circuit is named is from here a promise of its part": locating with this signature the readings of any listed circuit gives
      -- its part, "with the lowest circuit" that has these readings
      pub named_part : (c : ℕ) → ListedCircuit c
          → (d : ℕ) × LowestGiving list (readings list c) d × (locate list (readings list c) ≡ gives (parted (F.part c) d))

    -- "For every valid list of indices, the signature included, and whatever readings, as many as the list is long": `answer` is locating's
    pub record Located (list : List Entry) (numbers : List ℕ) (answer : Answer Location) : Type 0 where
      -- "locating says none exactly when no listed circuit, the good one included, gives these readings"
      pub none_if : NoneGives list numbers → answer ≡ gives nowhere
      pub none_only : answer ≡ gives nowhere → NoneGives list numbers
      -- "and otherwise gives the result that document 01 fixes"
      pub result : answer ≡ gives (location F.part (agreeing kind k F list numbers))

    pub record Demand3 (isolate : AtExit) (locate : List Entry → List ℕ → Answer Location) : Type 0 where
      -- "an isolating signature is refused as alike exactly when two listed faults, or a listed fault and the good circuit, give equal outputs on every
      -- input", and have different parts; "Refused as alike means 15", with the first such pair
      pub alike_if : SomeAlike → isolate.number ≡ 15
      pub alike_only : isolate.number ≡ 15 → (a : ℕ) × (b : ℕ) × (isolate.pair ≡ pair a b) × FirstAlike a b
      pub otherwise : (SomeAlike → ⊥) → (list : List Entry) × Isolated isolate locate list
      pub located : (list : List Entry) (numbers : List ℕ) → ValidList list → length list ≡ length numbers
          → Located list numbers (locate list numbers)

-- "A job is valid when no refusal of reading applies to it": the bytes give this job
abbrev pub ValidJob : List ℕ → Job → Type 0
ValidJob s j = reading s ≡ gives j

-- what isolating answers and leaves, lent this work
abbrev pub isolating : List ℕ → Kind → ℕ → List ℕ → AtExit
isolating s kind k work = at_exit (counts_in (reading s)) (chosen_of Isolating s kind k (length work)) work

-- what locating answers, lent this work and the list as its indices and its outputs
abbrev pub locating : List ℕ → Kind → ℕ → List ℕ → List Entry → List ℕ → Answer Location
locating s kind k work list numbers = (leaves (located_of s kind k (indices_of list) (outputs_of list) numbers (length work)) work).answer

-- "Given enough lent memory, whatever it held, and whatever valid job, kind of spectrum and valid polarity are chosen": choosing is lent `work`, locating
-- `other`
abbrev pub Demand : Type 0
Demand =
    (s : List ℕ) (kind : Kind) (k : ℕ) (work other : List ℕ) (j : Job)
    → ValidJob s j → ValidPolarity (family_of j) k → Enough (family_of j) work → Enough (family_of j) other
    → Demand3 (family_of j) kind k (isolating s kind k work) (locating s kind k other)
