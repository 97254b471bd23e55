-- Choosing over the filled work is choosing for the listed circuits (specs/Choosing.antt, specs/Looking.antt).
--
--   marks_needed      circuits a below b are needed apart exactly when their marks differ
--   needed_same       which pairs are needed depends on the parts alone
--   filled_answer     what the method chooses from the spectra in the work, by the marks of a purpose
--   chosen_same       choosing sees no more of a family than its parts and entries
--   chosen_room       where the spectra are filled, there was room for them
--   chosen_unfilled   a refusal of the spectra is choosing's
--   chosen_filled     and what is chosen over the work is choosing's answer
--   job_unread        reading's refusals
--   job_chosen        from the tables of a job's circuits it is choosing for the job
use Prim.Native.Nat.{ℕ, zero, suc, ◌+◌, ◌*◌, ◌^◌, ◌≤◌, ◌<◌}
use native.Mathlib.Nat.{mul_assoc, mul_comm, mul-le-mul}
use native.Mathlib.Omega.{arith}
use mathlib.Core.Path.{◌≡◌, refl, sym, ap, ap₂, subst, ◌∙◌}
use mathlib.Core.Bool.{Bool, true, not, ◌&&◌}
use mathlib.Core.List.{List, [], ◌++◌, Memᴰ}
use borrow.Author.Tests.{le-leb, ltb-true, ne_eqb}
use Rattle.std.specs.Prelude.{Result}
use lib.Dec.{leb, eqb}
use lib.ListN.{length, get_or, take, drop, length-append}
use lib.Pow.{pow_pos}
use Rattle.bits.specs.Answer.{Answer, Fills, Leaves, leaves, unless, onward}
use Rattle.bits.specs.Answer.Answer.{gives, refused}
use Rattle.bits.proofs.Answers.{never_gives, refused_same, unless_onward, onward_onward}
use Rattle.job.specs.Layout.{max_faults}
use Rattle.job.specs.declared.Job.{Job}
use Rattle.reading.specs.Reading.{reading}
use Rattle.bits.specs.Bounds.{each_below, all_below}
use Rattle.tables.specs.Family.{Family, family_of, same_tables}
use Rattle.tables.specs.Operations.{no_counts, part_in}
use Rattle.tables.specs.declared.Counts.{Counts}
use Rattle.tables.specs.declared.Delivery.{Delivery}
use Rattle.tables.proofs.Families.{SameFamily, Delivers}
use Rattle.spectra.specs.Codes.{code_of, codes_of}
use Rattle.spectra.specs.Listed.{Entry, coef_of, family_spectra, places}
use Rattle.spectra.specs.Operations.{tables_checked, table_family, from_tables, filled_from, polarity_ok}
use Rattle.spectra.specs.Rows.{rows_of}
use Rattle.spectra.specs.declared.Kind.{Kind}
use Rattle.spectra.proofs.Bounds.{coefficient_ext}
use Rattle.spectra.proofs.Families.{length_family_spectra, work_entry, spectra_same, Given, rows_given, table_family_valid, Respects, delivered_family}
use Rattle.method.specs.Method.{agree, signature, first_pair, Pair}
use Rattle.method.specs.Method.Pair.{nobody, pair}
use Rattle.method.proofs.Congruence.{agree_same, signature_same}
use Rattle.method.proofs.Firsts.{first_pair_same}
use Rattle.method.proofs.Names.{agree_named, signature_named}
use Rattle.bits.proofs.Tests.{by_test}
use Rattle.chooser.specs.Matrix as chooser
use Rattle.chooser.specs.Matrix.{cell, differ, max_rows, fits, choice_over}
use Rattle.bits.proofs.Bounds.{each_same}
use Rattle.chooser.proofs.Relation.{choice_needed}
use Rattle.choosing.specs.Choosing.{needed, scan_order, entries_of, scan_entries, signature_in, alike_pair, signature_of, Finding, finding_by, finding, chosen_from, chosen_of, found, at_exit, told, counts_in}
use Rattle.choosing.specs.Looking.{marks_of, wanted, Filled, chosen_by, scan_codes, chosen_in}
use Rattle.choosing.specs.declared.Chosen.{Chosen}
use Rattle.choosing.specs.declared.Purpose.{Purpose}
use Rattle.choosing.specs.declared.Purpose.TheVariants.{Isolating, Detecting}
use Rattle.choosing.specs.declared.Unchosen.{Unchosen}
use Rattle.choosing.specs.declared.Signature.{Signature}
use Rattle.choosing.proofs.Arrays.{faulty_mark}
use Rattle.choosing.proofs.Bound.{signature_below}
use Rattle.choosing.proofs.Entries.{entries_within, looked_entry}
use Rattle.choosing.proofs.EntryNumbers.{length_codes, scan_size, codes_within, decoded_codes}
use Rattle.choosing.proofs.Equality.{alike_tables}
use Rattle.choosing.proofs.Indices.{scan_below}
use Rattle.choosing.proofs.Sizes.{faults_rows}

-- ---- which pairs are needed

pub marks_needed : (purpose : Purpose) (parts : List ℕ) (a b : ℕ) → a < b → b ≤ max_faults
    → differ (marks_of purpose parts) a b ≡ needed purpose (part_in parts) a b
marks_needed Isolating parts a b h l = refl
marks_needed Detecting parts a zero h l = absurd (omega arith)
marks_needed Detecting parts zero (suc b) h l = ap (λ (m : ℕ). not (eqb 0 m)) (faulty_mark b (omega arith))
marks_needed Detecting parts (suc a) (suc b) h l =
    ap₂ (λ (x y : ℕ). not (eqb x y)) (faulty_mark a (omega arith)) (faulty_mark b (omega arith))
    ∙ sym (ne_eqb (suc a) 0 (λ e. omega arith))

pub needed_same : (purpose : Purpose) (part other : ℕ → ℕ) → ((c : ℕ) → part c ≡ other c) → (a b : ℕ) → needed purpose part a b ≡ needed purpose other a b
needed_same Isolating part other same a b = ap₂ (λ (x y : ℕ). not (eqb x y)) (same a) (same b)
needed_same Detecting part other same a b = refl

-- ---- the method over the work

module _ (counts : Counts) (work : List ℕ) (enough : Filled counts (length work)) where
  abbrev n : ℕ
  n = counts.inputs

  abbrev rows : ℕ
  rows = counts.faults + 1

  abbrev width : ℕ
  width = counts.outputs * 2 ^ n

  codes_below : all_below width (scan_codes counts) ≡ true
  codes_below =
      codes_within (2 ^ n) counts.outputs (entries_of counts.outputs (scan_order n))
      (λ e m. entries_within counts.outputs (scan_order n) (2 ^ n) (λ i p. scan_below n p) m)

  filled_fits : fits work width rows (scan_codes counts) ≡ true
  unfolding fits
  filled_fits =
      let few : rows ≤ max_rows = omega (arith, enough.faults_few, faults_rows) in
      let some : 1 ≤ width = mul-le-mul enough.one (pow_pos n) in
      let room : rows * width ≤ length work = subst (λ (x : ℕ). x ≤ length work) (mul_assoc rows counts.outputs (2 ^ n)) enough.enough in
      simp (
        le-leb 1 rows (omega arith),
        le-leb rows max_rows few,
        le-leb 1 width some,
        le-leb (rows * width) (length work) room,
        codes_below,
      )

  module _ (purpose : Purpose) where
    -- the marks of the purpose tell which pairs are needed
    marked : (marks : List ℕ) → length marks ≡ max_rows → marks ≡ marks_of purpose counts.parts
        → chooser.choice work width rows marks (scan_codes counts) ≡ choice_over work width rows (wanted purpose counts) (scan_codes counts)
    marked marks long of =
        let few : rows ≤ max_rows = omega (arith, enough.faults_few, faults_rows) in
        choice_needed work width rows marks (scan_codes counts) (wanted purpose counts) filled_fits (subst (λ (m : ℕ). rows ≤ m) (sym long) few)
        (λ a b h k. ap (λ (l : List ℕ). differ l a b) of ∙ marks_needed purpose counts.parts a b h (omega (arith, enough.faults_few)))

    pub filled_answer : (marks : List ℕ) (count : ℕ) (list : List ℕ) → length marks ≡ max_rows → marks ≡ marks_of purpose counts.parts
        → count ≡ length (scan_codes counts) → list ≡ scan_codes counts
        → chosen_by counts (chooser.choice work count rows marks list) ≡ chosen_in purpose counts (cell work width)
    unfolding choice_over
    filled_answer marks count list long of p q =
        let wide : count ≡ width =
        p ∙ length_codes (2 ^ n) counts.outputs (scan_order n) ∙ ap (λ (x : ℕ). x * counts.outputs) (scan_size n) ∙ mul_comm (2 ^ n) counts.outputs
        in
        ap (chosen_by counts) (ap₂ (λ (x : ℕ) (l : List ℕ). chooser.choice work x rows marks l) wide q ∙ marked marks long of)

-- ---- families with the same entries

module _ (purpose : Purpose) (kind : Kind) (k room : ℕ) where
  module _ (F G : Family) (same : SameFamily F G) where
    -- the second family's parts and entries, its counts named as the first's
    abbrev other : Family
    other = record { inputs = F.inputs; circuits = F.circuits; outputs = F.outputs; part = G.part; entry = G.entry }

    other_is : other ≡ G
    other_is = λ i. record { inputs = same.inputs i; circuits = same.circuits i; outputs = same.outputs i; part = G.part; entry = G.entry }

    tables_same : (a b : ℕ) → a < F.circuits → b < F.circuits → same_tables F a b ≡ same_tables other a b
    tables_same a b h l =
        each_same F.outputs (λ o. each_below (2 ^ F.inputs) (λ m. eqb (F.entry a o m) (F.entry b o m)))
        (λ o. each_below (2 ^ F.inputs) (λ m. eqb (G.entry a o m) (G.entry b o m)))
        (λ o i. each_same (2 ^ F.inputs) (λ m. eqb (F.entry a o m) (F.entry b o m)) (λ m. eqb (G.entry a o m) (G.entry b o m))
        (λ m g. ap₂ eqb (same.entry a o m h i g) (same.entry b o m l i g)))

    finding_same : k < 2 ^ F.inputs → finding purpose kind k F ≡ finding purpose kind k other
    finding_same below =
        ap₂ finding_by
        (first_pair_same F.circuits (λ a b. needed purpose F.part a b && same_tables F a b) (λ a b. needed purpose G.part a b && same_tables other a b)
        (λ a b h l. ap₂ ◌&&◌ (needed_same purpose F.part G.part same.part a b) (tables_same a b (omega arith) l)))
        (signature_same (coef_of kind k F) (coef_of kind k other) F.circuits (needed purpose F.part) (needed purpose G.part) (scan_entries F)
        (λ c e h m. coefficient_ext kind F.inputs k (F.entry c e.output) (G.entry c e.output) e.index below
        (λ i g. same.entry c e.output i h (looked_entry F m).1 g))
        (λ a b h l. needed_same purpose F.part G.part same.part a b))

    spectra_other : k < 2 ^ F.inputs → family_spectra kind k F ≡ family_spectra kind k other
    spectra_other below =
        spectra_same kind k F other (record { inputs = refl; circuits = refl; outputs = refl; one = same.one; part = same.part; entry = same.entry }) below

    -- past the checks
    past : Family → Answer (Fills Finding)
    past X = unless (leb (places F) room) 10 (gives (record { value = finding purpose kind k X; filled = family_spectra kind k X }))

    polarity_other : chosen_from purpose F kind k room ≡ chosen_from purpose other kind k room
    unfolding chosen_from past
    polarity_other =
        by_test (polarity_ok F.inputs k)
        (λ t. let below = ltb-true k (2 ^ F.inputs) t in
        ap (λ (u : Bool). unless u 13 (past F)) t
        ∙ ap₂ (λ (v : Finding) (w : List ℕ). unless (leb (places F) room) 10 (gives (record { value = v; filled = w }))) (finding_same below) (spectra_other below)
        ∙ sym (ap (λ (u : Bool). unless u 13 (past other)) t))
        (λ t. ap (λ (u : Bool). unless u 13 (past F)) t ∙ sym (ap (λ (u : Bool). unless u 13 (past other)) t))

  pub chosen_same : Respects (λ F. chosen_from purpose F kind k room)
  chosen_same = record { same = λ F G same. polarity_other F G same ∙ ap (λ (X : Family). chosen_from purpose X kind k room) (other_is F G same) }

-- ---- the operation from tables

-- the signature's entries, or nothing beside a pair
told_found : (p : Pair) (counts : Counts) (l : List Entry) (memory : List ℕ) → ((e : Entry) → Memᴰ e l → e.index < 2 ^ counts.inputs)
    → told (chosen_by counts (chooser.choice_by p (codes_of (2 ^ counts.inputs) l))) memory ≡ found counts (finding_by p l) memory
told_found nobody counts l memory h =
    ap (λ (x : Signature). record { number = 0; pair = nobody; counts = counts; signature = x; memory = memory })
    (decoded_codes (2 ^ counts.inputs) l h)
told_found (pair a b) counts l memory h = refl

module _ (purpose : Purpose) (counts : Counts) (s : List ℕ) (kind : Kind) (k : ℕ) (work : List ℕ) where
  abbrev room : ℕ
  room = length work

  abbrev choosing : Family → Answer (Fills Finding)
  choosing F = chosen_from purpose F kind k room

  -- what choosing adds to the filled spectra
  abbrev adds : Family → Fills (Unit {0}) → Answer (Fills Finding)
  adds F w = gives (record { value = finding purpose kind k F; filled = w.filled })

  goes_on : (F : Family) → onward (filled_from F kind k room) (adds F) ≡ chosen_from purpose F kind k room
  unfolding chosen_from filled_from
  goes_on F =
      unless_onward (polarity_ok F.inputs k) 13
      (unless (leb (places F) room) 10 (gives (record { value = tt; filled = family_spectra kind k F }))) (adds F)
      ∙ ap (unless (polarity_ok F.inputs k) 13)
      (unless_onward (leb (places F) room) 10 (gives (record { value = tt; filled = family_spectra kind k F })) (adds F))

  abbrev spectra : Answer (Fills (Unit {0}))
  spectra = rows_of counts s kind k room

  -- the family of the tables
  abbrev family : Family
  family = table_family counts s

  abbrev answer : Answer (Fills Finding)
  answer = from_tables counts s choosing

  answer_onward : onward spectra (adds family) ≡ answer
  answer_onward =
      onward_onward (tables_checked counts s) (λ _. filled_from family kind k room) (adds family)
      ∙ ap (λ (x : Answer (Fills Finding)). onward (tables_checked counts s) (λ _. x)) (goes_on family)

  module _ {i : ℕ} {after : List ℕ} (p : record { answer = refused i; memory = after } ≡ leaves spectra work) where
    unfilled : (x : Answer (Fills (Unit {0}))) → x ≡ spectra → at_exit counts (refused i) after ≡ at_exit counts answer work
    unfilled (gives w) e = absurd (never_gives (ap (λ (x : Leaves (Unit {0})). x.answer) (p ∙ ap (λ (x : Answer (Fills (Unit {0}))). leaves x work) (sym e))))
    unfilled (refused j) e =
        let both : ◌≡◌ {A = Leaves (Unit {0})} (record { answer = refused i; memory = after }) (record { answer = refused j; memory = work }) =
        p ∙ ap (λ (x : Answer (Fills (Unit {0}))). leaves x work) (sym e) in
        ap₂ (λ (x : ℕ) (m : List ℕ). record { number = x; pair = nobody; counts = no_counts; signature = signature_of []; memory = m })
        (refused_same {A = Unit {0}} (ap (λ (x : Leaves (Unit {0})). x.answer) both)) (ap (λ (x : Leaves (Unit {0})). x.memory) both)
        ∙ ap (λ (x : Answer (Fills Finding)). at_exit counts x work)
        (ap (λ (x : Answer (Fills (Unit {0}))). onward x (adds family)) e ∙ answer_onward)

    pub chosen_unfilled : at_exit counts (refused i) after ≡ at_exit counts answer work
    chosen_unfilled = unfilled spectra refl

  module _ {after : List ℕ} (p : record { answer = gives tt; memory = after } ≡ leaves spectra work) where
    -- the work once it is filled
    record Full : Type 0 where
      now : Fills (Unit {0})
      is : spectra ≡ gives now
      done : after ≡ now.filled ++ drop (length now.filled) work
      given : Given counts s kind k room now.filled

    fully : (x : Answer (Fills (Unit {0}))) → x ≡ spectra → Full
    fully (refused i) e =
        absurd (never_gives (sym (ap (λ (x : Leaves (Unit {0})). x.answer) (p ∙ ap (λ (x : Answer (Fills (Unit {0}))). leaves x work) (sym e)))))
    fully (gives w) e =
        record {
          now = w;
          is = sym e;
          done = ap (λ (x : Leaves (Unit {0})). x.memory) (p ∙ ap (λ (x : Answer (Fills (Unit {0}))). leaves x work) (sym e));
          given = rows_given counts s kind k room (sym e);
        }

    full : Full
    full = fully spectra refl

    length_filled : length full.now.filled ≡ (counts.faults + 1) * counts.outputs * 2 ^ counts.inputs
    length_filled = ap length full.given.spectra ∙ length_family_spectra kind k family

    pub chosen_room : Filled counts (length after)
    chosen_room =
        let long : length after ≡ length full.now.filled + length (drop (length full.now.filled) work) =
        ap length full.done ∙ length-append full.now.filled _ in
        record {
          inputs_few = full.given.fits.few;
          one = full.given.fits.one;
          outputs_few = full.given.fits.outputs_few;
          faults_few = full.given.fits.faults_few;
          enough = omega (arith, length_filled);
        }

    abbrev size : ℕ
    size = 2 ^ counts.inputs

    -- the work's numbers are the coefficients
    coef : ℕ → ℕ → ℕ
    coef = cell after (counts.outputs * size)

    coef_at : (c : ℕ) (e : Entry) → c < counts.faults + 1 → Memᴰ e (scan_entries family) → coef c (code_of size e) ≡ coef_of kind k family c e
    unfolding coef
    coef_at c e h m =
        ap (λ (l : List ℕ). get_or l (c * (counts.outputs * size) + code_of size e) 0)
        (full.done ∙ ap (λ (x : List ℕ). x ++ drop (length full.now.filled) work) full.given.spectra)
        ∙ work_entry kind k family (drop (length full.now.filled) work) c e h (looked_entry family m).0 (looked_entry family m).1

    -- a row's number at an entry
    abbrev numbered : ℕ → Entry → ℕ
    numbered c e = coef c (code_of size e)

    agree_tables : (a b : ℕ) → a < b → b < counts.faults + 1 → agree coef (scan_codes counts) a b ≡ same_tables family a b
    agree_tables a b h l =
        agree_named (code_of size) coef (scan_entries family) a b
        ∙ agree_same numbered (coef_of kind k family) (scan_entries family) a b
        (λ e m. coef_at a e (omega arith) m) (λ e m. coef_at b e l m)
        ∙ alike_tables kind k family (table_family_valid counts s full.given.fits) full.given.below a b

    -- the signature over the work has the entries' numbers
    signed_so : signature coef (counts.faults + 1) (wanted purpose counts) (scan_codes counts) ≡ codes_of size (signature_in purpose kind k family)
    signed_so =
        signature_named (code_of size) coef (counts.faults + 1) (wanted purpose counts) (scan_entries family)
        ∙ ap (codes_of size)
        (signature_same numbered (coef_of kind k family) (counts.faults + 1) (wanted purpose counts) (wanted purpose counts) (scan_entries family)
        (λ c e h m. coef_at c e h m) (λ a b h l. refl))

    paired_so : first_pair (counts.faults + 1) (λ a b. wanted purpose counts a b && agree coef (scan_codes counts) a b) ≡ alike_pair purpose family
    paired_so =
        first_pair_same (counts.faults + 1) (λ a b. wanted purpose counts a b && agree coef (scan_codes counts) a b)
        (λ a b. wanted purpose counts a b && same_tables family a b)
        (λ a b h l. ap (λ (t : Bool). wanted purpose counts a b && t) (agree_tables a b h l))

    pub chosen_filled : {r : Result Chosen Unchosen} → r ≡ chosen_in purpose counts (cell after (counts.outputs * size)) → told r after ≡ at_exit counts answer work
    unfolding coef
    chosen_filled {r} e =
        ap (λ (x : Result Chosen Unchosen). told x after) e
        ∙ ap₂ (λ (p : Pair) (l : List ℕ). told (chosen_by counts (chooser.choice_by p l)) after) paired_so signed_so
        ∙ told_found (alike_pair purpose family) counts (signature_in purpose kind k family) after (λ e m. (signature_below purpose kind k family e m).0)
        ∙ ap (found counts (finding purpose kind k family)) full.done
        ∙ ap (λ (x : Answer (Fills Finding)). at_exit counts x work)
        (ap (λ (x : Answer (Fills (Unit {0}))). onward x (adds family)) (sym full.is) ∙ answer_onward)

-- ---- the operation for a job

module _ (purpose : Purpose) (s : List ℕ) (kind : Kind) (k : ℕ) (work : List ℕ) where
  pub job_unread : {i : ℕ} → reading s ≡ refused i
      → at_exit no_counts (refused i) work ≡ at_exit (counts_in (reading s)) (chosen_of purpose s kind k (length work)) work
  job_unread {i} e = ap (λ (x : Answer Job). at_exit (counts_in x) (onward x (λ j. chosen_from purpose (family_of j) kind k (length work))) work) (sym e)

  pub job_chosen : {r : Delivery} {packed : List ℕ} (d : Delivers s r packed)
      → at_exit r.counts (from_tables r.counts (take r.bytes packed) (λ F. chosen_from purpose F kind k (length work))) work
      ≡ at_exit (counts_in (reading s)) (chosen_of purpose s kind k (length work)) work
  job_chosen {r} {packed} d =
      ap₂ (λ (c : Counts) (x : Answer (Fills Finding)). at_exit c x work) d.counted
      (delivered_family d (λ F. chosen_from purpose F kind k (length work)) (chosen_same purpose kind k (length work)))
      ∙ ap (λ (x : Answer Job). at_exit (counts_in x) (onward x (λ j. chosen_from purpose (family_of j) kind k (length work))) work) (sym d.read)
