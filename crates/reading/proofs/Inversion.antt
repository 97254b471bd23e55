-- What bytes that read as a record say of it: the parser of specs/Reading.antt read backwards.
--
--   EntryTaken, entry_fields_gives   what the three fields of an entry took off the front of a string of bits
--   GateTaken, gate_gives            what a gate took, and the tests that it passed
--   OutputTaken, output_line_gives   the same for an output line
--   FaultTaken, fault_gives          the same for a fault
--   Chain                            entries taken one behind the other, each as a relation says
--   EntriesTaken, entries_gives      what a run of entries took, and the list that it left
--   chain_each                       what holds of each entry taken holds of each entry of the list
--   sets_front, sets_at, sets_taken   the list that a run left has the entries taken in front
--   Parts, reading_parts            what a whole job took, and the tests that it passed
use Prim.Native.Nat.{ℕ, zero, suc, ◌+◌, ◌-◌, ◌^◌, ◌≤◌, ◌<◌}
use native.Mathlib.Nat.{add-zero, zero-add, not-suc-le-zero, le_of_suc-le-suc}
use native.Mathlib.Omega.{arith}
use mathlib.Core.Path.{◌≡◌, refl, sym, ap, ◌∙◌, subst}
use mathlib.Core.Bool.{true, ◌&&◌}
use mathlib.Core.List.{List, [], ◌∷◌, ◌++◌}
use lib.Dec.{ltb}
use lib.ListN.{length, get_or, take, drop, set, get_or-append}
use lib.Seq.{sets, sets-eq, take-append_seam}
use Rattle.bits.specs.Answer.{Answer, unless}
use Rattle.bits.specs.Answer.Answer.{gives, refused}
use Rattle.bits.specs.Bits.{bits_of, string_of}
use Rattle.bits.specs.Field.{spare_only}
use Rattle.bits.specs.Parser.{Parser, Parsed, parsed}
use Rattle.bits.proofs.Answers.{gives_same, never_gives, unless_gives, and_then_gives, check_then, Taken, field_then}
use Rattle.bits.proofs.Bits.{AllBits, bits_string_of}
use Rattle.job.specs.Check.{inputs_ok, gate_count_ok, output_ok, fault_line_ok, part_ok}
use Rattle.job.specs.Dependence.{none_loose, no_loose}
use Rattle.job.specs.Layout.{input_count_bits, gate_count_bits, gate_kind_bits, line_bits, output_count_bits, fault_count_bits, fault_kind_bits, part_bits}
use Rattle.job.specs.Record.{gate_of, fault_of, lines, empty_job, no_gates, no_outputs, no_faults}
use Rattle.job.specs.declared.FaultEntry.{FaultEntry}
use Rattle.job.specs.declared.GateEntry.{GateEntry}
use Rattle.job.specs.declared.Job.{Job}
use Rattle.reading.specs.Reading.{Entry, entry_fields, unary_lines_ok, gate, output_line, fault_lines_ok, fault, entries_from, spare, from_end, from_faults, from_fault_count, from_outputs, from_output_count, from_gates, whole_job, value_read, reading}

pub record EntryTaken (w : ℕ) (bits : List ℕ) (e : Entry) (rest : List ℕ) : Type 0 where
  pub text : bits ≡ bits_of w e.kind ++ (bits_of line_bits e.a ++ (bits_of line_bits e.b ++ rest))
  pub kind_fits : e.kind < 2 ^ w
  pub bits_left : AllBits rest

pub entry_fields_gives : (w : ℕ) (bits : List ℕ) (q : Parsed Entry) → AllBits bits → entry_fields w bits ≡ gives q → EntryTaken w bits q.value q.rest
unfolding entry_fields
entry_fields_gives w bits q h e =
    field_then w bits _ h e λ kind r t e.
    field_then line_bits r _ t.bits_left e λ a r' t' e.
    field_then line_bits r' _ t'.bits_left e λ b r'' t'' e.
    subst (λ (p : Parsed Entry). EntryTaken w bits p.value p.rest) (gives_same e)
    (record {
      text = t.text ∙ ap (λ (x : List ℕ). bits_of w kind ++ x) (t'.text ∙ ap (λ (x : List ℕ). bits_of line_bits a ++ x) t''.text);
      kind_fits = t.fits;
      bits_left = t''.bits_left;
    })

pub record GateTaken (own : ℕ) (bits : List ℕ) (x : GateEntry) (rest : List ℕ) : Type 0 where
  pub entry : Entry
  pub same : x ≡ record { gate = gate_of entry.kind entry.a entry.b }
  pub below : ltb entry.a own && ltb entry.b own ≡ true
  pub lines_ok : unary_lines_ok entry.kind entry.a entry.b ≡ true
  pub taken : EntryTaken gate_kind_bits bits entry rest

pub gate_gives : (own : ℕ) (bits : List ℕ) (q : Parsed GateEntry) → AllBits bits → gate own bits ≡ gives q → GateTaken own bits q.value q.rest
unfolding gate
gate_gives own bits q h e =
    let t = and_then_gives (entry_fields gate_kind_bits bits) _ e in
    let x = t.0.value in
    check_then (ltb x.a own && ltb x.b own) 4 t.0.rest _ t.2 λ below e.
    check_then (unary_lines_ok x.kind x.a x.b) 5 t.0.rest _ e λ lines_ok e.
    record {
      entry = x;
      same = sym (ap (λ (p : Parsed GateEntry). p.value) (gives_same e));
      below = below;
      lines_ok = lines_ok;
      taken = subst (λ (l : List ℕ). EntryTaken gate_kind_bits bits x l) (ap (λ (p : Parsed GateEntry). p.rest) (gives_same e)) (entry_fields_gives gate_kind_bits bits t.0 h t.1);
    }

pub record OutputTaken (count : ℕ) (bits : List ℕ) (line : ℕ) (rest : List ℕ) : Type 0 where
  pub below : output_ok count line ≡ true
  pub taken : Taken line_bits bits line rest

pub output_line_gives : (count : ℕ) (bits : List ℕ) (q : Parsed ℕ) → AllBits bits → output_line count bits ≡ gives q → OutputTaken count bits q.value q.rest
unfolding output_line
output_line_gives count bits q h e =
    field_then line_bits bits _ h e λ line r t e.
    check_then (output_ok count line) 6 r _ e λ below e.
    subst (λ (p : Parsed ℕ). OutputTaken count bits p.value p.rest) (gives_same e) (record { below = below; taken = t })

pub record FaultTaken (n count : ℕ) (bits : List ℕ) (x : FaultEntry) (rest : List ℕ) : Type 0 where
  pub entry : Entry
  pub behind : List ℕ
  pub same : x.fault ≡ fault_of entry.kind entry.a entry.b
  pub below : fault_line_ok n count (fault_of entry.kind entry.a entry.b) ≡ true
  pub lines_ok : fault_lines_ok entry.kind entry.a entry.b ≡ true
  pub part_ok_lem : part_ok x.part ≡ true
  pub taken : EntryTaken fault_kind_bits bits entry behind
  pub part_taken : Taken part_bits behind x.part rest

pub fault_gives : (n count : ℕ) (bits : List ℕ) (q : Parsed FaultEntry) → AllBits bits → fault n count bits ≡ gives q → FaultTaken n count bits q.value q.rest
unfolding fault
fault_gives n count bits q h e =
    let t = and_then_gives (entry_fields fault_kind_bits bits) _ e in
    let x = t.0.value in
    let taken = entry_fields_gives fault_kind_bits bits t.0 h t.1 in
    field_then part_bits t.0.rest _ taken.bits_left t.2 λ part r part_taken e.
    check_then (fault_line_ok n count (fault_of x.kind x.a x.b)) 7 r _ e λ below e.
    check_then (fault_lines_ok x.kind x.a x.b) 8 r _ e λ lines_ok e.
    check_then (part_ok part) 21 r _ e λ part_ok_lem e.
    subst (λ (p : Parsed FaultEntry). FaultTaken n count bits p.value p.rest) (gives_same e)
    (record {
      entry = x;
      behind = t.0.rest;
      same = refl;
      below = below;
      lines_ok = lines_ok;
      part_ok_lem = part_ok_lem;
      taken = taken;
      part_taken = part_taken;
    })

abbrev pub Chain : {A : Type 0} → (ℕ → List ℕ → A → List ℕ → Type 0) → ℕ → List ℕ → List A → List ℕ → Type 0
Chain R i bits [] rest = bits ≡ rest
Chain R i bits (e ∷ es) rest = (mid : List ℕ) × R i bits e mid × Chain R (suc i) mid es rest

pub record EntriesTaken {A : Type 0} (R : ℕ → List ℕ → A → List ℕ → Type 0) (count i : ℕ) (entries : List A) (bits : List ℕ) (left : List A) (rest : List ℕ) : Type 0 where
  pub taken : List A
  pub many : length taken ≡ count
  pub same : left ≡ sets entries i taken
  pub chain : Chain R i bits taken rest
  pub bits_left : AllBits rest

module _ {A : Type 0} (p : ℕ → Parser A) (R : ℕ → List ℕ → A → List ℕ → Type 0)
    (step : (i : ℕ) (bits : List ℕ) (q : Parsed A) → AllBits bits → p i bits ≡ gives q → R i bits q.value q.rest × AllBits q.rest) where
  pub entries_gives : (count i : ℕ) (entries : List A) (bits : List ℕ) (q : Parsed (List A)) → AllBits bits → entries_from p count i entries bits ≡ gives q
      → EntriesTaken R count i entries bits q.value q.rest
  unfolding entries_from
  entries_gives zero i entries bits q h e =
      subst (λ (p : Parsed (List A)). EntriesTaken R zero i entries bits p.value p.rest) (gives_same e)
      (record { taken = []; many = refl; same = refl; chain = refl; bits_left = h })
  entries_gives (suc count) i entries bits q h e =
      let t = and_then_gives (p i bits) (λ a. entries_from p count (suc i) (set entries i a)) e in
      let r = step i bits t.0 h t.1 in
      let u = entries_gives count (suc i) (set entries i t.0.value) t.0.rest q r.1 t.2 in
      record {
        taken = t.0.value ∷ u.taken;
        many = ap suc u.many;
        same = u.same;
        chain = (t.0.rest, r.0, u.chain);
        bits_left = u.bits_left;
      }

module _ {A : Type 0} (R : ℕ → List ℕ → A → List ℕ → Type 0) (Good : ℕ → A → Type 0)
    (good : (i : ℕ) (bits : List ℕ) (e : A) (rest : List ℕ) → R i bits e rest → Good i e) where
  pub chain_each : (es : List A) (i : ℕ) (bits rest : List ℕ) → Chain R i bits es rest → (d : A) (k : ℕ) → k < length es → Good (i + k) (get_or es k d)
  chain_each [] i bits rest c d k h = absurd (not-suc-le-zero h)
  chain_each (e ∷ es) i bits rest c d zero h = rw add-zero (good i bits e c.0 c.1)
  chain_each (e ∷ es) i bits rest c d (suc k) h =
      let s : i + suc k ≡ suc i + k = omega arith in
      rw s (chain_each es (suc i) c.0 rest c.2 d k (le_of_suc-le-suc h))

module _ {A : Type 0} (es l : List A) (h : length es ≤ length l) where
  pub sets_front : sets l 0 es ≡ es ++ drop (length es) l
  sets_front = sets-eq es l 0 (rw zero-add h) ∙ ap (λ (k : ℕ). es ++ drop k l) (zero-add (length es))

  pub sets_at : (d : A) (k : ℕ) → k < length es → get_or (sets l 0 es) k d ≡ get_or es k d
  sets_at d k m = ap (λ (x : List A). get_or x k d) sets_front ∙ get_or-append es (drop (length es) l) d k m

  pub sets_taken : take (length es) (sets l 0 es) ≡ es
  sets_taken = ap (take (length es)) sets_front ∙ take-append_seam es (drop (length es) l)

pub record Parts (bits : List ℕ) (j : Job) : Type 0 where
  pub before_gates : List ℕ
  pub after_gates : List ℕ
  pub before_outputs : List ℕ
  pub after_outputs : List ℕ
  pub before_faults : List ℕ
  pub spare_bits : List ℕ
  pub counts_text : bits ≡ bits_of input_count_bits j.inputs ++ (bits_of gate_count_bits j.gate_count ++ before_gates)
  pub inputs_ok_lem : inputs_ok j.inputs ≡ true
  pub gates_ok : gate_count_ok j.gate_count ≡ true
  pub gates : EntriesTaken (λ q. GateTaken (j.inputs + q)) j.gate_count 0 no_gates before_gates j.gates after_gates
  pub output_count_text : after_gates ≡ bits_of output_count_bits (j.output_count - 1) ++ before_outputs
  pub outputs_some : 1 ≤ j.output_count
  pub output_count_fits : j.output_count ≤ 2 ^ output_count_bits
  pub outputs : EntriesTaken (λ _. OutputTaken (lines j)) j.output_count 0 no_outputs before_outputs j.outputs after_outputs
  pub tight : no_loose j ≡ true
  pub fault_count_text : after_outputs ≡ bits_of fault_count_bits j.fault_count ++ before_faults
  pub fault_count_fits : j.fault_count < 2 ^ fault_count_bits
  pub faults : EntriesTaken (λ _. FaultTaken j.inputs (lines j)) j.fault_count 0 no_faults before_faults j.faults spare_bits
  pub spare_ok : spare_only spare_bits ≡ true

gates_give : (n count : ℕ) (entries : List GateEntry) (bits : List ℕ) (q : Parsed (List GateEntry)) → AllBits bits
    → entries_from (λ k. gate (n + k)) count 0 entries bits ≡ gives q → EntriesTaken (λ k. GateTaken (n + k)) count 0 entries bits q.value q.rest
gates_give n count =
    entries_gives (λ k. gate (n + k)) (λ k. GateTaken (n + k))
    (λ k bits q h e. let t = gate_gives (n + k) bits q h e in (t, t.taken.bits_left)) count 0

outputs_give : (lines count : ℕ) (entries : List ℕ) (bits : List ℕ) (q : Parsed (List ℕ)) → AllBits bits
    → entries_from (λ _. output_line lines) count 0 entries bits ≡ gives q → EntriesTaken (λ _. OutputTaken lines) count 0 entries bits q.value q.rest
outputs_give lines count =
    entries_gives (λ _. output_line lines) (λ _. OutputTaken lines)
    (λ k bits q h e. let t = output_line_gives lines bits q h e in (t, t.taken.bits_left)) count 0

faults_give : (n lines count : ℕ) (entries : List FaultEntry) (bits : List ℕ) (q : Parsed (List FaultEntry)) → AllBits bits
    → entries_from (λ _. fault n lines) count 0 entries bits ≡ gives q → EntriesTaken (λ _. FaultTaken n lines) count 0 entries bits q.value q.rest
faults_give n lines count =
    entries_gives (λ _. fault n lines) (λ _. FaultTaken n lines)
    (λ k bits q h e. let t = fault_gives n lines bits q h e in (t, t.part_taken.bits_left)) count 0

from_end_gives : (j : Job) (bits : List ℕ) (q : Parsed Job) → from_end j bits ≡ gives q → (spare_only bits ≡ true) × (j ≡ q.value)
unfolding from_end spare
from_end_gives j bits q e =
    let t = and_then_gives (unless (spare_only bits) 9 (parsed tt [])) _ e in
    ((unless_gives (spare_only bits) 9 (parsed tt []) t.1).0, ap (λ (p : Parsed Job). p.value) (gives_same t.2))

whole_job_parts : (bits : List ℕ) (q : Parsed Job) → AllBits bits → whole_job bits ≡ gives q → Parts bits q.value
unfolding whole_job from_gates from_output_count from_outputs from_fault_count from_faults empty_job
whole_job_parts bits q h e =
    field_then input_count_bits bits _ h e λ n r₁ t₁ e.
    check_then (inputs_ok n) 2 r₁ _ e λ inputs_ok_lem e.
    field_then gate_count_bits r₁ _ t₁.bits_left e λ g r₂ t₂ e.
    check_then (gate_count_ok g) 3 r₂ _ e λ gates_ok e.
    let gs = and_then_gives (entries_from (λ k. gate (n + k)) g 0 no_gates r₂) _ e in
    let gt = gates_give n g no_gates r₂ gs.0 t₂.bits_left gs.1 in
    field_then output_count_bits gs.0.rest _ gt.bits_left gs.2 λ less r₃ t₃ e.
    let os = and_then_gives (entries_from (λ _. output_line (n + g)) (less + 1) 0 no_outputs r₃) _ e in
    let ot = outputs_give (n + g) (less + 1) no_outputs r₃ os.0 t₃.bits_left os.1 in
    check_then (none_loose n (take g gs.0.value) (take (less + 1) os.0.value)) 19 os.0.rest _ os.2 λ tight e.
    field_then fault_count_bits os.0.rest _ ot.bits_left e λ f r₄ t₄ e.
    let fs = and_then_gives (entries_from (λ _. fault n (n + g)) f 0 no_faults r₄) _ e in
    let ft = faults_give n (n + g) f no_faults r₄ fs.0 t₄.bits_left fs.1 in
    let job : Job =
    record {
      inputs = n;
      gate_count = g;
      gates = gs.0.value;
      output_count = less + 1;
      outputs = os.0.value;
      fault_count = f;
      faults = fs.0.value;
    }
    in
    let end = from_end_gives job fs.0.rest q fs.2 in
    let one_less : less ≡ less + 1 - 1 = omega arith in
    subst (λ (j : Job). Parts bits j) end.1
    (record {
      before_gates = r₂;
      after_gates = gs.0.rest;
      before_outputs = r₃;
      after_outputs = os.0.rest;
      before_faults = r₄;
      spare_bits = fs.0.rest;
      counts_text = t₁.text ∙ ap (λ (x : List ℕ). bits_of input_count_bits n ++ x) t₂.text;
      inputs_ok_lem = inputs_ok_lem;
      gates_ok = gates_ok;
      gates = gt;
      output_count_text = t₃.text ∙ ap (λ (k : ℕ). bits_of output_count_bits k ++ r₃) one_less;
      outputs_some = omega arith;
      output_count_fits = omega (arith, t₃.fits);
      outputs = ot;
      tight = tight;
      fault_count_text = t₄.text;
      fault_count_fits = t₄.fits;
      faults = ft;
      spare_ok = end.0;
    })

value_read_gives : {A : Type 0} {a : A} (r : Answer (Parsed A)) → value_read r ≡ gives a → (p : Parsed A) × (r ≡ gives p) × (p.value ≡ a)
value_read_gives (gives p) e = (p, refl, gives_same e)
value_read_gives (refused k) e = absurd (never_gives e)

pub reading_parts : (s : List ℕ) (j : Job) → reading s ≡ gives j → Parts (string_of s) j
unfolding reading
reading_parts s j e =
    let t = value_read_gives (whole_job (string_of s)) e in
    subst (λ (x : Job). Parts (string_of s) x) t.2 (whole_job_parts (string_of s) t.0 (bits_string_of s) t.1)
