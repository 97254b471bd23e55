-- What writing answers and leaves (specs/Writing.antt), by the way it ends.
--
--   writes_refused   a record that is refused
--   writes_short     memory too short
--   writes_done      the job written
use Rattle.std.proofs.Common.{◌≡◌, ℕ, ◌≤◌, ◌<◌, List, Result, length, sym, le-leb}
use Rattle.std.proofs.lemmas.Bool.{lt-leb}
use Rattle.std.specs.Prelude.{IsErrAnd}
use Rattle.std.proofs.lemmas.Result.{err_from_is_err_and}
use Rattle.bits.specs.Answer.{Leaves, number, outcome, leaves}
use Rattle.bits.specs.Answer.Answer.{gives, refused}
use Rattle.bits.specs.Bits.{bytes_of}
use Rattle.bits.specs.declared.Refusal.{Refusal}
use Rattle.job.specs.Check.{checked}
use Rattle.job.specs.declared.Job.{Job}
use Rattle.writing.specs.Pen.{filled}
use Rattle.writing.specs.Writing.{job_bits, written}

module _ (j : Job) (memory : List ℕ) where
  pub writes_refused : (r : Result ℕ Refusal) (e : Refusal) → IsErrAnd r (λ y. y ≡ e) → refused (number e) ≡ checked j
      → ◌≡◌ {A = Leaves ℕ} (record { answer = outcome r; memory = memory }) (leaves (written j (length memory)) memory)
  unfolding written
  writes_refused r e h refusal = let p = err_from_is_err_and r h in rw (p.1, p.2) (simp (sym refusal))

  pub writes_short : {n : ℕ} → gives tt ≡ checked j → n ≡ length (bytes_of (job_bits j)) → length memory < n
      → ◌≡◌ {A = Leaves ℕ} (record { answer = refused 10; memory = memory }) (leaves (written j (length memory)) memory)
  unfolding written
  writes_short {n} e f h = simp (sym e, sym f, lt-leb n (length memory) h)

  pub writes_done : {n : ℕ} {after : List ℕ} → gives tt ≡ checked j → n ≡ length (bytes_of (job_bits j)) → n ≤ length memory → after ≡ filled (bytes_of (job_bits j)) memory
      → ◌≡◌ {A = Leaves ℕ} (record { answer = gives n; memory = after }) (leaves (written j (length memory)) memory)
  unfolding written
  writes_done {n} e f h m = simp (sym e, le-leb (length (bytes_of (job_bits j))) (length memory) (rw f at h), f, m)
