-- `writing::write` meets its contract.
use Rattle.job.proofs.Validity.{valid}
use Rattle.writing.proofs.Answers.{writes_refused, writes_short, writes_done}
use Rattle.writing.proofs.write.Goals as goal
use Rattle.std.proofs.Common.{sym}

pub returns-in_err-check : goal.returns-in_err-check
returns-in_err-check c = writes_refused c.args.job c.args.out.now _ _ c.from_residual.ensures.1 c.in_err-check.ensures

pub job_bytes-bytes-requires : goal.job_bytes-bytes-requires
job_bytes-bytes-requires c = valid c.args.job (sym c.in_ok-check.ensures)

pub returns-then-out-bytes : goal.returns-then-out-bytes
returns-then-out-bytes c = writes_short c.args.job c.args.out.now c.in_ok-check.ensures c.job_bytes-bytes.ensures c.if-out-bytes.true

pub put_job-requires-clause-valid : goal.put_job-requires-clause-valid
put_job-requires-clause-valid c = valid c.args.job (sym c.in_ok-check.ensures)

pub returns : goal.returns
returns c = writes_done c.args.job c.args.out.now c.in_ok-check.ensures c.job_bytes-bytes.ensures c.if-out-bytes.false c.put_job.ensures
