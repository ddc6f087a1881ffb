use Rattle.std.proofs.Common.{refl, rules}
use Rattle.kfifo_cli_commands.specs.Statuses.{status_number}
use Rattle.kfifo_cli_commands.proofs.Refusals.{any_err}
use Rattle.kfifo_cli_commands.proofs.ending.answer.Goals as goal

pub returns-in_err-print-in-Run-clause-broken : goal.returns-in_err-print-in-Run-clause-broken
returns-in_err-print-in-Run-clause-broken g c = any_err c.from_residual-in_err-print-in-Run.result _ (λ fault is. (
  c.as_bytes.result.now,
  0,
  rw (c.in-Run.is, c.as_bytes.ensures.value) (c.in_ok-text-in-Run.ensures.ok, refl),
  c.in_err-print-in-Run.ensures.err,
))

pub returns-in_err-print-in-Check-clause-broken : goal.returns-in_err-print-in-Check-clause-broken
returns-in_err-print-in-Check-clause-broken g c = any_err c.from_residual-in_err-print-in-Check.result _ (λ fault is. (
  c.as_bytes-in-Check.result.now,
  status_number c.in_ok-text-in-Check.status,
  rw (c.in-Check.is, c.as_bytes-in-Check.ensures.value) c.in_ok-text-in-Check.ensures.ok,
  c.in_err-print-in-Check.ensures.err,
))

pub returns-in_err-print-in-Measure-clause-broken : goal.returns-in_err-print-in-Measure-clause-broken
returns-in_err-print-in-Measure-clause-broken g c = any_err c.from_residual-in_err-print-in-Measure.result _
    (λ fault is. (
      c.as_bytes-in-Measure.result.now,
      0,
      rw (c.in-Measure.is, c.as_bytes-in-Measure.ensures.value) (c.in_ok-text-in-Measure.ensures.ok, refl),
      c.in_err-print-in-Measure.ensures.err,
    ))

pub returns-in_err-print-in-Replay-clause-broken : goal.returns-in_err-print-in-Replay-clause-broken
returns-in_err-print-in-Replay-clause-broken g c = any_err c.from_residual-in_err-print-in-Replay.result _
    (λ fault is. (
      c.as_bytes-in-Replay.result.now,
      0,
      rw (c.in-Replay.is, c.as_bytes-in-Replay.ensures.value) (c.in_ok-text-in-Replay.ensures.ok, refl),
      c.in_err-print-in-Replay.ensures.err,
    ))

pub returns-in_err-print-in-Judge-clause-broken : goal.returns-in_err-print-in-Judge-clause-broken
returns-in_err-print-in-Judge-clause-broken g c = any_err c.from_residual-in_err-print-in-Judge.result _ (λ fault is. (
  c.as_bytes-in-Judge.result.now,
  status_number c.in_ok-text-in-Judge.status,
  rw (c.in-Judge.is, c.as_bytes-in-Judge.ensures.value) c.in_ok-text-in-Judge.ensures.ok,
  c.in_err-print-in-Judge.ensures.err,
))

pub returns-in_err-status-in-JudgeFiles-clause-broken : goal.returns-in_err-status-in-JudgeFiles-clause-broken
returns-in_err-status-in-JudgeFiles-clause-broken g c =
    let broke = c.in_err-status-in-JudgeFiles.ensures.broken in rw c.in-JudgeFiles.is (search (rules, broke))

pub returns-in_err-status-in-JudgeFiles-clause-refused : goal.returns-in_err-status-in-JudgeFiles-clause-refused
returns-in_err-status-in-JudgeFiles-clause-refused g c =
    let refused = c.in_err-status-in-JudgeFiles.ensures.refused in rw c.in-JudgeFiles.is (search (rules, refused))

pub returns-in_err-print-in-Least-clause-broken : goal.returns-in_err-print-in-Least-clause-broken
returns-in_err-print-in-Least-clause-broken g c = any_err c.from_residual-in_err-print-in-Least.result _ (λ fault is. (
  c.as_bytes-in-Least.result.now,
  status_number c.in_ok-text-in-Least.status,
  rw (c.in-Least.is, c.as_bytes-in-Least.ensures.value) c.in_ok-text-in-Least.ensures.ok,
  c.in_err-print-in-Least.ensures.err,
))

pub returns-in_err-print-in-Record-clause-broken : goal.returns-in_err-print-in-Record-clause-broken
returns-in_err-print-in-Record-clause-broken g c = any_err c.from_residual-in_err-print-in-Record.result _
    (λ fault is. (
      c.as_bytes-in-Record.result.now,
      0,
      rw (c.in-Record.is, c.as_bytes-in-Record.ensures.value) (c.in_ok-text-in-Record.ensures.ok, refl),
      c.in_err-print-in-Record.ensures.err,
    ))

pub returns-in_err-print-in-Import-clause-broken : goal.returns-in_err-print-in-Import-clause-broken
returns-in_err-print-in-Import-clause-broken g c = any_err c.from_residual-in_err-print-in-Import.result _
    (λ fault is. (
      c.as_bytes-in-Import.result.now,
      0,
      rw (c.in-Import.is, c.as_bytes-in-Import.ensures.value) (c.in_ok-text-in-Import.ensures.ok, refl),
      c.in_err-print-in-Import.ensures.err,
    ))

pub returns-in_err-print-in-Draw-clause-broken : goal.returns-in_err-print-in-Draw-clause-broken
returns-in_err-print-in-Draw-clause-broken g c = any_err c.from_residual-in_err-print-in-Draw.result _ (λ fault is. (
  c.as_bytes-in-Draw.result.now,
  0,
  rw c.in-Draw.is (c.in_ok-text-in-Draw.ensures.ok, refl),
  c.in_err-print-in-Draw.ensures.err,
))

pub returns-in_err-print-in-Dispatch-clause-broken : goal.returns-in_err-print-in-Dispatch-clause-broken
returns-in_err-print-in-Dispatch-clause-broken g c = any_err c.from_residual-in_err-print-in-Dispatch.result _
    (λ fault is. (
      c.as_bytes-in-Dispatch.result.now,
      0,
      rw (c.in-Dispatch.is, c.as_bytes-in-Dispatch.ensures.value) (c.in_ok-text-in-Dispatch.ensures.ok, refl),
      c.in_err-print-in-Dispatch.ensures.err,
    ))

pub returns-in_err-print-in-Explain-clause-broken : goal.returns-in_err-print-in-Explain-clause-broken
returns-in_err-print-in-Explain-clause-broken g c = any_err c.from_residual-in_err-print-in-Explain.result _
    (λ fault is. (
      c.as_bytes-in-Explain.result.now,
      0,
      rw c.in-Explain.is refl,
      c.in_err-print-in-Explain.ensures.err,
    ))
