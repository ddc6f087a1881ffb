use Rattle.std.proofs.Common.{◌++◌, List, Option, ℕ, inl, inr, rules}
use Rattle.std.specs.Io.KnownBytes.{Consumes}
use Rattle.kfifo_cli_commands.specs.Inputs.{IsCallsRefusal}
use Rattle.kfifo_cli_commands.proofs.Intake.{handed_on, log_calls, log_refused, log_unread}
use Rattle.kfifo_cli_commands.proofs.calls.read_log.Goals as goal

pub log_to_judge-requires-clause-reading : goal.log_to_judge-requires-clause-reading
log_to_judge-requires-clause-reading g c =
    let fed = c.in_ok-reader.ensures.ok in
    (c.args.start.now ++ fed.0, fed.2)

pub returns-in-Ok-clause-read : goal.returns-in-Ok-clause-read
returns-in-Ok-clause-read g c = λ before came.
    let fed = c.in_ok-reader.ensures.ok in
    log_calls c.args.start.now fed.0 before (g.S.Source.remaining c.args.source.now) c.requires came fed.1
    c.in-Ok.log.history
    c.in-Ok.log.calls.items (c.in-Ok.ensures.log (c.args.start.now ++ fed.0) fed.2) c.in-Ok.ensures.each

pub returns-in-Err-clause-read : goal.returns-in-Err-clause-read
returns-in-Err-clause-read g c = λ before came.
    let fed = c.in_ok-reader.ensures.ok in
    inr (inr (log_refused c.args.start.now fed.0 before (g.S.Source.remaining c.args.source.now) c.requires came fed.1
    c.of_log.result.fault
    (c.in-Err.refusal.fault, c.of_log.ensures, c.in-Err.ensures.log (c.args.start.now ++ fed.0) fed.2)))

pub returns-in_err-reader-clause-read : goal.returns-in_err-reader-clause-read
returns-in_err-reader-clause-read g c = λ before came.
    let failure = c.in_err-reader.field-0.0 in
    handed_on c.from_residual.result failure _ _ c.from_residual.ensures.1
    (log_unread c.args.start.now before (g.S.Source.remaining c.args.source.now) (g.S.Source.failed c.args.source.now)
    (g.S.Source.failed c.feed_log.new.source) failure.fault c.requires came c.in_err-reader.ensures.err)
