use Rattle.std.proofs.Common.{◌≡◌, inl, inr, rules}
use Rattle.kfifo_cli_commands.specs.Inputs.{IsCallsInput, IsCallsRefusal, IsNoCalls}
use Rattle.kfifo_cli_commands.proofs.calls.read_calls.Goals as goal

pub returns-in_err-calls-in-Ok-Whole-clause-err : goal.returns-in_err-calls-in-Ok-Whole-clause-err
returns-in_err-calls-in-Ok-Whole-clause-err g c =
    let bytes = c.in-Ok-Whole.bytes.items in
    let fault = c.in_err-calls-in-Ok-Whole.field-0.0.fault in
    let none : IsNoCalls bytes fault = rw c.as_slice.ensures.value at c.in_err-calls-in-Ok-Whole.ensures in
    let read : IsCallsInput (g.S.Source.remaining c.args.source.now) bytes = search rules in
    let refusal : IsCallsRefusal (g.S.Source.remaining c.args.source.now) (g.S.Source.failed c.args.source.now)
    (g.S.Source.failed c.begin_reading.new.source) fault = inr (inr (bytes, read, none)) in
    search (rules, refusal)
