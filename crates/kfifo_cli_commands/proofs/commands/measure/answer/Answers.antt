use Rattle.std.proofs.Common.{rules}
use Rattle.kfifo_cli_commands.specs.Records.{IsMeasureRefusal}
use Rattle.kfifo_cli_commands.proofs.Refusals.{measure_refused}
use Rattle.kfifo_cli_commands.proofs.commands.measure.answer.Goals as goal

pub returns-in_err-text-clause-err : goal.returns-in_err-text-clause-err
returns-in_err-text-clause-err g c =
    let input = g.S.Source.remaining c.args.input.now in
    let fault = c.in_err-text.field-0.0.fault in
    let refusal : IsMeasureRefusal input (g.S.Source.failed c.args.input.now) (g.S.Source.failed c.read_input.new.input)
    fault =
    measure_refused input _ _ c.as_slice.result.now fault (rw c.as_slice.ensures.value c.in_ok-bytes.ensures.ok)
    c.in_err-text.ensures in
    search (rules, refusal)
