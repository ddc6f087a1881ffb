use Rattle.std.proofs.Common.{string_bytes}
use Rattle.kfifo_cli_texts.proofs.Tracing.{next_line}
use Rattle.kfifo_cli_texts.proofs.trace.push_trace.Goals as goal

pub loop-place-preserved : goal.loop-place-preserved
loop-place-preserved c = next_line c.args.k c.args.steps.now c.loop-place.place c.index-steps-place.result
    (string_bytes c.args.text.now) _ _
    c.loop-place-test.true c.index-steps-place.is c.loop-place.invariant c.in_ok-push_step.ensures
