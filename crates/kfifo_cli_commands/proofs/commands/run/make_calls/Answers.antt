use Rattle.std.proofs.Common.{[], ◌∷◌, ◌++◌, ◌∙◌}
use Rattle.kfifo_cli_commands.proofs.Reports.{behind, run_more}
use Rattle.kfifo_cli_commands.proofs.commands.run.make_calls.Goals as goal

pub loop-call-preserved : goal.loop-call-preserved
loop-call-preserved c =
    let kept = c.loop-call.invariant in
    let made = c.in_ok-make_call.ensures in
    record {
      same = (made.same.0 ∙ kept.same.0, made.same.1 ∙ kept.same.1, made.same.2 ∙ kept.same.2);
      answers = kept.answers ++ made.runs.0 ∷ [];
      lines = _;
      runs = run_more c.args.queue.now.opened.shape c.args.calls.now c.loop-call.call-index _ kept.answers
          c.args.pass.now.seen c.loop-call.pass.seen
          c.make_call.new.pass.seen kept.lines made.runs.0 c.loop-call-test.true kept.runs made.runs.1;
      text = behind _ _ _ kept.lines _ kept.text made.runs.2;
    }
