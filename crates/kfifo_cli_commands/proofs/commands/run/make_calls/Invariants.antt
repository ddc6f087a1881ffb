use Rattle.std.proofs.Common.{◌≡◌, List, ℕ, take, ◌++◌, string_bytes}
use Rattle.kfifo_model.specs.declared.calls.Answer.{Answer}
use Rattle.kfifo_live.specs.Pass.{IsSamePass}
use Rattle.kfifo_cli_commands.specs.Reports.{RunInTurn}
use Rattle.kfifo_cli_commands.proofs.commands.run.make_calls.Given as goal

abbrev pub invariant-loop-call : goal.invariant-loop-call
invariant-loop-call l = record {
  same : IsSamePass l.fn.pass l.pass;
  answers : List Answer;
  lines : List ℕ;
  runs : RunInTurn l.queue.opened.shape (take l.call-index l.calls) answers l.fn.pass.seen l.pass.seen lines;
  text : string_bytes l.text ≡ string_bytes l.fn.text ++ lines;
}
