use Rattle.std.proofs.Common.{◌≡◌, ◌++◌, string_bytes, take}
use Rattle.kfifo_judge.specs.Calls.{call_lines}
use Rattle.kfifo_judge.proofs.calls.push_calls.Given as goal

abbrev pub invariant-loop-call : goal.invariant-loop-call
invariant-loop-call l = string_bytes l.text ≡ string_bytes l.fn.text
    ++ call_lines l.logged l.history (take l.call-index l.calls)
