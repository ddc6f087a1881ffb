use Rattle.std.proofs.Common.{◌≡◌, ◌++◌, string_bytes, take}
use Rattle.kfifo_cli_texts.specs.TraceLines.{trace_lines}
use Rattle.kfifo_cli_texts.proofs.trace.push_trace.Given as goal

abbrev pub invariant-loop-place : goal.invariant-loop-place
invariant-loop-place l = string_bytes l.text ≡ string_bytes l.fn.text ++ trace_lines l.k 0 (take l.place l.steps)
