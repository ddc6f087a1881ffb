use Rattle.std.proofs.Common.{◌≡◌, flat_map, string_bytes, take}
use Rattle.kfifo_cli_texts.specs.Tasks.{finished_line}
use Rattle.kfifo_cli_texts.proofs.tasks.finished_lines.Given as goal

abbrev pub invariant-loop-task : goal.invariant-loop-task
invariant-loop-task l = string_bytes l.text ≡ flat_map finished_line (take l.task-index l.list)
