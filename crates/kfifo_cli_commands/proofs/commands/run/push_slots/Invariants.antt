use Rattle.std.proofs.Common.{◌≡◌, ◌++◌, Some, string_bytes}
use Rattle.kfifo_machine.specs.Machine.{World, after}
use Rattle.kfifo_cli_commands.specs.Reports.{slot_lines}
use Rattle.kfifo_cli_commands.proofs.commands.run.push_slots.Given as goal

abbrev pub invariant-loop-slot : goal.invariant-loop-slot
invariant-loop-slot l = record {
  same : l.pass ≡ l.fn.pass;
  lines : (world : World) → after l.queue.opened.shape 1 l.fn.pass.seen ≡ Some world
      → string_bytes l.text ≡ string_bytes l.fn.text ++ slot_lines l.queue.opened.shape.k world l.segment l.slot;
}
