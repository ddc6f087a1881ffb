use Rattle.std.proofs.Common.{◌≡◌, ◌∙◌}
use Rattle.kfifo_words.specs.Ring.{slot_at}
use Rattle.kfifo_machine.specs.Machine.{word_at}
use Rattle.kfifo_cli_commands.proofs.Reports.{one_world, slot_more}
use Rattle.kfifo_cli_commands.proofs.commands.run.push_slots.Goals as goal

pub loop-slot-preserved : goal.loop-slot-preserved
loop-slot-preserved c =
    let kept = c.loop-slot.invariant in
    let found = c.load.ensures.word in
    record {
      same = c.load.ensures.same ∙ kept.same;
      lines = λ world reached.
          let worlds : found.0 ≡ world = one_world c.args.queue.now.opened.shape c.args.pass.now c.loop-slot.pass
          found.0 world kept.same
          found.1 reached in
          let word : c.of_bits-word.result
          ≡ word_at world (slot_at c.args.queue.now.opened.shape.k c.args.segment c.loop-slot.slot) =
          cc (c.of_bits-word.ensures, found.2, worlds, c.slot_index.ensures.value, c.shape-shape.ensures) in
          slot_more c.args.queue.now.opened.shape.k world c.args.segment c.loop-slot.slot c.of_bits-word.result _ _ _
          (kept.lines world reached) c.in_ok-push_slot.ensures word;
    }
