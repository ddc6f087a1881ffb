use Rattle.std.proofs.Common.{◌∙◌}
use Rattle.kfifo_judge.proofs.Writing.{appends_kept, inside_more, part_kept, part_more, wrote_more}
use Rattle.std.proofs.KnownBytes.{Keeps-refl}
use Rattle.kfifo_cli_texts.proofs.Writings.{failed_behind}
use Rattle.kfifo_cli_texts.proofs.printing.Printer.write.Goals.{in-Ok, in-Err+else-ne}
use Rattle.kfifo_cli_texts.proofs.printing.Printer.write.Goals as goal

pub returns-in-Ok-eq0 : goal.returns-in-Ok-eq0
returns-in-Ok-eq0 g c = failed_behind g.W.Write.contents c.fail.result c.args.self.now c.fail.new.self c.args.text.now
    c.write.new.self c.loop.self.failed c.fail.ensures.answer
    (part_more _ _ _ c.args.text.now c.loop.written c.in-Ok-eq0.field-0 c.loop.invariant.wrote
    c.in-Ok-eq0.ensures.bytes)
    c.loop.invariant.failed c.fail.ensures.counted c.fail.ensures.held (c.fail.ensures.same ∙ c.loop.invariant.same)

pub returns-then-ne : goal.returns-then-ne
returns-then-ne g c = failed_behind g.W.Write.contents c.fail-then-ne.result c.args.self.now c.fail-then-ne.new.self
    c.args.text.now c.write.new.self c.loop.self.failed c.fail-then-ne.ensures.answer
    (part_kept _ _ _ c.args.text.now c.loop.written c.loop.invariant.wrote c.in-Err.ensures.bytes)
    c.loop.invariant.failed c.fail-then-ne.ensures.counted c.fail-then-ne.ensures.held
    (c.fail-then-ne.ensures.same ∙ c.loop.invariant.same)

pub loop-preserved : goal.loop-preserved
loop-preserved g c = elim c.match-write.branch [
  | in-Ok w ↦ rw w.written-is record {
    inside = inside_more c.args.text.now c.loop.written w.in-Ok.count c.loop.invariant.inside w.in-Ok.ensures.bound;
    wrote = wrote_more _ _ _ c.args.text.now c.loop.written w.in-Ok.count c.loop.invariant.wrote w.in-Ok.ensures.bytes;
    failed = c.loop.invariant.failed;
    same = c.loop.invariant.same;
  }
  | in-Err+else-ne w ↦ rw w.written-is record {
    inside = c.loop.invariant.inside;
    wrote = appends_kept _ _ _ _ c.loop.invariant.wrote w.in-Err.ensures.bytes;
    failed = c.loop.invariant.failed;
    same = c.loop.invariant.same;
  }
]

pub returns : goal.returns
returns g c = failed_behind g.W.Write.contents c.fail-2.result c.args.self.now c.fail-2.new.self c.args.text.now
    c.loop.self.writer.now c.loop.self.failed c.fail-2.ensures.answer
    (part_kept _ _ _ c.args.text.now c.loop.written c.loop.invariant.wrote (Keeps-refl _))
    c.loop.invariant.failed c.fail-2.ensures.counted c.fail-2.ensures.held
    (c.fail-2.ensures.same ∙ c.loop.invariant.same)
