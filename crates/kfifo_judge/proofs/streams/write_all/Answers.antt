use Rattle.std.proofs.Common.{◌∙◌}
use Rattle.kfifo_judge.proofs.Writing.{wrote_more, part_kept, part_more, inside_more, took_some}
use Rattle.kfifo_judge.proofs.streams.write_all.Goals as goal

pub returns-in-Ok-eq0-clause-beginning : goal.returns-in-Ok-eq0-clause-beginning
returns-in-Ok-eq0-clause-beginning g c = λ e.
    part_more _ _ _ c.args.text.now c.loop-written.written c.in-Ok-eq0.field-0 c.loop-written.invariant.wrote
    c.in-Ok-eq0.ensures.bytes

pub returns-in-Err-clause-beginning : goal.returns-in-Err-clause-beginning
returns-in-Err-clause-beginning g c = λ e.
    part_kept _ _ _ c.args.text.now c.loop-written.written c.loop-written.invariant.wrote c.in-Err.ensures.bytes

pub loop-written-preserved : goal.loop-written-preserved
loop-written-preserved g c = record {
  inside = inside_more c.args.text.now c.loop-written.written c.in-Ok.count c.loop-written.invariant.inside
      c.in-Ok.ensures.bound;
  wrote = wrote_more _ _ _ c.args.text.now c.loop-written.written c.in-Ok.count c.loop-written.invariant.wrote
      c.in-Ok.ensures.bytes;
  failures = took_some c.write.result c.in-Ok.count _ _ _ c.in-Ok.is c.in-Ok.count-test.1 c.write.ensures.failures
      ∙ c.loop-written.invariant.failures;
}
