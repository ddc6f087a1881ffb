use Rattle.std.proofs.Common.{arith, inr, refl}
use Rattle.std.proofs.lemmas.List.{length_push}
use Rattle.kfifo_machine.specs.declared.event.Begin.TheVariants.{Tick}
use Rattle.kfifo_cli_texts.proofs.Scripts.{first_unread, written_more}
use Rattle.kfifo_cli_texts.proofs.words.read_calls.Goals as goal

pub returns-in-None-clause-fault : goal.returns-in-None-clause-fault
returns-in-None-clause-fault c =
    inr (
      c.loop-index.index,
      refl,
      first_unread c.args.k c.args.turns c.args.texts.now c.loop-index.calls.items c.loop-index.index _ Tick
          c.loop-index-test.true c.loop-index.invariant.each c.in-None.ensures,
    )

pub loop-index-preserved : goal.loop-index-preserved
loop-index-preserved c =
    let pushed = c.in_ok-push-in-Some.ensures.items in
    let kept = c.loop-index.invariant in
    rw pushed record {
      count = omega (arith, length_push c.loop-index.calls.items c.in-Some.call, kept.count);
      each = written_more c.args.k c.args.turns c.args.texts.now c.loop-index.calls.items c.loop-index.index _
          c.in-Some.call kept.count c.loop-index-test.true kept.each c.in-Some.ensures;
    }

pub returns-clause-calls : goal.returns-clause-calls
returns-clause-calls c = record {
  count = omega (arith, c.loop-index.invariant.count, c.loop-index-test.false);
  each = λ i word call inside. c.loop-index.invariant.each i (omega (arith, inside, c.loop-index-test.false)) word call;
}
