use Rattle.std.proofs.Common.{inr, refl}
use Rattle.kfifo_cli_texts.specs.Orders.{part_of}
use Rattle.kfifo_cli_texts.specs.Words.{WritesNumber}
use Rattle.kfifo_cli_texts.proofs.Each.{read_more, text_unread}
use Rattle.kfifo_cli_texts.proofs.order.read_numbers.Goals as goal

pub loop-text-preserved : goal.loop-text-preserved
loop-text-preserved c = rw c.in_ok-push-in-Some.ensures.items
    (read_more WritesNumber (part_of c.args.is_spaced) c.args.texts.now c.loop-text.text-index _
    c.loop-text.numbers.items c.in-Some.number
    c.loop-text-test.true c.loop-text.invariant (rw c.plain_part.ensures at c.in-Some.ensures))

pub returns-in-None : goal.returns-in-None
returns-in-None c = inr (
  refl,
  text_unread WritesNumber (part_of c.args.is_spaced) c.args.texts.now c.loop-text.text-index _
      c.loop-text-test.true (rw c.plain_part.ensures at c.in-None.ensures),
)
