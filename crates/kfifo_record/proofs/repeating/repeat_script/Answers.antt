-- One repetition more was added.
use Rattle.std.proofs.Common.{◌≡◌, ◌*◌, ◌∙◌, ◌++◌, List, ap, map}
use Rattle.kfifo_machine.specs.declared.event.Begin.{Begin}
use Rattle.kfifo_record.specs.Repeats.{shifted}
use Rattle.kfifo_record.proofs.Repeated.{one_more}
use Rattle.kfifo_record.proofs.repeating.repeat_script.Goals as goal

pub loop-repetition-preserved : goal.loop-repetition-preserved
loop-repetition-preserved c =
    let by : c.from.result * c.from-in-loop-repetition.result ≡ c.loop-repetition.repetition * c.args.step =
    λ i. c.from.ensures i * c.from-in-loop-repetition.ensures i in
    let more : c.in_ok-more.more.items ≡ map (shifted (c.loop-repetition.repetition * c.args.step)) c.args.script.now =
    c.in_ok-more.ensures ∙ (λ i. map (shifted (by i)) c.args.script.now) in
    one_more c.args.step c.loop-repetition.repetition c.args.script.now c.loop-repetition.made.items
    c.in_ok-more.more.items
    c.extend_from_slice.new.self.items
    c.loop-repetition.invariant more (c.in_ok-extend_from_slice.ensures.items
    ∙ ap (λ (xs : List Begin). c.loop-repetition.made.items ++ xs) c.as_slice.ensures.value)
