-- What fits in all scripts fits in one of them.
use Rattle.std.proofs.Common.{◌*◌, ◌-◌, ◌∙◌, ℕ, List, subst, sym}
use Rattle.kfifo_machine.specs.declared.event.Begin.{Begin}
use Rattle.kfifo_record.specs.Repeats.{FitsTo}
use Rattle.kfifo_record.proofs.Repeated.{length_in, script_at}
use Rattle.kfifo_record.proofs.repeating.repeat_scripts.Goals as goal

pub repeat_script-requires : goal.repeat_script-requires
repeat_script-requires c =
    let same = c.as_slice.ensures.value ∙ script_at c.args.scripts.now c.loop-script.script-index c.script-item.result
    c.loop-script-test.true c.script-item.is in
    subst (λ (x : ℕ × List Begin). FitsTo ((c.args.count - 1) * x.0) x.1)
    (λ i. (sym c.greatest_item-step.ensures i, sym same i))
    (c.requires c.loop-script.script-index (length_in c.args.scripts.now c.loop-script.script-index
    c.loop-script-test.true))
