use Rattle.kfifo_model.proofs.Adding.{led_none, led_more, led_all}
use Rattle.kfifo_model.proofs.search.next_level.Goals as goal

pub loop-reached-init : goal.loop-reached-init
loop-reached-init c = led_none c.args.k c.args.calls.now c.args.level.now c.new-next.result.items
    c.new-next.ensures.items

pub loop-reached-preserved : goal.loop-reached-preserved
loop-reached-preserved c =
    led_more c.args.k c.args.calls.now c.args.level.now c.loop-reached.next.items c.expand.new.next.items
    c.loop-reached.reached-index
    c.reached-item.result c.loop-reached-test.true c.reached-item.is c.loop-reached.invariant c.in_ok-expand.ensures

pub returns : goal.returns
returns c =
    led_all c.args.k c.args.calls.now c.args.level.now c.loop-reached.next.items c.loop-reached.reached-index
    c.loop-reached-test.false
    c.loop-reached.invariant
