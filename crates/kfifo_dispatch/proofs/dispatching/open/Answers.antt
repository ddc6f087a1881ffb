-- The passes of the opening are of its queue.
use Rattle.std.proofs.Common.{◌+◌, ◌∙◌, ap}
use Rattle.kfifo_live.specs.Payloads.{pay_opening}
use Rattle.kfifo_dispatch.proofs.Passes.{is_opened}
use Rattle.kfifo_dispatch.proofs.dispatching.open.Goals as goal

pub returns-in-Ok : goal.returns-in-Ok
returns-in-Ok g c =
    is_opened c.args.shape c.args.workers c.args.tasks c.in-Ok.queue c.in-Ok.passes.items _ _
    (c.in-Ok.ensures.ok.0 ∙ ap (pay_opening c.args.shape (c.args.workers + 1)) c.max.ensures) c.in-Ok.ensures.ok.1
    c.remove-own.ensures.value c.remove-own.ensures.items
