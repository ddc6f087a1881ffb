use Rattle.std.proofs.Common.{map, ◌≡◌, ◌∙◌}
use Rattle.kfifo_import.specs.Lines.{lines_by}
use Rattle.kfifo_import.specs.Logs.{AreByFirst, calls_of, logged_call}
use Rattle.kfifo_import.proofs.Order.{calls_by, logged_by}
use Rattle.kfifo_import.proofs.log.by_beginning.Goals as goal

pub returns : goal.returns
returns c =
    let lines = c.args.lines.items in
    let order = c.in_ok-order.order.items in
    let sorted = lines_by lines order in
    let first : AreByFirst lines sorted = rw c.as_slice-lines.ensures.value at c.in_ok-order.ensures in
    let calls : c.in_ok-calls.calls.items ≡ calls_of sorted =
    (rw (c.as_slice-lines.ensures.value, c.as_slice.ensures.value) at c.in_ok-calls.ensures) ∙ calls_by lines order in
    let logged : c.in_ok-logged.logged.items ≡ map logged_call sorted =
    (rw (c.as_slice-lines.ensures.value, c.as_slice-2.ensures.value) at c.in_ok-logged.ensures)
    ∙ logged_by lines order in
    (sorted, first, calls, logged)
