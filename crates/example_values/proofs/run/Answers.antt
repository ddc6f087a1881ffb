-- Each worker came back with a handle of the queue.
use Rattle.std.proofs.Common.{◌≡◌, ◌<◌, arith, get_or, length, rules}
use Rattle.kfifo_renewing.specs.Renewing.{opening_again}
use Rattle.kfifo_renewing.specs.Renewing.{IsOfSameQueue}
use Rattle.kfifo_renewing.proofs.Queues.{back_queue, opened_queue}
use Rattle.example_values.proofs.run.Goals as goal

pub finish-requires : goal.finish-requires
finish-requires g c =
    let hs = c.in_ok-handles.handles.items in let ws = c.in_ok-workers.workers.items in
    let len : length ws ≡ length hs = omega (arith, c.in_ok-workers.ensures.len) in
    back_queue (λ w. w.handle) hs ws (opened_queue (opening_again c.in_ok-sizes.sizes) hs c.in_ok-handles.ensures.ok.0)
    (λ i d less.
    let below : i < length hs = omega (arith, less, len) in let back = c.in_ok-workers.ensures.each i d below in
    let given = back.1 in let same : IsOfSameQueue given.job (get_or ws i d).handle = search rules in
    (below, (given.job, given.job_is, same)))
