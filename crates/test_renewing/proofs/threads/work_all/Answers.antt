-- Each worker came back with a handle of the queue.
use Rattle.std.proofs.Common.{◌≡◌, ◌<◌, List, arith, get_or, length, rules, subst, sym}
use Rattle.kfifo_renewing.specs.Renewing.{AreOfOneQueue, Generations}
use Rattle.kfifo_renewing.specs.Renewing.{IsOfSameQueue}
use Rattle.kfifo_renewing.proofs.Queues.{back_queue}
use Rattle.test_renewing.proofs.threads.work_all.Goals as goal

pub close-requires : goal.close-requires
close-requires g c =
    let hs = c.into_vec-handles.result.items in let ws = c.in_ok-workers.workers.items in
    let len : length ws ≡ length hs = omega (arith, c.in_ok-workers.ensures.len) in
    subst (λ (gs : List (Generations _)). AreOfOneQueue gs) (sym c.in_ok-handles_back.ensures)
    (back_queue (λ w. w.handle) hs ws c.into_vec-handles.ensures (λ i d less.
    let below : i < length hs = omega (arith, less, len) in let back = c.in_ok-workers.ensures.each i d below in
    let given = back.1 in let same : IsOfSameQueue given.job (get_or ws i d).handle = search rules in
    (below, (given.job, given.job_is, same))))
