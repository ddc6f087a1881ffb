-- Each worker came back with a pass of the queue.
use Rattle.std.proofs.Common.{rules, arith}
use Rattle.example_threads.proofs.run_four.Goals as goal

pub finish-requires : goal.finish-requires
finish-requires g c = λ i d less.
    let back = c.in_ok-workers.ensures.each i d (omega (arith, less, c.in_ok-workers.ensures.len)) in
    search rules
