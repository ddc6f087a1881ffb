-- The two handles are of one queue after their calls.
use Rattle.std.proofs.Common.{List, ℕ, false, subst, sym}
use Rattle.kfifo_renewing.specs.Renewing.{AreOfOneQueue, Generations, opening_with, sizes_again}
use Rattle.kfifo_renewing.proofs.Queues.{gives_queue, opened_queue, takes_queue}
use Rattle.test_renewing.proofs.Queues.{two_queue}
use Rattle.test_renewing.proofs.pages.the_renewing_queue.Goals as goal

pub close-requires : goal.close-requires
close-requires g c =
    let opens = c.in_ok-handles.ensures.opens.1 in let giver = c.in-Some-Some.giver in let taker =
    c.in-Some-Some.taker in
    let gave = c.give-given.new.self in let took = c.take-taken.new.self in
    subst (λ (hs : List (Generations ℕ)). AreOfOneQueue hs) (sym c.in_ok-vec.ensures.items)
    (two_queue c.in_ok-handles.handles.items c.pop.new.self.items c.pop-2.new.self.items giver taker gave took
    c.in-Some-Some.ensures.items
    c.in-Some-Some.ensures'.items
    (gives_queue 7 c.give-given.result giver gave c.give-given.ensures)
    (takes_queue _ _ c.take-taken.result taker took c.take-taken.ensures)
    (opened_queue (opening_with false (sizes_again opens.sizes)) c.in_ok-handles.handles.items opens.have_one))
