-- The two handles are of one queue after their calls.
use Rattle.std.proofs.Common.{List, subst, sym, true}
use Rattle.kfifo_renewing.specs.Memory.{cell_reserved}
use Rattle.kfifo_renewing.specs.Renewing.{AreOfOneQueue, Generations, opening_with, sizes_again}
use Rattle.kfifo_renewing.specs.declared.cells.CellCall.TheVariants as C
use Rattle.kfifo_renewing.proofs.Queues.{calls_queue, opened_queue, received_queue, reserved_queue, then_queue}
use Rattle.test_renewing.proofs.Queues.{two_queue}
use Rattle.test_renewing.proofs.pages.the_queue_of_cells.Goals as goal

pub close_cells-requires : goal.close_cells-requires
close_cells-requires g c =
    let opens = c.in_ok-handles.ensures.opens.1 in let giver = c.in-Some-Some.giver in let taker =
    c.in-Some-Some.taker in
    let reserved = c.reserve-reserved.new.self in let published = c.publish-given.new.self in
    let received = c.receive-received.new.self in let released = c.release-released.new.self in
    subst (λ (hs : List (Generations (Unit {0}))). AreOfOneQueue hs) (sym c.in_ok-vec.ensures.items)
    (two_queue c.in_ok-handles.handles.items c.pop.new.self.items c.pop-2.new.self.items giver taker published released
    c.in-Some-Some.ensures.items
    c.in-Some-Some.ensures'.items
    (then_queue giver reserved published
    (reserved_queue (cell_reserved c.reserve-reserved.result) giver reserved c.reserve-reserved.ensures)
    (calls_queue C.Publish c.publish-given.result reserved published c.publish-given.ensures))
    (then_queue taker received released
    (received_queue c.receive-received.result taker received c.receive-received.ensures)
    (calls_queue C.Release c.release-released.result received released c.release-released.ensures))
    (opened_queue (opening_with true (sizes_again opens.sizes)) c.in_ok-handles.handles.items opens.have_one))
