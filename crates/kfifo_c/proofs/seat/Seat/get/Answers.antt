-- The dequeue is that of the handle.
use Rattle.std.proofs.Common.{refl, subst}
use Rattle.kfifo_c.specs.Seats.{Seated}
use Rattle.kfifo_c.specs.Exports.{Gets}
use Rattle.kfifo_c.proofs.seat.Seat.get.Goals as goal

pub returns : goal.returns
returns c =
    let e = c.dequeue.ensures in let h = c.dequeue.new.self in
    let after : Seated = record {
      queue = c.self.inside.queue.value;
      pass = h.pass;
      put_start = h.enqueue_start;
      get_start = h.dequeue_start;
    } in
    subst (λ (s : Seated). Gets c.dequeue.result s after) c.self.view_is (record {
      called = record {
        queue = refl;
        same = e.same;
        call = e.call;
        promise = e.promise;
      };
      busy = e.busy;
      next_get = e.starts.0;
      same_put = e.starts.1;
    })
