-- The enqueue is that of the handle.
use Rattle.std.proofs.Common.{refl, subst}
use Rattle.kfifo_c.specs.Seats.{Seated}
use Rattle.kfifo_c.specs.Exports.{Puts}
use Rattle.kfifo_c.proofs.seat.Seat.put.Goals as goal

pub returns : goal.returns
returns c =
    let e = c.enqueue.ensures in let h = c.enqueue.new.self in
    let after : Seated = record {
      queue = c.self.inside.queue.value;
      pass = h.pass;
      put_start = h.enqueue_start;
      get_start = h.dequeue_start;
    } in
    subst (λ (s : Seated). Puts c.args.item c.enqueue.result s after) c.self.view_is (record {
      called = record {
        queue = refl;
        same = e.same;
        call = e.call;
        promise = e.promise;
      };
      busy = e.busy;
      next_put = e.starts.0;
      same_get = e.starts.1;
    })
