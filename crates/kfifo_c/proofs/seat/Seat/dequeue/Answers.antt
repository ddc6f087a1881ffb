use Rattle.std.proofs.Common.{◌<◌, refl, sym, subst}
use Rattle.kfifo_machine.specs.declared.event.Begin.TheVariants.{Dequeue}
use Rattle.kfifo_c.specs.Seats.{Seated}
use Rattle.kfifo_c.specs.Exports.{MayDequeue, CalledFrom}
use Rattle.kfifo_c.proofs.seat.Seat.dequeue.Goals as goal

pub returns : goal.returns
returns c =
    let below = subst (λ (s : Seated). c.args.start < s.queue.opened.shape.k) (sym c.self.view_is) c.requires in
    let after : Seated = record {
      queue = c.self.inside.queue.value;
      pass = c.dequeue_from.new.self.pass;
      put_start = c.dequeue_from.new.self.enqueue_start;
      get_start = c.dequeue_from.new.self.dequeue_start;
    } in
    subst (λ (s : Seated). MayDequeue c.args.start c.args.turns s × CalledFrom (Dequeue c.args.start c.args.turns)
    c.dequeue_from.result s after)
    c.self.view_is (
      record {
        start_below = below;
        some_turn = c.if-turns-lt1.false;
      },
      record {
        called = record {
          queue = refl;
          same = c.dequeue_from.ensures.same;
          call = c.dequeue_from.ensures.call;
          promise = c.dequeue_from.ensures.promise;
        };
        same_put = c.dequeue_from.ensures.starts.0;
        same_get = c.dequeue_from.ensures.starts.1;
      },
    )
