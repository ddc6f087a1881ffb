use Rattle.std.proofs.Common.{◌<◌, refl, sym, subst}
use Rattle.kfifo_machine.specs.declared.event.Begin.TheVariants.{Enqueue}
use Rattle.kfifo_c.specs.Seats.{Seated}
use Rattle.kfifo_c.specs.Exports.{MayEnqueue, CalledFrom}
use Rattle.kfifo_c.proofs.seat.Seat.enqueue.Goals as goal

pub returns : goal.returns
returns c =
    let below = subst (λ (s : Seated). c.args.start < s.queue.opened.shape.k) (sym c.self.view_is) c.requires.start in
    let after : Seated = record {
      queue = c.self.inside.queue.value;
      pass = c.enqueue_from.new.self.pass;
      put_start = c.enqueue_from.new.self.enqueue_start;
      get_start = c.enqueue_from.new.self.dequeue_start;
    } in
    subst (λ (s : Seated). MayEnqueue c.args.item c.args.start c.args.turns s
    × CalledFrom (Enqueue c.args.item c.args.start c.args.turns) c.enqueue_from.result s after) c.self.view_is (
      record {
        some_item = c.requires.item.0;
        small_item = c.requires.item.1;
        start_below = below;
        some_turn = c.if-turns-lt1.false;
      },
      record {
        called = record {
          queue = refl;
          same = c.enqueue_from.ensures.same;
          call = c.enqueue_from.ensures.call;
          promise = c.enqueue_from.ensures.promise;
        };
        same_put = c.enqueue_from.ensures.starts.0;
        same_get = c.enqueue_from.ensures.starts.1;
      },
    )
