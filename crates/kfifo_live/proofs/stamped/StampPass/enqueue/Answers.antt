-- A stamped call adds one call to the log.
use Rattle.std.proofs.Common.{◌<◌, length, refl, sym, subst, arith}
use Rattle.kfifo_machine.specs.declared.event.Begin.TheVariants as B
use Rattle.kfifo_live.specs.Promise.{KeepsPromise}
use Rattle.kfifo_live.specs.Stamps.{Logged, MakesStamped, logged_by}
use Rattle.kfifo_live.proofs.Logs.{StampedRun, calls_same, log_grows, makes_stamped, room_left}
use Rattle.kfifo_live.proofs.stamped.StampPass.enqueue.Goals as goal

pub returns-then-is_full-clause-promise : goal.returns-then-is_full-clause-promise
returns-then-is_full-clause-promise c = subst (λ (x : Logged). KeepsPromise x.pass.opened x.pass.seen) c.self.view_is
    c.self.invariant.1

pub draw_stamp-last-requires-clause-room : goal.draw_stamp-last-requires-clause-room
draw_stamp-last-requires-clause-room c =
    let room = subst (λ (x : Logged). length x.log < x.pass.opened.calls) (sym c.self.view_is)
    (c.is_full.ensures.room c.if-is_full.false) in
    room_left c.self.inside.pass c.draw_stamp-first.new.self c.enqueue-answer.new.self c.enqueue-answer.new.self
    (B.Enqueue c.args.item c.args.start c.args.turns) c.enqueue-answer.result c.draw_stamp-first.result 0
    c.self.inside.log.items
    c.self.invariant.0 room refl c.draw_stamp-first.ensures.draws c.enqueue-answer.ensures.same
    c.enqueue-answer.ensures.call.run

stamped : (c : goal.After-push_reserved)
    → StampedRun c.self.inside.pass c.draw_stamp-first.new.self c.enqueue-answer.new.self c.draw_stamp-last.new.self
    (B.Enqueue c.args.item c.args.start c.args.turns) c.enqueue-answer.result c.draw_stamp-first.result
    c.draw_stamp-last.result
    c.self.inside.log.items
stamped c = record {
  is = c.self.invariant.0;
  room = subst (λ (x : Logged). length x.log < x.pass.opened.calls) (sym c.self.view_is)
      (c.is_full.ensures.room c.if-is_full.false);
  no_tick = refl;
  few = c.draw_stamp-first.ensures.small.0;
  draws_first = c.draw_stamp-first.ensures.draws;
  same = c.enqueue-answer.ensures.same;
  call = c.enqueue-answer.ensures.call;
  draws_last = c.draw_stamp-last.ensures.draws;
}

pub invariant_of-self : goal.invariant_of-self
invariant_of-self c =
    let log = log_grows (stamped c) c.thread.result c.push_reserved.new.self.items c.thread.ensures
    c.push_reserved.ensures.items in (
      log,
      c.draw_stamp-last.ensures.promise,
      omega
          (arith, calls_same (stamped c), c.self.invariant.2, c.push_reserved.ensures.capacity),
    )

pub returns-clause-some : goal.returns-clause-some
returns-clause-some c =
    let made = makes_stamped (stamped c) c.thread.result c.push_reserved.new.self.items c.thread.ensures
    c.push_reserved.ensures.items in
    subst (λ (x : Logged). MakesStamped (B.Enqueue c.args.item c.args.start c.args.turns) c.enqueue-answer.result x
    (logged_by c.draw_stamp-last.new.self c.push_reserved.new.self.items)) c.self.view_is made

pub returns-clause-promise : goal.returns-clause-promise
returns-clause-promise c = c.draw_stamp-last.ensures.promise
