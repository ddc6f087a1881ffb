use Rattle.std.proofs.Common.{◌≡◌, All, subst, sym, ap, ◌∙◌, arith}
use Rattle.kfifo_c.specs.Seats.{IsOpenPassOf}
use Rattle.kfifo_c.specs.Exports.{seats_of}
use Rattle.kfifo_c.proofs.Passes.{passes_of}
use Rattle.kfifo_c.proofs.opening.open_seats.Goals as goal

pub seat_all-requires : goal.seat_all-requires
seat_all-requires c = record {
  of = subst (All (IsOpenPassOf c.in_ok-queue.queue)) (sym c.in_ok-queue.ensures.ok.1)
      (passes_of c.in_ok-queue.queue 0 c.args.threads
      (let are : c.in_ok-queue.queue.opened.threads
      ≡ c.args.threads = ap (λ o. o.threads) c.in_ok-queue.ensures.ok.0 in omega (arith, are)));
  threads = ap (λ o. o.threads) (sym c.in_ok-queue.ensures.ok.0);
}

pub returns-clause-ok : goal.returns-clause-ok
returns-clause-ok c = record {
  queue = c.in_ok-queue.queue;
  opened = c.in_ok-queue.ensures.ok.0;
  new = c.in_ok-seats.ensures ∙ ap (seats_of c.in_ok-queue.queue) c.in_ok-queue.ensures.ok.1;
  zeroed = c.in_ok-queue.ensures.zeroed;
  legal = c.in_ok-queue.ensures.legal;
  few_overtake = c.in_ok-queue.ensures.few_overtake;
  few_certainly_overtake = c.in_ok-queue.ensures.few_certainly_overtake;
}
