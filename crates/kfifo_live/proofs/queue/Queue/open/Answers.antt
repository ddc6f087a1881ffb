-- Every schedule of a queue with so many threads has a legal order.
use Rattle.kfifo_linear.proofs.Schedule.{has_legal_order, few_overtake, few_certainly}
use Rattle.std.proofs.Common.{All, arith, subst, sym}
use Rattle.kfifo_live.specs.Pass.{IsPassOf}
use Rattle.kfifo_live.proofs.NewPasses.{passes_of_new, zeroed}
use Rattle.kfifo_live.proofs.queue.Queue.open.Goals as goal

pub returns-clause-legal : goal.returns-clause-legal
returns-clause-legal c = has_legal_order c.args.shape c.args.threads (omega (arith, c.if-threads-gt-MAX_THREADS.false))

pub returns-clause-few_overtake : goal.returns-clause-few_overtake
returns-clause-few_overtake c =
    few_overtake c.args.shape c.args.threads (omega (arith, c.if-threads-gt-MAX_THREADS.false))

pub returns-clause-few_certainly_overtake : goal.returns-clause-few_certainly_overtake
returns-clause-few_certainly_overtake c =
    few_certainly c.args.shape c.args.threads (omega (arith, c.if-threads-gt-MAX_THREADS.false))

pub returns-clause-zeroed : goal.returns-clause-zeroed
returns-clause-zeroed c = zeroed c.in_ok-opened.opened.0.opened

pub returns-clause-of : goal.returns-clause-of
returns-clause-of c = subst (All (IsPassOf c.in_ok-opened.opened.0)) (sym c.in_ok-opened.ensures.1)
    (passes_of_new c.in_ok-opened.opened.0 0 c.args.threads)
