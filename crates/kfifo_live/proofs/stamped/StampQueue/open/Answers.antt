use Rattle.std.proofs.Common.{All, ap, subst, sym, ◌∙◌}
use Rattle.kfifo_live.specs.Pass.{IsPassOf}
use Rattle.kfifo_live.specs.Stamps.{Logged, new_logs}
use Rattle.kfifo_live.proofs.NewPasses.{logs_of_new, zeroed}
use Rattle.kfifo_live.proofs.stamped.StampQueue.open.Goals as goal

pub returns-clause-zeroed : goal.returns-clause-zeroed
returns-clause-zeroed c = zeroed c.in_ok-queue.queue.opened

pub returns-clause-of : goal.returns-clause-of
returns-clause-of c = subst (All (λ (p : Logged). IsPassOf c.in_ok-queue.queue p.pass))
    (sym (c.in_ok-stamped.ensures ∙ ap new_logs c.in_ok-queue.ensures.1))
    (logs_of_new c.in_ok-queue.queue 0 c.args.threads)
