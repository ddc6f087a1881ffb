use Rattle.std.proofs.Common.{Some, subst, sym}
use Rattle.kfifo_pool.specs.Pooled.{AreOf}
use Rattle.kfifo_pool.proofs.Lists.{recent_of}
use Rattle.kfifo_pool.proofs.free.FreeTokens.take_other.Goals as goal

pub returns-in-Some-clause-of : goal.returns-in-Some-clause-of
returns-in-Some-clause-of g c =
    recent_of c.args.queue.now c.exchange_lists.new.self c.take_recent.new.self (Some c.in-Some.token) c.in-Some.ensures
    (subst (AreOf c.args.queue.now) (sym c.exchange_lists.ensures.all) c.requires.of)
