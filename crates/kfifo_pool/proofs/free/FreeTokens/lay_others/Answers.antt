use Rattle.std.proofs.Common.{ap, sym, subst}
use Rattle.kfifo_pool.specs.Pooled.{AreOf, all_free, in_list}
use Rattle.kfifo_pool.proofs.Lists.{both_of, last_of}
use Rattle.kfifo_pool.proofs.free.FreeTokens.lay_others.Goals as goal

pub returns-in-Some-clause-of : goal.returns-in-Some-clause-of
returns-in-Some-clause-of g c =
    let queue = c.args.queue.now in let f = c.self.inside in
    both_of queue (in_list c.lay.new.list) f.recent.items c.lay.ensures.of
    (last_of queue (in_list f.others) f.recent.items
    (subst (AreOf queue) (sym (ap all_free c.self.view_is)) c.requires.of))
