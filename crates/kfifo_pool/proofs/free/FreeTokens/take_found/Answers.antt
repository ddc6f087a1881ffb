use Rattle.std.proofs.Common.{ap, sym, subst, ◌∙◌}
use Rattle.kfifo_pool.specs.Pooled.{AreOf, in_list}
use Rattle.kfifo_pool.proofs.Lists.{both_of, none_of, recent_of}
use Rattle.kfifo_pool.proofs.free.FreeTokens.take_found.Goals as goal

pub returns-clause-of : goal.returns-clause-of
returns-clause-of g c =
    let queue = c.args.queue.now in let recent = c.self.inside.recent.items in
    recent_of queue c.exchange_lists.new.self c.take_recent.new.self c.take_recent.result c.take_recent.ensures
    (subst (AreOf queue) (sym c.exchange_lists.ensures.all)
    (both_of queue (in_list c.find.new.list) recent c.find.ensures.of
    (none_of queue recent (ap (λ f. f.recent) (c.self.view_is ∙ c.requires.none)))))
