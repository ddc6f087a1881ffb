use Rattle.std.proofs.Common.{arith, subst}
use Rattle.std.proofs.lemmas.List.{nil_from_length}
use Rattle.kfifo_pool.specs.Pooled.{Free, TakesRecent, in_list}
use Rattle.kfifo_pool.proofs.Lists.{takes_recent, when_none}
use Rattle.kfifo_pool.proofs.free.FreeTokens.take_recent.Goals as goal

pub returns : goal.returns
returns g c =
    let others = in_list c.self.inside.others in let recent = c.self.inside.recent.items in
    subst (λ (old : Free). TakesRecent c.pop.result old (record { recent = c.pop.new.self.items; others = others }))
    c.self.view_is
    (takes_recent others recent c.pop.new.self.items c.pop.result c.pop.ensures.items
    (λ none. nil_from_length recent (omega (arith, (when_none _ _ c.pop.result c.pop.ensures.cases none).0))))
