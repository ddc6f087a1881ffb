use Rattle.std.proofs.Common.{All, List, map, subst, sym}
use Rattle.kfifo_live.specs.Pass.{IsPassOf, OpenQueue, PassView}
use Rattle.kfifo_live.specs.Payloads.{PayPassView}
use Rattle.kfifo_pool.proofs.Lists.{each_pass}
use Rattle.kfifo_pool.proofs.queue.PooledQueue+unit.close.Goals as goal

pub close-requires : goal.close-requires
close-requires c =
    each_pass (λ (p : PassView). IsPassOf c.self.inside.queue p) c.in_ok-passes.passes.items
    (subst (λ (q : OpenQueue). All (λ (p : PassView). IsPassOf q p) (map (λ p. p.pass) c.in_ok-passes.passes.items))
    (sym c.self.view_is)
    (subst (λ (passes : List (PayPassView (Unit {0}))). All (λ (p : PassView). IsPassOf c.args.self p)
    (map (λ p. p.pass) passes))
    (sym c.in_ok-passes.ensures) c.requires))
