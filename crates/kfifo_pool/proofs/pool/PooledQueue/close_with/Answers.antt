use Rattle.std.proofs.Common.{All, subst, sym}
use Rattle.std.proofs.lemmas.List.Elements.{All-map}
use Rattle.kfifo_live.specs.Pass.{IsPassOf, OpenQueue}
use Rattle.kfifo_live.specs.Payloads.{PayPassView}
use Rattle.kfifo_pool.specs.Pooled.{Pooled}
use Rattle.kfifo_pool.proofs.pool.PooledQueue.close_with.Goals as goal

pub close_with-requires-clause-others : goal.close_with-requires-clause-others
close_with-requires-clause-others g c =
    let T = g.row.T.Denot in let queue = c.args.self in
    subst (λ (q : OpenQueue). All (λ (p : PayPassView T). IsPassOf q p.pass) c.in_ok-others.others.items)
    (sym c.self.view_is)
    (subst (All (λ (p : PayPassView T). IsPassOf queue p.pass)) (sym c.in_ok-others.ensures)
    (All-map (λ (p : PayPassView T). IsPassOf queue p.pass) (λ (h : Pooled T). h.held.pass) c.args.others.items
    c.requires.others))
