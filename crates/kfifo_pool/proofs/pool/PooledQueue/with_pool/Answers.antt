use Rattle.std.proofs.Common.{All, subst, sym}
use Rattle.std.proofs.lemmas.List.Elements.{All-map}
use Rattle.kfifo_live.specs.Pass.{IsPassOf}
use Rattle.kfifo_pool.specs.Pooled.{Pooled, new_handle, pass_of}
use Rattle.kfifo_pool.proofs.pool.PooledQueue.with_pool.Goals as goal

pub returns-clause-of : goal.returns-clause-of
returns-clause-of g c =
    let T = g.row.T.Denot in
    subst (All (λ (h : Pooled T). IsPassOf c.args.queue (pass_of h.held))) (sym c.in_ok-handles.ensures)
    (All-map (λ (h : Pooled T). IsPassOf c.args.queue (pass_of h.held)) new_handle c.args.passes.items
    c.requires.passes)
