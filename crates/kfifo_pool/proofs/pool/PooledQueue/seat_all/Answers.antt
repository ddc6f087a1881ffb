-- The next handle goes behind those that were made.
use Rattle.std.proofs.Common.{◌++◌, [], ◌∷◌, List, append_assoc, map, ap, refl, sym, ◌∙◌}
use Rattle.kfifo_live.specs.Pass.{IsPassOf}
use Rattle.kfifo_live.specs.Payloads.{PayPassView}
use Rattle.kfifo_pool.specs.Pooled.{Pooled, new_handle}
use Rattle.kfifo_pool.proofs.Lists.{rest_holds}
use Rattle.kfifo_pool.proofs.pool.PooledQueue.seat_all.Goals as goal

pub loop-pass-preserved : goal.loop-pass-preserved
loop-pass-preserved g c =
    let T = g.row.T.Denot in
    let rest : List (Pooled T) = map new_handle c.next.new.self.rest.items in
    record {
      same = refl;
      rest = rest_holds (λ (p : PayPassView T). IsPassOf c.args.self.now p.pass) c.in-Some.pass
          c.next.new.self.rest.items
          c.loop-pass.pass-iterator.rest.items c.in-Some.ensures.steps.0 c.loop-pass.invariant.rest;
      made =
          (λ i. c.in_ok-push.ensures.items i ++ rest)
          ∙ (λ i. (c.loop-pass.handles.items ++ c.in_ok-new.ensures i ∷ []) ++ rest)
          ∙ append_assoc c.loop-pass.handles.items (new_handle c.in-Some.pass ∷ []) rest
          ∙ ap (λ (ps : List (PayPassView T)). c.loop-pass.handles.items ++ map new_handle ps)
          (sym c.in-Some.ensures.steps.0)
          ∙ c.loop-pass.invariant.made;
    }
