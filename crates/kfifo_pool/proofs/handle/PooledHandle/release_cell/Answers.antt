-- The token is free again.
use Rattle.std.proofs.Common.{refl, subst, sym, true}
use Rattle.kfifo_pool.specs.Cells.{ReleasesCell}
use Rattle.kfifo_pool.specs.Pooled.{Pooled, all_free}
use Rattle.kfifo_pool.proofs.handle.PooledHandle.release_cell.Goals as goal

pub returns-clause-did : goal.returns-clause-did
returns-clause-did g c =
    let new : Pooled g.row.T.Denot = record {
      held = c.self.inside.handle;
      free = all_free c.put.new.self;
      cells = c.take_received.new.self;
    } in
    subst (λ (o : Pooled g.row.T.Denot). ReleasesCell true o new) c.self.view_is
    (c.in-Some.token, sym c.in-Some.ensures.0, (c.put.ensures.keeps, refl, c.in-Some.ensures.1))
