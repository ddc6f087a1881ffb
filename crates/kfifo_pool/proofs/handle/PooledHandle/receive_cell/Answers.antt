-- The cell that was received before is released, and then one is taken.
use Rattle.std.proofs.Common.{ap, refl, subst, sym, ◌∙◌}
use Rattle.kfifo_live.specs.Calls.{IsDisturbed}
use Rattle.kfifo_live.specs.Tokens.{TokenHandleView}
use Rattle.kfifo_pool.specs.Cells.{TakesCell, with_received}
use Rattle.kfifo_pool.specs.Pooled.{Pooled, all_free, pass_of}
use Rattle.kfifo_pool.proofs.CellCalls.{cells_busy, released_held}
use Rattle.kfifo_pool.proofs.handle.PooledHandle.receive_cell.Goals as goal

pub returns-clause-receives : goal.returns-clause-receives
returns-clause-receives g c =
    let T = g.row.T.Denot in let f = c.self.inside in
    let new : Pooled T = record { held = c.take.new.self; free = all_free f.free; cells = c.keep_received.new.self } in
    record {
      released = c.release_cell.result;
      between = c.release_cell.new.self;
      releases = c.release_cell.ensures.did;
      takes = subst (λ (o : Pooled T). TakesCell c.of_taken-taken.result.0 o new) c.self.view_is (record {
        taken = c.take.result;
        answer_is = c.of_taken-taken.ensures.0;
        takes = c.take.ensures.takes;
        cells = c.keep_received.ensures ∙ ap (λ t. with_received t f.cells) c.of_taken-taken.ensures.1;
        same_free = refl;
      });
    }

pub returns-clause-busy : goal.returns-clause-busy
returns-clause-busy g c = λ busy.
    let T = g.row.T.Denot in
    let held = ap (λ (h : Pooled T). h.held) c.self.view_is
    ∙ released_held c.release_cell.result c.args.self.now c.release_cell.new.self c.release_cell.ensures.did in
    subst (λ (h : TokenHandleView T). IsDisturbed (pass_of h) (pass_of c.take.new.self)) held
    (c.take.ensures.busy (cells_busy c.take.result (sym c.of_taken-taken.ensures.0 ∙ busy)))
