use Rattle.std.proofs.Common.{◌++◌, ◌∷◌, [], List, Some, map, ap, sym, subst, ◌∙◌}
use Rattle.kfifo_renewing.specs.Cells.{ClosesAllCells}
use Rattle.kfifo_renewing.specs.Renewing.{AreOfOneQueue}
use Rattle.kfifo_c.specs.Handles.{cells_behind}
use Rattle.kfifo_c.specs.Behind.{cells_in, left_in}
use Rattle.kfifo_c.specs.AllHandles.{seats_in}
use Rattle.kfifo_c.specs.CellSeats.{CellSeated}
use Rattle.kfifo_c.proofs.AllHandles.{all_seats}
use Rattle.kfifo_c.proofs.HandleLists.{all_closed, cells}
use Rattle.kfifo_c.proofs.cell_queue.closing.kfifo_c_close_cells.Goals as goal

pub close_cells-requires : goal.close_cells-requires
close_cells-requires c = subst (λ (seats : List CellSeated). AreOfOneQueue seats)
    (sym (c.in-Ok-take_all.ensures.taken ∙ ap seats_in (ap (map cells_in) c.may_close.ensures.same))) c.requires

pub returns-clause-done : goal.returns-clause-done
returns-clause-done c = λ _.
    let all = c.may_close.ensures.may.0 c.if-not-may_close.false in
    let taken = c.in-Ok-take_all.ensures.taken ∙ ap seats_in (ap (map cells_in) c.may_close.ensures.same)
    ∙ all_seats (cells_behind c.args.passes.now) all in
    record {
      all = all;
      generations = c.in-Ok-close_cells.closed.left.items;
      log = c.in-Ok-close_cells.closed.history.log;
      closes = subst (λ (seats : List CellSeated). ClosesAllCells seats c.in-Ok-close_cells.closed.left.items
          c.in-Ok-close_cells.closed.history.log) taken c.in-Ok-close_cells.ensures.closes;
      left_is = ap left_in c.of.ensures ∙ ap Some c.new-4.ensures;
    }

pub returns-in_default-close_cells-clause-closed : goal.returns-in_default-close_cells-clause-closed
returns-in_default-close_cells-clause-closed c = λ _.
    let all = c.may_close.ensures.may.0 c.if-not-may_close.false in let closed = c.in-Ok-take_all.ensures.closed in
    all_closed cells c.may_close.new.handles c.take_all.new.handles (all.others ++ all.last ∷ [])
    (ap (map cells_in) c.may_close.ensures.same ∙ all.each_open) closed

pub returns-clause-closed : goal.returns-clause-closed
returns-clause-closed c = λ _.
    let all = c.may_close.ensures.may.0 c.if-not-may_close.false in let closed = c.in-Ok-take_all.ensures.closed in
    all_closed cells c.may_close.new.handles c.take_all.new.handles (all.others ++ all.last ∷ [])
    (ap (map cells_in) c.may_close.ensures.same ∙ all.each_open) closed
