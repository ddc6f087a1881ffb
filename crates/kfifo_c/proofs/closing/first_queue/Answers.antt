use Rattle.std.proofs.Common.{sym, ap, ◌∙◌}
use Rattle.kfifo_c.specs.Handles.{fields_of}
use Rattle.kfifo_c.proofs.ByKind.{items_from}
use Rattle.kfifo_c.proofs.HandleLists.{put_back, same_fields}
use Rattle.kfifo_c.proofs.closing.first_queue.Goals as goal

pub seat_mut-seat-requires : goal.seat_mut-seat-requires
seat_mut-seat-requires c = items_from _ (λ e. c.if-first-eq0.false (c.in-Some.first.now.starts_are ∙ e))

pub returns-in_err-queue-clause-same : goal.returns-in_err-queue-clause-same
returns-in_err-queue-clause-same c =
    put_back c.args.handles.now 0 _ c.in-Some.first.now
    (sym c.seat_mut-seat.ensures.value ∙ ap (λ h. h.held.value) c.in-Some.ensures.item.1)

pub returns-in_err-queue-clause-fields : goal.returns-in_err-queue-clause-fields
returns-in_err-queue-clause-fields c = same_fields c.args.handles.now 0 _ c.in-Some.first.now
    (ap fields_of c.in-Some.ensures.item.1)

pub returns-clause-same : goal.returns-clause-same
returns-clause-same c =
    put_back c.args.handles.now 0 _ c.in-Some.first.now
    (sym c.seat_mut-seat.ensures.value ∙ ap (λ h. h.held.value) c.in-Some.ensures.item.1)

pub returns-clause-fields : goal.returns-clause-fields
returns-clause-fields c = same_fields c.args.handles.now 0 _ c.in-Some.first.now (ap fields_of c.in-Some.ensures.item.1)
