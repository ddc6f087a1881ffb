use Rattle.std.proofs.Common.{◌≡◌, All, vec_len, map, reverse, ◌++◌}
use Rattle.kfifo_c.proofs.cell_queue.opening.seat_all.Given as goal

abbrev pub invariant-loop-handle : goal.invariant-loop-handle
invariant-loop-handle l = record {
  sizes : All (λ h. l.fn.threads ≡ h.opened.threads) l.handles.items;
  made : l.handles.items ++ reverse (map (λ seat. seat.value) l.seats.items) ≡ l.fn.handles.items;
}

abbrev pub decreases-loop-handle : goal.decreases-loop-handle
decreases-loop-handle l = vec_len l.handles
