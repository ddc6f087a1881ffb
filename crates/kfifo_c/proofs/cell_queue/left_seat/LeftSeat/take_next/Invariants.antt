use Rattle.std.proofs.Common.{◌≡◌, ◌≤◌, ◌-◌, [], drop, get_or, length}
use Rattle.kfifo_c.specs.CellQueues.{all_cells}
use Rattle.kfifo_c.proofs.cell_queue.left_seat.LeftSeat.take_next.Given as goal

abbrev pub invariant-loop-self : goal.invariant-loop-self
invariant-loop-self l = record {
  within : l.self-inside.cell ≤ length (get_or l.self-inside.left.items l.self-inside.generation []);
  same : drop l.self-inside.cell (all_cells (drop l.self-inside.generation l.self-inside.left.items)) ≡ l.fn.self;
}

abbrev pub decreases-loop-self : goal.decreases-loop-self
decreases-loop-self l = length l.self-inside.left.items - l.self-inside.generation
