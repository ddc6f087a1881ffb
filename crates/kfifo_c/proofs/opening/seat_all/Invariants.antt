use Rattle.std.proofs.Common.{◌≡◌, All, vec_len, map, reverse, ◌++◌}
use Rattle.kfifo_c.specs.Seats.{IsOpenPassOf}
use Rattle.kfifo_c.specs.Exports.{seats_of}
use Rattle.kfifo_c.proofs.opening.seat_all.Given as goal

abbrev pub invariant-loop-pass : goal.invariant-loop-pass
invariant-loop-pass l = record {
  all_of : All (IsOpenPassOf l.shared.value) l.passes.items;
  made : seats_of l.shared.value l.passes.items ++ reverse (map (λ seat. seat.value) l.seats.items)
      ≡ seats_of l.shared.value l.fn.passes.items;
}

abbrev pub decreases-loop-pass : goal.decreases-loop-pass
decreases-loop-pass l = vec_len l.passes
