use Rattle.std.proofs.Common.{◌≡◌, ◌<◌, ◌≤◌, IfSome}
use mathlib.Core.List.{IsPrefix}
use Rattle.kfifo_renewing.specs.History.{place_count}
use Rattle.kfifo_renewing.proofs.places.Places.next_after.Given as goal

-- the least number so far is below the end
abbrev pub invariant-loop-index : goal.invariant-loop-index
invariant-loop-index g l = record {
  book : l.history.book ≡ l.fn.history.book;
  more : IsPrefix l.fn.history.log l.history.log;
  end : l.end ≡ l.fn.end;
  least : l.least ≤ l.fn.end;
  number : l.number ≡ l.fn.number;
  next : IfSome l.next (λ r. (r.0 < place_count) × (l.fn.number < r.1) × (r.1 < l.fn.end));
}
