use Rattle.std.proofs.Common.{◌≡◌}
use mathlib.Core.List.{IsPrefix}
use Rattle.kfifo_renewing.proofs.places.Places.find.Given as goal

-- more of the history was seen
abbrev pub invariant-loop-index : goal.invariant-loop-index
invariant-loop-index g l = record {
  book : l.history.book ≡ l.fn.history.book;
  number : l.number ≡ l.fn.number;
  more : IsPrefix l.fn.history.log l.history.log;
}
