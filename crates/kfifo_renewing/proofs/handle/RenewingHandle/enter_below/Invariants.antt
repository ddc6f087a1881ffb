use Rattle.std.proofs.Common.{◌≡◌, ◌<◌, ◌≤◌, All}
use mathlib.Core.List.{IsPrefix}
use Rattle.kfifo_renewing.specs.Joining.{IsPart, IsPartOf, IsUnused}
use Rattle.kfifo_renewing.proofs.handle.RenewingHandle.enter_below.Given as goal

-- each generation that was entered so far is opened as the queue's, and has its number and place in the history
abbrev pub invariant-loop : goal.invariant-loop
invariant-loop g l = record {
  self : l.self ≡ l.fn.self;
  end : l.end ≡ l.fn.end;
  book : l.history.book ≡ l.fn.history.book;
  more : IsPrefix l.fn.history.log l.history.log;
  opened : All (IsPartOf l.fn.self.opened l.fn.self.book) l.between.items;
  parts : All (IsPart l.history.log) l.between.items;
  below : All (λ p. p.number < l.fn.end) l.between.items;
  from : l.fn.self.number ≤ l.number;
  unused : All (IsUnused l.fn.self.thread l.fn.self.number) l.between.items;
}
