use Rattle.std.proofs.Common.{◌≡◌, List}
use mathlib.Core.List.{IsPrefix}
use Rattle.logbook.specs.Pages.{Cell}
use Rattle.kfifo_renewing.specs.declared.change.Change.{Change}
use Rattle.kfifo_renewing.specs.History.{IsKept}
use Rattle.kfifo_renewing.proofs.Joining.{LookedAt}
use Rattle.kfifo_renewing.proofs.places.Places.has_no_other.Given as goal

-- each generation that had been shown in one of the places so far has gone, or is among these
abbrev pub invariant-loop-index : goal.invariant-loop-index
invariant-loop-index g l = record {
  book : l.history.book ≡ l.fn.history.book;
  number : l.number ≡ l.fn.number;
  end : l.end ≡ l.fn.end;
  joined : l.joined ≡ l.fn.joined;
  seen : (base : List Change) × (cells : List Cell) × IsKept cells base × IsPrefix l.fn.history.log base
      × IsPrefix base l.history.log
      × LookedAt l.fn.number l.fn.end l.index l.fn.joined base l.history.log;
}
