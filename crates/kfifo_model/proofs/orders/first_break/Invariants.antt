use Rattle.std.proofs.Common.{List, [], ◌++◌, ◌↔◌, map, take}
use Rattle.kfifo_model.proofs.Types.{Effect}
use Rattle.kfifo_model.specs.Relaxed.{IsRun}
use Rattle.kfifo_model.specs.Histories.{does}
use Rattle.kfifo_model.proofs.orders.first_break.Given as goal

abbrev pub invariant-loop-p : goal.invariant-loop-p
invariant-loop-p l = (es : List Effect)
    → IsRun l.k [] (map (does l.calls) (take l.p l.order) ++ es) ↔ IsRun l.k l.items.items es
