use Rattle.kfifo_renewing.specs.Renewing.{IsOfSameQueue}
use Rattle.test_renewing.proofs.cells.work.Given as goal

abbrev pub invariant-loop : goal.invariant-loop
invariant-loop l = IsOfSameQueue l.fn.handle l.handle
