use Rattle.kfifo_renewing.specs.Renewing.{IsOfSameQueue}
use Rattle.test_renewing.proofs.cells.insist.Given as goal

abbrev pub invariant-loop-try : goal.invariant-loop-try
invariant-loop-try l = IsOfSameQueue l.fn.handle l.handle

abbrev pub invariant-loop-again : goal.invariant-loop-again
invariant-loop-again l = IsOfSameQueue l.fn.handle l.handle
