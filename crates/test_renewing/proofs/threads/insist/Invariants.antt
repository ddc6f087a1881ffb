use Rattle.kfifo_renewing.specs.Renewing.{IsOfSameQueue}
use Rattle.test_renewing.proofs.threads.insist.Given as goal

abbrev pub invariant-loop-try : goal.invariant-loop-try
invariant-loop-try l = IsOfSameQueue l.fn.handle l.handle
