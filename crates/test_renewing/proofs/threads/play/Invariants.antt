use Rattle.kfifo_renewing.specs.Renewing.{IsOfSameQueue}
use Rattle.test_renewing.proofs.threads.play.Given as goal

abbrev pub invariant-loop-place : goal.invariant-loop-place
invariant-loop-place l = IsOfSameQueue l.fn.handle l.handle
