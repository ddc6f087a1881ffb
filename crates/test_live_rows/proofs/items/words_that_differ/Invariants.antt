use Rattle.kfifo_live.specs.Pass.{IsSamePass}
use Rattle.test_live_rows.proofs.items.words_that_differ.Given as goal

abbrev pub invariant-loop-index : goal.invariant-loop-index
invariant-loop-index l = IsSamePass l.fn.pass l.pass
