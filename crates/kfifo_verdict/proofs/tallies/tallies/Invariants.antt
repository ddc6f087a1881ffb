use Rattle.kfifo_verdict.specs.Finding.{IsTallied, tally_in}
use Rattle.kfifo_verdict.proofs.tallies.tallies.Given as goal

abbrev pub invariant-loop-n : goal.invariant-loop-n
invariant-loop-n l = IsTallied l.calls l.side l.n (tally_in l.tallies)
