use Rattle.std.proofs.Common.{◌-◌, length}
use Rattle.kfifo_verdict.proofs.Covering.{IsChain}
use Rattle.kfifo_verdict.proofs.finding.cover.Given as goal

abbrev pub invariant-loop-stay : goal.invariant-loop-stay
invariant-loop-stay l = IsChain l.calls l.empty l.n l.puts.items

abbrev pub decreases-loop-stay : goal.decreases-loop-stay
decreases-loop-stay l = length l.calls - l.n
