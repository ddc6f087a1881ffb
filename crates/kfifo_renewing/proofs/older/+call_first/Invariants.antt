use Rattle.std.proofs.Common.{length}
use Rattle.kfifo_renewing.proofs.older.+call_first.Given as goal

abbrev pub decreases-call_first : goal.decreases-call_first
decreases-call_first l = length l.parts.now
