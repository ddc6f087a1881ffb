use Rattle.std.proofs.Common.{length}
use Rattle.kfifo_renewing.proofs.older.+count_in.Given as goal

abbrev pub decreases-count_in : goal.decreases-count_in
decreases-count_in g l = length l.parts.now
