use Rattle.std.proofs.Common.{length}
use Rattle.kfifo_renewing.proofs.older.+first_reserved.Given as goal

abbrev pub decreases-first_reserved : goal.decreases-first_reserved
decreases-first_reserved l = length l.parts.now
