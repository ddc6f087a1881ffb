use Rattle.std.proofs.Common.{length}
use Rattle.kfifo_dispatch.proofs.repeats.+has_repeated_id.Given as goal

abbrev pub decreases-has_repeated_id : goal.decreases-has_repeated_id
decreases-has_repeated_id l = length l.tasks.now
