use Rattle.std.proofs.Common.{vec_len}
use Rattle.kfifo_model.proofs.Adding.{AreMembers}
use Rattle.kfifo_model.proofs.search.distinct.Given as goal

abbrev pub invariant-loop-reached : goal.invariant-loop-reached
invariant-loop-reached l = AreMembers l.fn.level.items l.level.items l.kept.items

abbrev pub decreases-loop-reached : goal.decreases-loop-reached
decreases-loop-reached l = vec_len l.level
