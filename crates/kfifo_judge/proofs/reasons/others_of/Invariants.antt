use Rattle.std.proofs.Common.{◌≡◌}
use Rattle.kfifo_judge.specs.Reasons.{is_other, numbers_below}
use Rattle.kfifo_judge.proofs.reasons.others_of.Given as goal

abbrev pub invariant-loop-number : goal.invariant-loop-number
invariant-loop-number l = l.calls.items ≡ numbers_below (is_other l.history l.get) l.number
