use Rattle.std.proofs.Common.{◌≡◌, take}
use Rattle.kfifo_judge_c.specs.Named.{calls_named}
use Rattle.kfifo_judge_c.proofs.named.calls_named.Given as goal

abbrev pub invariant-loop-number : goal.invariant-loop-number
invariant-loop-number l = l.named.items ≡ calls_named l.logged l.history (take l.number-index l.numbers)
