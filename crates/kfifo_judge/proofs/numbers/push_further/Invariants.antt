use Rattle.std.proofs.Common.{◌≡◌, ◌++◌, string_bytes, take}
use Rattle.kfifo_judge.specs.Numbers.{further}
use Rattle.kfifo_judge.proofs.numbers.push_further.Given as goal

abbrev pub invariant-loop-number : goal.invariant-loop-number
invariant-loop-number l = string_bytes l.text ≡ string_bytes l.fn.text ++ further (take l.number-index l.numbers)
