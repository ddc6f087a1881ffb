-- The greatest of the numbers so far, and of the rest, is that of all.
use Rattle.std.proofs.Common.{◌≡◌, drop, max}
use Rattle.kfifo_judge.specs.Numbers.{greatest}
use Rattle.kfifo_judge.proofs.numbers.greatest_of.Given as goal

abbrev pub invariant-loop-number : goal.invariant-loop-number
invariant-loop-number l = max l.most (greatest (drop l.number-index l.numbers)) ≡ greatest l.numbers
