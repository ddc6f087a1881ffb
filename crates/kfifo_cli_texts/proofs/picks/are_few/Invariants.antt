use Rattle.std.proofs.Common.{◌≡◌, ◌+◌, take}
use Rattle.kfifo_cli_texts.specs.Picks.{count_of}
use Rattle.kfifo_cli_texts.proofs.picks.are_few.Given as goal

abbrev pub invariant-loop-group : goal.invariant-loop-group
invariant-loop-group l = count_of (take l.group-index l.groups) + l.left ≡ 16777216
