use Rattle.std.proofs.Common.{◌≡◌, map, take}
use Rattle.kfifo_dispatch.specs.Tasks.{finished}
use Rattle.kfifo_dispatch.proofs.finishing.finish.Given as goal

abbrev pub invariant-loop-place : goal.invariant-loop-place
invariant-loop-place g l = l.list.items ≡ map finished (take l.place l.tasks)
