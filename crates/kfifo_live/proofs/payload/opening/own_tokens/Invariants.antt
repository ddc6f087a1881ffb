use Rattle.std.proofs.Common.{◌≡◌, ◌+◌, ◌-◌, ◌≤◌, reverse, vec_capacity, length}
use Rattle.kfifo_live.specs.Schedule.{count_up}
use Rattle.kfifo_live.proofs.payload.opening.own_tokens.Given as goal

abbrev pub invariant-loop-index : goal.invariant-loop-index
invariant-loop-index l = record {
  stacked : reverse l.at_home.items ≡ count_up (l.last - l.index + 1) l.index;
  size : length l.at_home.items ≡ l.index;
  within : l.index ≤ l.tokens;
  room : l.fn.room ≤ vec_capacity l.at_home;
}
