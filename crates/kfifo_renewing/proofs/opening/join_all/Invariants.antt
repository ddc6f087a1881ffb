use Rattle.std.proofs.Common.{◌≡◌, All, length, map}
use Rattle.kfifo_live.specs.Schedule.{count_up}
use Rattle.kfifo_renewing.specs.Renewing.{HasOne, OpensMore, may_open_more}
use Rattle.kfifo_renewing.proofs.opening.join_all.Given as goal

-- each thread so far has a handle, which has joined the first generation
abbrev pub invariant-loop-thread : goal.invariant-loop-thread
invariant-loop-thread g l = record {
  each : All (HasOne l.fn.generation.queue l.fn.generation.book) l.handles.items;
  more : OpensMore (may_open_more l.fn.plan.renewals) l.handles.items;
  threads : map (λ h. h.thread) l.handles.items ≡ count_up 0 l.thread;
  count : length l.handles.items ≡ l.thread;
}
