use Rattle.std.proofs.Common.{◌≡◌, ◌≤◌, ◌⊎◌, All, length, map, vec_capacity}
use Rattle.std.specs.List.{Contains}
use Rattle.kfifo_live.specs.Pass.{IsPassOf}
use Rattle.kfifo_pool.specs.Pooled.{Pooled}
use Rattle.kfifo_renewing.specs.Renewing.{other_threads}
use Rattle.kfifo_renewing.proofs.generation.Generation.into_parts.Given as goal

-- the handles so far are those of the first threads, in their order
abbrev pub invariant-loop-place : goal.invariant-loop-place
invariant-loop-place g l = record {
  bound : l.threads ≡ l.fn.threads;
  same : l.own ≡ l.fn.own;
  few : l.thread ≤ l.threads;
  count : length l.others.items ≤ l.thread;
  room : l.threads ≤ vec_capacity l.others;
  rest : All (λ q. q ≡ l.fn.self.queue) l.place-iterator.rest.items;
  of : All (λ h. IsPassOf l.fn.self.queue h.held.pass.pass) l.others.items;
  theirs : All (λ h. IsPassOf l.fn.self.queue h.held.pass.pass) l.theirs.items;
  moved : (h : Pooled g.row.T.Denot) → Contains l.fn.theirs.items h
      → Contains l.others.items h ⊎ Contains l.theirs.items h;
  others : map (λ h. h.held.pass.pass.thread) l.others.items ≡ other_threads l.fn.own l.thread;
}
