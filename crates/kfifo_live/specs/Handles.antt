-- Starts that move on by themselves, and the passes in handles, which choose the starts and the rounds of their calls.
use Rattle.std.specs.Prelude.{◌≢◌, ◌<◌, ◌==◌, ltb, if◌then◌else◌, ℕ, zero, suc, ◌+◌, ◌*◌, ◌/◌, ◌%◌}
use Rattle.kfifo_live.specs.Pass.{PassView}
use Rattle.kfifo_live.specs.Payloads.{PayPassView}

-- a round robin: how many slots a segment has, how many slots further each start is than the one before, and the start
-- that comes next
pub record Cycle : Type 0 where
  pub k : ℕ
  pub stride : ℕ
  pub start : ℕ

-- one stride further, round the k slots of a segment
abbrev pub start_after : ℕ → ℕ → ℕ → ℕ
start_after k stride start = (start + stride) % k

abbrev pub moved : Cycle → Cycle
moved c = record { k = c.k; stride = c.stride; start = start_after c.k c.stride c.start }

-- how many slots apart the starts of a thread are in a queue of so many: 1 for at most two threads; else the least of
-- 3,
-- 5 and 7 that does not divide k. One of them does not, since k is at most 64
abbrev pub slots_apart : ℕ → ℕ → ℕ
slots_apart threads k = if ltb threads 3 then 1 else if k % 3 == 0 then (if k % 5 == 0 then 7 else 5) else 3

abbrev pub stride : ℕ → ℕ → ℕ
stride threads k = slots_apart threads k % k

-- the start of the call after so many others
abbrev pub nth_start : Cycle → ℕ → ℕ
nth_start c zero = c.start
nth_start c (suc calls) = nth_start (moved c) calls

-- any k calls in a row begin at k different slots, wherever the first of them begins
abbrev pub StartsDiffer : ℕ → ℕ → Type 0
StartsDiffer threads k = (start i j : ℕ) → start < k → i < j → j < k
    → nth_start (record { k = k; stride = stride threads k; start = start }) i
    ≢ nth_start (record { k = k; stride = stride threads k; start = start }) j

-- where the first call of a thread begins, one of so many threads
abbrev pub first_start : ℕ → ℕ → ℕ → ℕ
first_start thread threads k = thread * k / threads

-- where the first calls of a pass in a handle begin, and where a call begins after another
abbrev pub first_of : PassView → ℕ
first_of p = first_start p.thread p.opened.threads p.opened.shape.k

abbrev pub further : PassView → ℕ → ℕ
further p start = start_after p.opened.shape.k (stride p.opened.threads p.opened.shape.k) start

-- a round robin of a pass that has come to this start
abbrev pub cycle_at : PassView → ℕ → Cycle
cycle_at p start = record { k = p.opened.shape.k; stride = stride p.opened.threads p.opened.shape.k; start = start }

-- a pass in a handle, and the slots at which its next enqueue and its next dequeue begin
pub record HandleView : Type 0 where
  pub pass : PassView
  pub enqueue_start : ℕ
  pub dequeue_start : ℕ

-- a payload pass in a handle, and the slots at which its next `give` and its next `take` begin
pub record PayHandleView (T : Type 0) : Type 0 where
  pub pass : PayPassView T
  pub give_start : ℕ
  pub take_start : ℕ

-- the pass of a handle, without its tokens and payloads
abbrev pub pass_of : {T : Type 0} → PayHandleView T → PassView
pass_of held = held.pass.pass
