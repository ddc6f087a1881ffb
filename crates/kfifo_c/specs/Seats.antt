-- What a handle stands for, as clauses see it.
use Rattle.std.specs.Prelude.{◌<◌, ℕ}
use Rattle.kfifo_live.specs.Pass.{OpenQueue, PassView, IsPassOf}
use Rattle.kfifo_live.specs.Handles.{first_of}

-- a queue, a pass that is of it, and the slots at which the scans of the handle's next put and next get begin
pub record Seated : Type 0 where
  pub queue : OpenQueue
  pub pass : PassView
  pub put_start : ℕ
  pub get_start : ℕ

-- the pass is of the queue, and of one of its threads
abbrev pub IsOpenPassOf : OpenQueue → PassView → Type 0
IsOpenPassOf q p = IsPassOf q p × (p.thread < q.opened.threads)

-- with a new pass
abbrev pub seated : OpenQueue → PassView → Seated
seated q p = record { queue = q; pass = p; put_start = first_of p; get_start = first_of p }
