-- A pass is of a thread of its queue.
use Rattle.std.proofs.Common.{ℕ, ◌<◌, Option, subst}
use Rattle.atomic_table.specs.Table.{Me}
use Rattle.kfifo_machine.proofs.Sound.{sound_threads}
use Rattle.kfifo_live.proofs.Types.{View}
use Rattle.kfifo_live.specs.Schedule.{seen_of, thread_of}
use Rattle.kfifo_live.specs.Pass.{IsPass}
use Rattle.kfifo_live.proofs.Passes.{pass_thread}

pub thread_within : {T : Type 0} (thread : ℕ) (me : Me (Option T) (View T)) → IsPass thread me
    → thread < me.0.opened.threads
thread_within thread me p =
    let all = sound_threads me.0.opened.shape me.0.opened.threads (seen_of me.0) p.idle.here p.idle.reached in
    subst (λ (t : ℕ). t < me.0.opened.threads) (pass_thread thread me p)
    (subst (λ (n : ℕ). thread_of me.0 < n) all p.idle.within)
