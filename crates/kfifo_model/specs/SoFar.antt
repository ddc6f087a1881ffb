-- What a thread's calls so far let it begin.
use Rattle.std.specs.Prelude.{ℕ, ◌<◌, Option, Some, None}
use Rattle.kfifo_model.specs.declared.calls.End.{End}
use Rattle.kfifo_model.specs.declared.so_far.ThreadState.{ThreadState}
use Rattle.kfifo_model.specs.declared.so_far.ThreadState.TheVariants.{Fresh, Ended, InCall}

-- a thread in this state may begin a call at this step
abbrev pub LetsBegin : ThreadState → ℕ → Type 0
LetsBegin Fresh step = Unit {0}
LetsBegin (Ended last) step = last < step
LetsBegin InCall step = ⊥

-- the step comes after the first step of the latest call
abbrev pub RisesFrom : Option ℕ → ℕ → Type 0
RisesFrom (Some latest) step = latest < step
RisesFrom None step = Unit {0}

-- the state of a thread whose latest call has this end
abbrev pub state_after : Option End → ThreadState
state_after (Some end) = Ended end.last
state_after None = InCall
