-- What threads are to call: for each thread a script, its calls in turn.
use Rattle.std.specs.Prelude.{ℕ, ◌^◌, ◌<◌, ◌≤◌, List, length, All, sum_by}
use Rattle.kfifo_replay.specs.declared.player.TheConstants.{MAX_SCRIPT_CALLS}
use Rattle.kfifo_model.specs.declared.calls.TheConstants.{MAX_THREADS}
use Rattle.kfifo_words.specs.declared.shape.Shape.{Shape}
use Rattle.kfifo_words.specs.declared.word.TheConstants.{VALUES}
use Rattle.kfifo_machine.specs.declared.event.Begin.{Begin}
use Rattle.kfifo_machine.specs.declared.event.Begin.TheVariants as B

-- a call with its start below k, 1 to 65,535 rounds, and an item from 1 to 2^24 - 1. A tick and a
-- seal are none
abbrev pub IsCall : Shape → Begin → Type 0
IsCall shape (B.Enqueue item start turns) = (start < shape.k) × (0 < turns) × (turns < 2 ^ 16) × (0 < item)
    × (item < VALUES)
IsCall shape (B.Dequeue start turns) = (start < shape.k) × (0 < turns) × (turns < 2 ^ 16)
IsCall shape B.Tick = ⊥
IsCall shape B.Seal = ⊥

-- one script of at most 64 calls
pub record IsScript (shape : Shape) (script : List Begin) : Type 0 where
  pub short : length script ≤ MAX_SCRIPT_CALLS
  pub calls : All (IsCall shape) script

-- 1 to 64 scripts
pub record AreScripts (shape : Shape) (scripts : List (List Begin)) : Type 0 where
  pub some : 0 < length scripts
  pub few : length scripts ≤ MAX_THREADS
  pub each : All (IsScript shape) scripts

-- the number of their calls
abbrev pub calls_in : List (List Begin) → ℕ
calls_in scripts = sum_by length scripts
