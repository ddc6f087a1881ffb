-- Tasks, the work that is left of them, and what they come to.
use Rattle.std.specs.Prelude.{ℕ, zero, suc, ◌+◌, ◌==◌, List, map}
use Rattle.std.specs.List.{IsDistinct}
use Rattle.std.specs.List.Sorted.{IsNonDecreasingBy, IsPermutation}
use Rattle.kfifo_dispatch.specs.declared.task.Task.{Task}
use Rattle.kfifo_dispatch.specs.declared.task.Finished.{Finished}

-- what so many units of work add: left + (left - 1) + .. + 1
unfoldable pub work : ℕ → ℕ
work zero = 0
work (suc left) = suc left + work left

-- what a task comes to
abbrev pub total : Task → ℕ
total task = task.sum + work task.left

-- a task, finished
abbrev pub finished : Task → Finished
finished task = record { id = task.id; sum = total task }

-- the numbers of tasks
abbrev pub ids : List Task → List ℕ
ids tasks = map (λ task. task.id) tasks

-- two of the tasks have one number: not each differs from all behind it
abbrev pub HasRepeatedId : List Task → Type 0
HasRepeatedId tasks = IsDistinct (λ a b. a == b) (ids tasks) → ⊥

-- each task once, finished, in ascending order of id
pub record IsFinishedList (tasks : List Task) (list : List Finished) : Type 0 where
  pub each : IsPermutation (map finished tasks) list
  pub rise : IsNonDecreasingBy (λ f. f.id) list
