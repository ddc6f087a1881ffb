-- Tasks on their way: whoever worked at one, it comes to what the task comes to.
use Rattle.std.specs.Prelude.{◌≡◌, ℕ, ◌+◌, ◌-◌, ◌<◌, ◌^◌, List, get_or, slice_get, length, Option, Some, None}
use Rattle.kfifo_dispatch.specs.declared.task.Task.{Task}
use Rattle.kfifo_dispatch.specs.Tasks.{total, work}

-- A job as clauses see it: the place of its task, the work that is left, and the sum so far.
pub record JobView : Type 0 where
  pub place : ℕ
  pub left : ℕ
  pub sum : ℕ

-- its sum and the work that is left come to what the task comes to, a number of 64 bits
pub record IsOn (tasks : List Task) (job : JobView) : Type 0 where
  pub task : Task
  pub at : slice_get tasks job.place ≡ Some task
  pub comes : job.sum + work job.left ≡ total task
  pub small : total task < 2 ^ 64

-- one unit of work: what is left was added to the sum, and 1 taken from it
abbrev pub IsWorked : JobView → JobView → Type 0
IsWorked old new = new ≡ record { place = old.place; left = old.left - 1; sum = old.sum + old.left }

-- what a task comes to, 0 of none
abbrev pub total_of : Option Task → ℕ
total_of (Some task) = total task
total_of None = 0

-- what the task at this place comes to
abbrev pub total_at : List Task → ℕ → ℕ
total_at tasks place = total_of (slice_get tasks place)

-- the number of the task at this place, 0 of none
abbrev pub id_of : Option Task → ℕ
id_of (Some task) = task.id
id_of None = 0

abbrev pub id_at : List Task → ℕ → ℕ
id_at tasks place = id_of (slice_get tasks place)

-- of each task nothing, or what it comes to
pub record AreTotals (tasks : List Task) (sums : List (Option ℕ)) : Type 0 where
  pub count : length sums ≡ length tasks
  pub totals : (place sum : ℕ) → get_or sums place None ≡ Some sum → sum ≡ total_at tasks place
