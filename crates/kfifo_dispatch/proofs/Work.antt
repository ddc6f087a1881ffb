-- A unit of work leaves what a job comes to as it is.
use Rattle.std.proofs.Common.{◌≡◌, ◌≤◌, ◌<◌, ◌^◌, ◌*◌, ◌+◌, ◌-◌, ℕ, List, length, Some, arith, zero, suc, slice_get}
use Rattle.std.proofs.Common.{refl}
use Rattle.std.proofs.lemmas.Option.{slice_get_within}
use Rattle.kfifo_dispatch.specs.declared.task.Task.{Task}
use Rattle.kfifo_dispatch.specs.Tasks.{work}
use Rattle.kfifo_dispatch.specs.Jobs.{IsOn, JobView, id_at, total_at}

work_few : (most left : ℕ) → left ≤ most → work left ≤ left * most
unfolding work
work_few most zero few = omega arith
work_few most (suc left) few = let rest = work_few most left (omega (arith, few)) in omega (arith, rest, few)

-- a job that begins
pub begins : (tasks : List Task) (place : ℕ) (task : Task) → slice_get tasks place ≡ Some task → task.left < 2 ^ 16
    → task.sum < 2 ^ 32
    → IsOn tasks (record { place = place; left = task.left; sum = task.sum })
begins tasks place task at few small = record {
  task = task;
  at = at;
  comes = refl;
  small = omega (arith, work_few 65535 task.left (omega (arith, few)), small, few);
}

pub named : (tasks : List Task) (place : ℕ) (task : Task) → slice_get tasks place ≡ Some task
    → task.id ≡ id_at tasks place
named tasks place task at = rw at refl

-- one unit of work more
pub goes_on : (tasks : List Task) (place left sum : ℕ) → 0 < left → IsOn tasks (record {
  place = place;
  left = left;
  sum = sum;
})
    → (sum + left < 2 ^ 64) × IsOn tasks (record { place = place; left = left - 1; sum = sum + left })
unfolding work
goes_on tasks place zero sum some on = absurd (omega (arith, some))
goes_on tasks place (suc left) sum some on =
    let less : suc left - 1 ≡ left = omega arith in (
      omega (arith, on.comes, on.small),
      record {
        task = on.task;
        at = on.at;
        comes = rw less (omega (arith, on.comes));
        small = on.small;
      },
    )

-- a job of which nothing is left
pub comes_to : (tasks : List Task) (place sum : ℕ) → IsOn tasks (record { place = place; left = 0; sum = sum })
    → sum ≡ total_at tasks place
unfolding work
comes_to tasks place sum on = rw on.at (omega (arith, on.comes))

pub is_there : (tasks : List Task) (job : JobView) → IsOn tasks job → job.place < length tasks
is_there tasks job on = slice_get_within tasks job.place on.task on.at
