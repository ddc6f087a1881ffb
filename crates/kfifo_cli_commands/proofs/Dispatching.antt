-- What the command `dispatch` comes to.
use Rattle.std.proofs.Common.{◌≡◌, ◌⊎◌, ◌<◌, ◌≤◌, ℕ, ◌+◌, List, length, inl, inr, refl, subst, sym}
use Rattle.kfifo_cli_commands.proofs.Types.{Fault, Shape}
use Rattle.kfifo_dispatch.specs.declared.fault.DispatchFault.{DispatchFault}
use Rattle.kfifo_dispatch.specs.declared.fault.DispatchFault.TheVariants as refusals
use Rattle.kfifo_dispatch.specs.declared.task.Task.{Task}
use Rattle.kfifo_dispatch.specs.Tasks.{HasRepeatedId}
use Rattle.kfifo_cli_texts.specs.declared.fault.Fault.TheVariants.{Dispatch, Memory, Word}
use Rattle.kfifo_cli_requests.specs.declared.requests.DispatchOptions.{DispatchOptions}
use Rattle.kfifo_cli_commands.specs.Dispatches.{IsDispatchRefusal, IsTasksFault}
use Rattle.kfifo_cli_requests.specs.Sizes.{IsShapeOf}
use Rattle.kfifo_cli_texts.specs.Tasks.{IsFirstUnreadTask, WriteTasks}

-- why tasks are refused, by the fault
pub tasks_fault : (tasks : List Task) (workers : ℕ) (fault : DispatchFault)
    → (fault ≡ refusals.TooManyTasks → 1024 < length tasks)
    → (fault ≡ refusals.RepeatedId → (length tasks ≤ 1024) × HasRepeatedId tasks)
    → (fault ≡ refusals.WorkersOutOfRange → (length tasks ≤ 1024) × (HasRepeatedId tasks → ⊥)
    × ((workers ≡ 0) ⊎ (63 < workers)))
    → IsTasksFault tasks workers fault
tasks_fault tasks workers refusals.TooManyTasks many repeated range = many refl
tasks_fault tasks workers refusals.RepeatedId many repeated range = repeated refl
tasks_fault tasks workers refusals.Memory many repeated range = tt
tasks_fault tasks workers refusals.WorkersOutOfRange many repeated range = range refl

-- tasks that were not refused are admitted
pub admitted : (tasks : List Task) (workers : ℕ) → (1024 < length tasks → ⊥)
    → ((length tasks ≤ 1024) × HasRepeatedId tasks → ⊥)
    → ((length tasks ≤ 1024) × (HasRepeatedId tasks → ⊥) × ((workers ≡ 0) ⊎ (63 < workers)) → ⊥)
    → (fault : DispatchFault) → IsTasksFault tasks workers fault → fault ≡ refusals.Memory
admitted tasks workers many repeated range refusals.TooManyTasks cause = absurd (many cause)
admitted tasks workers many repeated range refusals.RepeatedId cause = absurd (repeated cause)
admitted tasks workers many repeated range refusals.Memory cause = refl
admitted tasks workers many repeated range refusals.WorkersOutOfRange cause = absurd (range cause)

module _ (options : DispatchOptions) (shape : Shape) (shaped : IsShapeOf options.sizes shape) where
  -- the fault of a word that writes no task is one of the command
  pub unread_task : (fault : Fault) → (fault ≡ Memory)
      ⊎ ((place : ℕ) × (fault ≡ Word (place + 1)) × IsFirstUnreadTask options.words.now place)
      → IsDispatchRefusal options fault
  unread_task fault (inl is) = subst (λ f. IsDispatchRefusal options f) (sym is) tt
  unread_task fault (inr w) = subst (λ f. IsDispatchRefusal options f) (sym w.1)
      record { shape = shape; shape_given = shaped; place = w.0; number_is = refl; unread = w.2 }

  -- so is the fault of tasks that are refused
  pub tasks_refused : (tasks : List Task) → WriteTasks options.words.now tasks → (fault : DispatchFault)
      → IsTasksFault tasks options.workers fault → IsDispatchRefusal options (Dispatch fault)
  tasks_refused tasks written fault refused =
      record {
        shape = shape;
        tasks = tasks;
        given = record { shape_given = shaped; tasks_given = written };
        refused = refused;
      }
