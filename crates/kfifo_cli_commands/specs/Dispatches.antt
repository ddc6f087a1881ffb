-- What the command `dispatch` comes to.
use Rattle.std.specs.Prelude.{◌≡◌, ℕ, ◌+◌, ◌<◌, ◌≤◌, ◌⊎◌, List, flat_map, length}
use Rattle.kfifo_words.specs.declared.shape.Shape.{Shape}
use Rattle.kfifo_dispatch.specs.declared.fault.DispatchFault.{DispatchFault}
use Rattle.kfifo_dispatch.specs.declared.fault.DispatchFault.TheVariants as refusals
use Rattle.kfifo_dispatch.specs.declared.task.Task.{Task}
use Rattle.kfifo_dispatch.specs.declared.task.Finished.{Finished}
use Rattle.kfifo_dispatch.specs.Tasks.{HasRepeatedId, IsFinishedList}
use Rattle.kfifo_dispatch.specs.Working.{HasRun}
use Rattle.kfifo_live.specs.Gates.{SaysNothing}
use Rattle.kfifo_cli_texts.specs.declared.fault.Fault.{Fault}
use Rattle.kfifo_cli_texts.specs.declared.fault.Fault.TheVariants as faults
use Rattle.kfifo_cli_requests.specs.declared.requests.DispatchOptions.{DispatchOptions}
use Rattle.kfifo_cli_requests.specs.Sizes.{IsShapeFault, IsShapeOf}
use Rattle.kfifo_cli_texts.specs.Tasks.{IsFirstUnreadTask, WriteTasks, finished_line}

-- the shape and the tasks that the options give
pub record GivesTasks (options : DispatchOptions) (shape : Shape) (tasks : List Task) : Type 0 where
  pub shape_given : IsShapeOf options.sizes shape
  pub tasks_given : WriteTasks options.words.now tasks

-- why tasks are refused with so many workers
abbrev pub IsTasksFault : List Task → ℕ → DispatchFault → Type 0
IsTasksFault tasks workers refusals.TooManyTasks = 1024 < length tasks
IsTasksFault tasks workers refusals.RepeatedId = (length tasks ≤ 1024) × HasRepeatedId tasks
IsTasksFault tasks workers refusals.Memory = Unit {0}
IsTasksFault tasks workers refusals.WorkersOutOfRange = (length tasks ≤ 1024) × ¬ (HasRepeatedId tasks)
    × ((workers ≡ 0) ⊎ (63 < workers))

-- The answer: the lines of the tasks, each finished and once, in ascending order of id. As many workers as the options
-- say have done the work, with starts from the seed that they say. Only an allocation that fails refuses them
pub record IsDispatch (options : DispatchOptions) (text : List ℕ) : Type 0 where
  pub shape : Shape
  pub tasks : List Task
  pub given : GivesTasks options shape tasks
  pub admitted : (fault : DispatchFault) → IsTasksFault tasks options.workers fault → fault ≡ refusals.Memory
  pub list : List Finished
  pub list_is : IsFinishedList tasks list
  pub run : HasRun SaysNothing SaysNothing shape options.workers options.seed tasks
  pub text_is : text ≡ flat_map finished_line list

-- the sizes make a shape, and the word with this number is the first that writes no task
pub record IsUnreadTask (options : DispatchOptions) (number : ℕ) : Type 0 where
  pub shape : Shape
  pub shape_given : IsShapeOf options.sizes shape
  pub place : ℕ
  pub number_is : number ≡ place + 1
  pub unread : IsFirstUnreadTask options.words.now place

-- the sizes and the words are in order, and the tasks are refused
pub record AreTasksRefused (options : DispatchOptions) (fault : DispatchFault) : Type 0 where
  pub shape : Shape
  pub tasks : List Task
  pub given : GivesTasks options shape tasks
  pub refused : IsTasksFault tasks options.workers fault

-- why there is no answer
abbrev pub IsDispatchRefusal : DispatchOptions → Fault → Type 0
IsDispatchRefusal options (faults.Shape fault) = IsShapeFault options.sizes fault
IsDispatchRefusal options (faults.Word number) = IsUnreadTask options number
IsDispatchRefusal options (faults.Dispatch fault) = AreTasksRefused options fault
IsDispatchRefusal options faults.Memory = Unit {0}
IsDispatchRefusal options _ = ⊥
