-- What a worker needs, and what a dispatch begins with.
use Rattle.std.specs.Prelude.{◌≡◌, ℕ, ◌<◌, ◌≤◌, ◌+◌, List, [], ◌∷◌, All, Result, Ok, Err, Vec, length, map, max}
use Rattle.std.specs.List.{AllByRecursion}
use Rattle.kfifo_words.specs.declared.shape.Shape.{Shape}
use Rattle.kfifo_live.specs.Pass.{IsPassOf, PassView, OpenQueue}
use Rattle.kfifo_live.specs.Payloads.{Gives, PayCloses, PayPassView, TakesOut, new_pay_passes, pay_opening}
use Rattle.kfifo_live.specs.declared.payload.Given.{Given}
use Rattle.kfifo_live.specs.declared.payload.Taken.{Taken}
use Rattle.kfifo_dispatch.specs.declared.task.Task.{Task}
use Rattle.kfifo_dispatch.specs.Jobs.{JobView, id_at}
use Rattle.kfifo_dispatch.specs.Running.{AreEach, GivesAll, Runs}
use Rattle.kfifo_dispatch.specs.Starts.{Draws}

-- a queue of this shape for a caller and so many workers, with a token a pass for each of so many tasks, the caller's
-- pass and the others
pub record IsOpened (shape : Shape) (workers tasks : ℕ) (queue : OpenQueue) (own : PayPassView JobView)
    (passes : List (PayPassView JobView)) : Type 0 where
  pub opened : queue.opened ≡ pay_opening shape (workers + 1) (max tasks 1)
  pub own_is : new_pay_passes queue 0 1 ≡ own ∷ []
  pub passes_are : passes ≡ new_pay_passes queue 1 workers
  pub own_of : IsPassOf queue own.pass
  pub of : All (λ pass. IsPassOf queue pass.pass) passes

-- a worker's pass is of the queue, its starts are below k, and its calls have a round at least
pub record MayWork (queue : OpenQueue) (pass : PassView) (starts : Draws) (turns : ℕ) : Type 0 where
  pub of : IsPassOf queue pass
  pub starts_fit : starts.k ≡ queue.opened.shape.k
  pub turns_some : 1 ≤ turns

-- what the calls of a worker do whose pass is of a payload queue: the gate is passed, and leaves the pass as it is
module _ {T : Type 0} where
  abbrev pub PassPasses : (ℕ → ℕ → Type 0) → PayPassView T → ℕ → PayPassView T → Type 0
  PassPasses passed s call t = (t ≡ s) × passed s.pass.thread call

  abbrev pub PassTakes : PayPassView T → ℕ → ℕ → Taken T → PayPassView T → Type 0
  PassTakes s start turns answer t = TakesOut start turns answer s t

  abbrev pub PassGives : PayPassView T → T → ℕ → ℕ → Given T → PayPassView T → Type 0
  PassGives s payload start turns answer t = Gives start turns payload answer s t

-- the gate was told that this worker did a unit of work on the task at this place
abbrev pub TellsOf : (ℕ → ℕ → Type 0) → List Task → ℕ → ℕ → Type 0
TellsOf told tasks worker place = told worker (id_at tasks place)

-- the whole work of a worker with such a pass, and the places of the tasks that it finished
abbrev pub PassRuns : (passed told : ℕ → ℕ → Type 0) → List Task → Shape → ℕ → PayPassView JobView
    → PayPassView JobView → List ℕ → Type 0
PassRuns passed told tasks shape seed s t kept = Runs (PassPasses passed)
    (λ state. TellsOf told tasks state.pass.thread) PassTakes PassGives shape seed s.pass.thread s t kept

-- a worker's end: its last pass, and the places of the tasks that it finished
pub record Ended : Type 0 where
  pub last : PayPassView JobView
  pub kept : List ℕ

-- the places of the tasks that a worker finished, none where it has no list of them
abbrev pub places_of : {A E : Type 0} → Result (Vec JobView A) E → List ℕ
places_of (Ok kept) = map (λ done. done.place) kept.items
places_of (Err fault) = []

-- the caller told of a unit of work on each of these jobs of which one was left
abbrev pub CallerTells : (ℕ → ℕ → Type 0) → List Task → List JobView → Type 0
CallerTells told tasks jobs = AllByRecursion (λ job. 0 < job.left → TellsOf told tasks 0 job.place) jobs

-- What a dispatch does, where `passed` and `told` are what the gate says of its calls. It opens a queue with a pass for
-- the caller and one for each worker, each with a token for each task. The caller, who has the first pass, gives all
-- tasks. Then each worker, with the pass of its number, does all its work. When all have ended, the caller closes the
-- queue by all passes, and works off the jobs that are left. So there is one schedule of all these calls, which keeps
-- the promise of the queue
pub record HasRun (passed told : ℕ → ℕ → Type 0) (shape : Shape) (workers seed : ℕ) (tasks : List Task) : Type 0 where
  pub queue : OpenQueue
  pub opened : queue.opened ≡ pay_opening shape (workers + 1) (max (length tasks) 1)
  pub given : PayPassView JobView
  pub refused : List ℕ
  pub first : PayPassView JobView
  pub first_is : new_pay_passes queue 0 1 ≡ first ∷ []
  pub gives : GivesAll (TellsOf told tasks 0) PassGives (shape.n + 2) 0 tasks first given refused
  pub ends : List Ended
  pub runs : AreEach (λ first end. PassRuns passed told tasks shape seed first end.last end.kept)
      (new_pay_passes queue 1 workers) ends
  pub left : List JobView
  pub closes : PayCloses queue given (map (λ end. end.last) ends) left
  pub works_off : CallerTells told tasks left
