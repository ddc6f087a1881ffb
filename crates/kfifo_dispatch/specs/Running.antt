-- What a worker does, call by call.
use Rattle.std.specs.Prelude.{◌≡◌, ◌≤◌, ◌<◌, ◌⊎◌, ℕ, zero, suc, ◌+◌, ◌-◌, ◌%◌, ◌^◌, List, [], ◌∷◌, ◌++◌, Option, Some}
use Rattle.std.specs.Prelude.{None}
use Rattle.rand_pcg.specs.Pcg.{pcg32}
use Rattle.kfifo_live.specs.declared.payload.Given.{Given}
use Rattle.kfifo_live.specs.declared.payload.Given.TheVariants as G
use Rattle.kfifo_live.specs.declared.payload.Taken.{Taken}
use Rattle.kfifo_live.specs.declared.payload.Taken.TheVariants as K
use Rattle.kfifo_dispatch.specs.declared.worker.Turn.{Turn}
use Rattle.kfifo_dispatch.specs.declared.worker.Turn.TheVariants as W
use Rattle.kfifo_dispatch.specs.Jobs.{JobView}
use Rattle.kfifo_dispatch.specs.Starts.{Draws, seeded}
use Rattle.kfifo_dispatch.specs.declared.task.Task.{Task}
use Rattle.kfifo_words.specs.declared.shape.Shape.{Shape}

-- the next start that is drawn, and what draws those after it
abbrev pub start_of : Draws → ℕ
start_of d = (pcg32 d.generator).0 % d.k

abbrev pub next_of : Draws → Draws
next_of d = record { k = d.k; generator = (pcg32 d.generator).1 }

-- what a worker draws its starts by
abbrev pub first_draws : Shape → ℕ → ℕ → Draws
first_draws shape seed worker = record { k = shape.k; generator = seeded ((seed + worker) % 2 ^ 64) }

-- the job of the task at this place
abbrev pub begun : ℕ → Task → JobView
begun place task = record { place = place; left = task.left; sum = task.sum }

-- a job after one unit of work more
abbrev pub worked : JobView → JobView
worked job = record { place = job.place; left = job.left - 1; sum = job.sum + job.left }

-- the place of a task that the worker keeps, if it keeps one
abbrev pub place_kept : Option JobView → List ℕ
place_kept (Some done) = done.place ∷ []
place_kept None = []

-- a task that the queue refused comes back, and the worker keeps it when it has worked it off
abbrev pub kept_after : Given JobView → List ℕ
kept_after G.Done = []
kept_after (G.Full back) = back.place ∷ []
kept_after (G.Busy back) = back.place ∷ []
kept_after (G.Worn back) = back.place ∷ []
kept_after (G.NoToken back) = back.place ∷ []

-- of a task that the queue refused, a unit of work was told of, if one was left
abbrev pub TellsOfKept : (ℕ → Type 0) → Given JobView → Type 0
TellsOfKept Told G.Done = Unit {0}
TellsOfKept Told (G.Full back) = 0 < back.left → Told back.place
TellsOfKept Told (G.Busy back) = 0 < back.left → Told back.place
TellsOfKept Told (G.Worn back) = 0 < back.left → Told back.place
TellsOfKept Told (G.NoToken back) = 0 < back.left → Told back.place

-- What a worker does, by what its calls do: a call Passes s c t takes it from the state s to t, and so on. In a state
-- it Tells of a unit of work on the task at a place
module _ {S : Type 0} (Passes : S → ℕ → S → Type 0) (Tells : S → ℕ → Type 0)
    (Takes : S → ℕ → ℕ → Taken JobView → S → Type 0) (Gives : S → JobView → ℕ → ℕ → Given JobView → S → Type 0) where
  -- A task that it took: it does a unit of work, if one is left, and tells of it. It keeps a task with nothing left
  -- after that, and gives any other back, at the next start
  abbrev pub WorksAt : ℕ → JobView → S → Draws → S → Draws → List ℕ → Type 0
  WorksAt turns job s d t e kept = (0 < job.left → Tells s job.place)
      × (((job.left ≤ 1) × (t ≡ s) × (e ≡ d) × (kept ≡ job.place ∷ []))
      ⊎ ((1 < job.left) × ((answer : Given JobView)
      × Gives s (worked job) (start_of d) turns answer t × (e ≡ next_of d) × (kept ≡ kept_after answer))))

  -- After a take: Empty and Worn are the end. Busy goes on, and so does Got, after the work at that task
  abbrev pub Follows : ℕ → Taken JobView → S → Draws → Turn JobView → S → Draws → Type 0
  Follows turns K.Empty s d turn t e = (turn ≡ W.Over) × (t ≡ s) × (e ≡ d)
  Follows turns K.Worn s d turn t e = (turn ≡ W.Over) × (t ≡ s) × (e ≡ d)
  Follows turns K.Busy s d turn t e = (turn ≡ W.On None) × (t ≡ s) × (e ≡ d)
  Follows turns (K.Got job) s d turn t e = (kept : Option JobView) × (turn ≡ W.On kept)
      × WorksAt turns job s d t e (place_kept kept)

  -- The take of this number: it passes the gate, takes at the next start, and does what follows
  abbrev pub IsTurn : ℕ → ℕ → S → Draws → Turn JobView → S → Draws → Type 0
  IsTurn turns call s d turn t e = (u : S) × (v : S) × (answer : Taken JobView)
      × Passes s call u × Takes u (start_of d) turns answer v × Follows turns answer v (next_of d) turn t e

  abbrev pub GoesOn : (S → Draws → S → List ℕ → Type 0) → Turn JobView → S → Draws → S → List ℕ → Type 0
  GoesOn Rest W.Over s d t kept = (t ≡ s) × (kept ≡ [])
  GoesOn Rest (W.On now) s d t kept = (later : List ℕ) × Rest s d t later × (kept ≡ place_kept now ++ later)

  -- So many takes are left, and the next is this one by its number. The places of the tasks that are kept come in turn
  unfoldable pub Works : ℕ → ℕ → ℕ → S → Draws → S → List ℕ → Type 0
  Works turns zero call s d t kept = (t ≡ s) × (kept ≡ [])
  Works turns (suc left) call s d t kept = (turn : Turn JobView) × (u : S) × (e : Draws)
      × IsTurn turns call s d turn u e × GoesOn (Works turns left (suc call)) turn u e t kept

  -- the whole work of a worker: `Starts::new(seed, worker, k)` makes its starts in turn, each call makes n + 2 rounds,
  -- and it takes 65,536 times at most
  abbrev pub Runs : Shape → ℕ → ℕ → S → S → List ℕ → Type 0
  Runs shape seed worker s t kept = Works (shape.n + 2) 65536 1 s (first_draws shape seed worker) t kept

module _ {S : Type 0} (Told : ℕ → Type 0) (Gives : S → JobView → ℕ → ℕ → Given JobView → S → Type 0) where
  -- the caller gives these tasks in turn, each at slot 0; those at the places `kept` came back, and it worked them off
  abbrev pub GivesAll : ℕ → ℕ → List Task → S → S → List ℕ → Type 0
  GivesAll turns place [] s t kept = (t ≡ s) × (kept ≡ [])
  GivesAll turns place (task ∷ tasks) s t kept = (u : S) × (answer : Given JobView) × (later : List ℕ)
      × Gives s (begun place task) 0 turns answer u × TellsOfKept Told answer
      × GivesAll turns (suc place) tasks u t later
      × (kept ≡ kept_after answer ++ later)

-- each of the first list is so to its counterpart in the second, and there are as many
abbrev pub AreEach : {A B : Type 0} → (A → B → Type 0) → List A → List B → Type 0
AreEach R [] [] = Unit {0}
AreEach R [] (b ∷ bs) = ⊥
AreEach R (a ∷ rest) [] = ⊥
AreEach R (a ∷ rest) (b ∷ bs) = R a b × AreEach R rest bs
