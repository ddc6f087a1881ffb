-- A queue and its passes, as callers see them.
use Rattle.std.specs.Prelude.{◌<◌, ◌≡◌, ◌≢◌, ◌⊎◌, ℕ, zero, suc, List, [], ◌∷◌, Option, Some, None, ◌+◌, ◌++◌}
use Rattle.std.specs.Prelude.{◌==◌, length, true}
use Rattle.std.specs.List.{Contains, list_any}
use Rattle.atomic_table.specs.Table.{Me}
use Rattle.atomic_table.specs.Seated.{TableId}
use Rattle.kfifo_machine.specs.declared.event.Event.{Event}
use Rattle.kfifo_machine.specs.Machine.{World, word_at, place_of}
use Rattle.kfifo_machine.specs.Places.{IsSlotIndex}
use Rattle.kfifo_linear.specs.Seals.{IsPutBy, SealedEmpty}
use Rattle.kfifo_words.specs.Words.{value_of}
use Rattle.kfifo_machine.specs.Runs.{Begins, own}
use Rattle.kfifo_live.specs.declared.view.Opening.{Opening}
use Rattle.kfifo_live.specs.declared.view.View.{View}
use Rattle.kfifo_live.specs.Schedule.{IsSmall, part, world_after, seen_of, gifts_of, hand_of, AllBegin}
use Rattle.kfifo_live.specs.Left.{items_left}
use Rattle.kfifo_live.specs.Promise.{KeepsPromise}
use Rattle.kfifo_live.specs.Balance.{times, puts, undos, takes}
use Rattle.kfifo_live.specs.Step.{IsAt}

-- an open queue: its table, and what it was opened with
pub record OpenQueue : Type 0 where
  pub table : TableId
  pub opened : Opening

-- a pass of a thread, and the schedule that it has seen
pub record PassView : Type 0 where
  pub table : TableId
  pub opened : Opening
  pub thread : ℕ
  pub seen : List Event

abbrev pub queue_of : TableId → Opening → OpenQueue
queue_of table o = record { table = table; opened = o }

abbrev pub pass_view : {T : Type 0} → TableId → ℕ → View T → PassView
pass_view table thread v = record { table = table; opened = v.opened; thread = thread; seen = seen_of v }

-- what is always so of a pass: it acts for its thread alone, which is in no call, its seat holds no slot, and its queue
-- was opened for few threads and stamped calls
pub record IsPass {T : Type 0} (thread : ℕ) (me : Me (Option T) (View T)) : Type 0 where
  pub alone : me.0.parts ≡ part thread (seen_of me.0) (gifts_of me.0) (hand_of me.0) ∷ []
  pub held : me.1 ≡ []
  pub idle : IsAt None me
  pub few : IsSmall me.0.opened

-- after the empty schedule each word of the opening is 0
abbrev pub IsZeroed : Opening → Type 0
IsZeroed o = (world : World) → world_after o [] ≡ Some world → (index : ℕ) → word_at world index ≡ 0

-- the pass came from this opening
abbrev pub IsPassOf : OpenQueue → PassView → Type 0
IsPassOf q p = (p.table ≡ q.table) × (p.opened ≡ q.opened)

-- the pass is the same, but for what it has seen
abbrev pub IsSamePass : PassView → PassView → Type 0
IsSamePass p q = (q.table ≡ p.table) × (q.opened ≡ p.opened) × (q.thread ≡ p.thread)

-- what a pass has seen keeps the promise of its queue
abbrev pub PassKeepsPromise : PassView → Type 0
PassKeepsPromise p = KeepsPromise p.opened p.seen

-- a pass has seen no event of its own: its thread has begun no call
abbrev pub HasNoEvent : PassView → Type 0
HasNoEvent p = own p.thread p.seen ≡ []

-- the passes of threads first, first + 1, .., which have seen the empty schedule
abbrev pub new_passes : OpenQueue → ℕ → ℕ → List PassView
new_passes q first zero = []
new_passes q first (suc count) = record { table = q.table; opened = q.opened; thread = first; seen = [] }
    ∷ new_passes q (suc first) count

-- the word was this after a schedule that the pass has then seen: others' events follow what it had seen
pub record Finds (p q : PassView) (index word : ℕ) : Type 0 where
  pub others : Begins p.thread p.seen q.seen
  pub world : World
  pub reached : world_after p.opened q.seen ≡ Some world
  pub word_is : word ≡ word_at world index

-- a list that begins with another
abbrev pub StartsWith : List Event → List Event → Type 0
StartsWith all seen = (rest : List Event) × (all ≡ seen ++ rest)

-- each pass has seen a beginning of this schedule, with all its own events
abbrev pub AllSeen : List PassView → List Event → Type 0
AllSeen [] all = Unit {0}
AllSeen (p ∷ ps) all = Begins p.thread p.seen all × AllSeen ps all

-- each of so many threads has a pass among these
abbrev pub HaveAllThreads : ℕ → List PassView → Type 0
HaveAllThreads threads ps = (thread : ℕ) → thread < threads → list_any (λ p. p.thread == thread) ps ≡ true

-- each pass of the opening is there once
pub record IsComplete (threads : ℕ) (ps : List PassView) : Type 0 where
  pub count : length ps ≡ threads
  pub each : HaveAllThreads threads ps

-- after what each of these passes of an opening has seen its thread is in no call
abbrev pub AllIdle : Opening → List PassView → Type 0
AllIdle o [] = Unit {0}
AllIdle o (p ∷ ps) = ((here : World) → world_after o p.seen ≡ Some here → place_of here p.thread ≡ None) × AllIdle o ps

-- what a pass has seen leaves its queue sealed empty; and so it is with one of these passes of an opening
abbrev pub IsSealedEmpty : PassView → Type 0
IsSealedEmpty p = SealedEmpty p.opened.shape p.opened.threads p.seen

abbrev pub OneSealedEmpty : Opening → List PassView → Type 0
OneSealedEmpty o [] = ⊥
OneSealedEmpty o (p ∷ ps) = SealedEmpty o.shape o.threads p.seen ⊎ OneSealedEmpty o ps

-- after a beginning of what a pass has seen its queue was sealed empty
pub record WasSealedEmpty (p : PassView) : Type 0 where
  pub first : List Event
  pub begins : StartsWith p.seen first
  pub empty : SealedEmpty p.opened.shape p.opened.threads first

-- What these threads put into a queue is there no more, after what a pass of it has seen: what is in a slot then was
-- put there by another thread, whose enqueue is in progress. Each item that was put was undone or taken, or is in a
-- slot, as often as it was put
pub record HaveComeOut (threads : List ℕ) (p : PassView) : Type 0 where
  pub world : World
  pub reached : world_after p.opened p.seen ≡ Some world
  pub others : (index : ℕ) → IsSlotIndex p.opened.shape index → value_of (word_at world index) ≢ 0
      → (thread : ℕ) × (Contains threads thread → ⊥) × IsPutBy world thread index
  pub balance : (item : ℕ) → puts item p.opened p.seen
      ≡ undos item p.opened p.seen + (takes item p.opened p.seen + times item (items_left p.opened.shape world.words))

-- the view w has the parts of v and what these passes saw: whatever schedule all parts of w agree with, the parts of v
-- and each of these passes agree with it too
pub record IsJoined {T : Type 0} (v : View T) (ps : List PassView) (w : View T) : Type 0 where
  pub opened : w.opened ≡ v.opened
  pub all_seen : (all : List Event) → AllBegin w.parts all → AllBegin v.parts all × AllSeen ps all
  pub all_idle : AllIdle v.opened ps

-- What is left at the end: there is one schedule, a beginning of which each pass has seen with all its own events, and
-- the items are the ones in the filled slots after it, none where a pass saw the queue sealed empty. No item is lost
-- and none comes twice: the items put in that schedule are the ones undone, the ones taken and the ones left, each as
-- often. And that schedule keeps the promise
pub record Closes (q : OpenQueue) (ps : List PassView) (items : List ℕ) : Type 0 where
  pub all : List Event
  pub world : World
  pub reached : world_after q.opened all ≡ Some world
  pub begin : AllSeen ps all
  pub items_are : items ≡ items_left q.opened.shape world.words
  pub balance : (item : ℕ) → puts item q.opened all
      ≡ undos item q.opened all + (takes item q.opened all + times item items)
  pub promise : KeepsPromise q.opened all
  pub sealed : OneSealedEmpty q.opened ps → items ≡ []
