-- Auxiliary state of the proof, a ghost log kept beside the machine, which no step reads: the visits of head and tail,
-- and where each call's item is.
use Rattle.std.specs.Prelude.{ℕ, ◌+◌, Bool, true, false, not, ◌&&◌, ◌==◌, nat_lt, nat_le, min, if◌then◌else◌, List, []}
use Rattle.std.specs.Prelude.{◌∷◌, Option, Some, None}
use Rattle.kfifo_machine.specs.declared.place.EnqueuePhase.TheVariants as E
use Rattle.kfifo_machine.specs.declared.place.DequeuePhase.TheVariants as D
use Rattle.kfifo_machine.specs.declared.place.Running.TheVariants as R
use Rattle.kfifo_machine.specs.declared.event.Begin.TheVariants as B
use Rattle.kfifo_machine.specs.Machine.{World, place_of, step, word_at, world_of}
use Rattle.kfifo_machine.specs.Program.{access, accessed, advance}
use Rattle.kfifo_linear.specs.declared.action.Action.{Action}
use Rattle.kfifo_linear.specs.declared.action.Action.TheVariants.{HoldHead, LoadEnds, MoveHead, MoveTail, Unnoted, Put}
use Rattle.kfifo_linear.specs.declared.action.Action.TheVariants.{Recheck, RecheckEmpty, ReloadEnds, Take, Undo}
use Rattle.kfifo_machine.specs.declared.event.Begin.{Begin}
use Rattle.kfifo_machine.specs.declared.event.Event.{Event}
use Rattle.kfifo_machine.specs.declared.place.DequeuePhase.{DequeuePhase}
use Rattle.kfifo_machine.specs.declared.place.EnqueuePhase.{EnqueuePhase}
use Rattle.kfifo_machine.specs.declared.place.Found.TheVariants.{Nothing, Slot}
use Rattle.kfifo_machine.specs.declared.place.Next.{Next}
use Rattle.kfifo_machine.specs.declared.place.Next.TheVariants.{Answers, Goes}
use Rattle.kfifo_machine.specs.declared.place.Running.{Running}
use Rattle.kfifo_model.specs.declared.calls.Answer.{Answer}
use Rattle.kfifo_words.specs.Ring.{distance}
use Rattle.kfifo_words.specs.Words.{head_of, tail_of}
use Rattle.kfifo_words.specs.declared.shape.Shape.{Shape}

-- the action where its exchange was won or its test held, else one that tells the order nothing
abbrev pub action_if : Bool → Action → Action
action_if true action = action
action_if false action = Unnoted

-- what an enqueue's reload of the ends after_action, its item being in a slot of this segment: it is between head and
-- tail, or not
abbrev pub settles : Shape → ℕ → ℕ → ℕ → Action
settles shape segment index word =
    action_if (not (segment == head_of word)
    && nat_le (distance shape.n (head_of word) segment) (distance shape.n (head_of word) (tail_of word)))
    (ReloadEnds index segment)

-- what a step of an enqueue after_action that found this word
abbrev pub enqueue_action : Shape → EnqueuePhase → ℕ → Action
enqueue_action shape E.LoadEnds word = LoadEnds
enqueue_action shape (E.ScanTail ends offset) word = Unnoted
enqueue_action shape (E.Recheck ends seen) word = Recheck
enqueue_action shape (E.Put ends index empty) word = action_if (word == empty) (Put index)
enqueue_action shape (E.ReloadSlot ends index filled) word = Unnoted
enqueue_action shape (E.ReloadEnds ends index filled) word = settles shape (tail_of ends) index word
enqueue_action shape (E.HoldHead ends index filled held) word = action_if (word == held) (HoldHead index)
enqueue_action shape (E.Undo index filled worn) word = action_if (word == filled) (Undo index)
enqueue_action shape (E.ScanHead ends offset) word = Unnoted
enqueue_action shape (E.ConfirmFull ends) word = Unnoted
enqueue_action shape (E.MoveHead ends) word = action_if (word == ends) MoveHead
enqueue_action shape (E.MoveTail ends) word = action_if (word == ends) MoveTail

-- the same of a dequeue
abbrev pub dequeue_action : DequeuePhase → ℕ → Action
dequeue_action D.LoadEnds word = LoadEnds
dequeue_action (D.ScanHead ends offset) word = Unnoted
dequeue_action (D.Recheck ends (Slot index seen)) word = Unnoted
dequeue_action (D.Recheck ends Nothing) word = action_if ((word == ends) && (tail_of ends == head_of ends)) RecheckEmpty
dequeue_action (D.MoveTail ends index filled) word = action_if (word == ends) MoveTail
dequeue_action (D.Take ends index filled) word = action_if (word == filled) (Take index)
dequeue_action (D.MoveHead ends) word = action_if (word == ends) MoveHead

-- what a step from this place after_action
abbrev pub action : Shape → Running → ℕ → Action
action shape (R.Enqueue item start left phase) word = enqueue_action shape phase word
action shape (R.Dequeue start left phase) word = dequeue_action phase word

-- where a call stands in the order
pub data Standing : Type 0 where
  -- no item of it is in the table
  Outside : Standing
  -- its item is in this slot
  Inside : (index : ℕ) → Standing
  -- its item was taken from this slot, in this visit; its place in the order
  Gone : (index visit point : ℕ) → Standing
  -- it took the item of that call, in this visit; its place in the order
  Took : (call visit point : ℕ) → Standing
  -- it found the queue empty in this visit; its place in the order
  Stood : (visit point : ℕ) → Standing

-- a number of one thing, written down anew
unfoldable pub noted : {X : Type 0} → (ℕ → X) → ℕ → X → ℕ → X
noted notes at x i = if i == at then x else notes i

pub record Ledger : Type 0 where
  -- the number of events
  pub now : ℕ
  -- the visits of head and tail, which is how often each was moved, and the steps at which they left each visit
  pub head : ℕ
  pub tail : ℕ
  pub heads : ℕ → ℕ
  pub tails : ℕ → ℕ
  -- of each slot by its index: the call that last put there, the tail's visit at the first load of its round, the
  -- head's at its put; no item of this visit or a later one was taken from it; whether its item is settled, in which
  -- visit, and the point of its enqueue
  pub owner : ℕ → ℕ
  pub tail_at_load : ℕ → ℕ
  pub head_at_put : ℕ → ℕ
  pub untaken_from : ℕ → ℕ
  pub settled : ℕ → Bool
  pub visit : ℕ → ℕ
  pub point : ℕ → ℕ
  -- of each call by its number: its first step, its last with the answer, what it is, and where it stands
  pub calls : ℕ
  pub first : ℕ → ℕ
  pub last : ℕ → Option ℕ
  pub answer : ℕ → Option Answer
  pub begin : ℕ → Begin
  pub standing : ℕ → Standing
  -- of each thread: the call that it makes or made last, and the visits of head and tail at the first load of its round
  pub caller : ℕ → ℕ
  pub head_seen : ℕ → ℕ
  pub tail_seen : ℕ → ℕ
  -- of each thread: the step of its last Recheck; of each call: the step of the Recheck before its last won put
  pub rechecked : ℕ → ℕ
  pub recheck_before_put : ℕ → ℕ

-- the place in the order of an enqueue whose item is settled in this visit
unfoldable pub settle_point : Ledger → ℕ → ℕ
settle_point l visit = if nat_lt visit l.tail then l.tails visit else l.now

-- the visit in which an item of this segment is settled
unfoldable pub settle_visit : Shape → Ledger → ℕ → ℕ → ℕ
settle_visit shape l head segment = l.head + distance shape.n head segment

-- the place of a taken item's enqueue, and of the dequeue that took it
unfoldable pub gone_point : Ledger → ℕ → ℕ → ℕ
gone_point l index visit = if l.settled index then min (l.point index) (l.tails visit) else l.tails visit

unfoldable pub took_point : Ledger → ℕ → ℕ
took_point l visit = if nat_lt visit l.head then l.heads visit else l.now

-- the item of a standing is still in its slot
abbrev pub is_inside : Standing → Bool
is_inside (Inside index) = true
is_inside Outside = false
is_inside (Gone index visit point) = false
is_inside (Took call visit point) = false
is_inside (Stood visit point) = false

-- the item that a call puts, 0 where it puts none
abbrev pub item_of : Begin → ℕ
item_of (B.Enqueue item start turns) = item
item_of (B.Dequeue start turns) = 0
item_of B.Tick = 0
item_of B.Seal = 0

-- Each thing that is noted, after an action of a thread that found these ends, where `now` is not yet raised.
abbrev pub head_after : Action → Ledger → ℕ
head_after MoveHead l = l.head + 1
head_after other l = l.head

abbrev pub tail_after : Action → Ledger → ℕ
tail_after MoveTail l = l.tail + 1
tail_after other l = l.tail

-- the steps at which head and tail left their visits
abbrev pub heads_after : Action → Ledger → ℕ → ℕ
heads_after MoveHead l v = noted l.heads l.head l.now v
heads_after other l v = l.heads v

abbrev pub tails_after : Action → Ledger → ℕ → ℕ
tails_after MoveTail l v = noted l.tails l.tail l.now v
tails_after other l v = l.tails v

-- who put into a slot last, and where tail and head then were: the tail at the first load of the round, the head at the
-- put
abbrev pub owner_after : Action → ℕ → Ledger → ℕ → ℕ
owner_after (Put index) thread l i = noted l.owner index (l.caller thread) i
owner_after other thread l i = l.owner i

abbrev pub tail_at_load_after : Action → ℕ → Ledger → ℕ → ℕ
tail_at_load_after (Put index) thread l i = noted l.tail_at_load index (l.tail_seen thread) i
tail_at_load_after other thread l i = l.tail_at_load i

abbrev pub head_at_put_after : Action → Ledger → ℕ → ℕ
head_at_put_after (Put index) l i = noted l.head_at_put index l.head i
head_at_put_after other l i = l.head_at_put i

-- a slot from which an item was taken, has only items of later visits from there on
abbrev pub untaken_from_after : Action → ℕ → Ledger → ℕ → ℕ
untaken_from_after (Take index) thread l i = noted l.untaken_from index (l.head_seen thread + 1) i
untaken_from_after other thread l i = l.untaken_from i

-- an item is settled by its own enqueue while it is in its slot, until it is taken or undone
abbrev pub settled_after : Action → ℕ → Ledger → ℕ → Bool
settled_after (Put index) thread l i = noted l.settled index false i
settled_after (Undo index) thread l i = noted l.settled index false i
settled_after (Take index) thread l i = noted l.settled index false i
settled_after (ReloadEnds index segment) thread l i =
    if is_inside (l.standing (l.caller thread)) then noted l.settled index true i else l.settled i
settled_after (HoldHead index) thread l i =
    if is_inside (l.standing (l.caller thread)) then noted l.settled index true i else l.settled i
settled_after other thread l i = l.settled i

-- the visit of a settled item
abbrev pub visit_after : Shape → Action → ℕ → ℕ → Ledger → ℕ → ℕ
visit_after shape (ReloadEnds index segment) thread ends l i =
    if is_inside (l.standing (l.caller thread)) then noted l.visit index (settle_visit shape l (head_of ends) segment)
    i else l.visit i
visit_after shape (HoldHead index) thread ends l i =
    if is_inside (l.standing (l.caller thread)) then noted l.visit index l.head i else l.visit i
visit_after shape other thread ends l i = l.visit i

-- the point of its enqueue
abbrev pub point_after : Shape → Action → ℕ → ℕ → Ledger → ℕ → ℕ
point_after shape (ReloadEnds index segment) thread ends l i =
    if is_inside (l.standing (l.caller thread)) then noted l.point index
    (settle_point l (settle_visit shape l (head_of ends) segment)) i else l.point i
point_after shape (HoldHead index) thread ends l i =
    if is_inside (l.standing (l.caller thread)) then noted l.point index (settle_point l l.head) i else l.point i
point_after shape other thread ends l i = l.point i

-- where calls stand: a take overrides what was settled
abbrev pub standing_after : Action → ℕ → Ledger → ℕ → Standing
standing_after (Put index) thread l c = noted l.standing (l.caller thread) (Inside index) c
standing_after (Undo index) thread l c = noted l.standing (l.caller thread) Outside c
standing_after (Take index) thread l c =
    noted
    (noted l.standing (l.owner index) (Gone index (l.head_seen thread) (gone_point l index (l.head_seen thread))))
    (l.caller thread)
    (Took (l.owner index) (l.head_seen thread) (took_point l (l.head_seen thread)))
    c
standing_after RecheckEmpty thread l c = noted l.standing (l.caller thread) (Stood l.head l.now) c
standing_after other thread l c = l.standing c

-- the visits of head and tail at the first load of a round
abbrev pub head_seen_after : Action → ℕ → Ledger → ℕ → ℕ
head_seen_after LoadEnds thread l t = noted l.head_seen thread l.head t
head_seen_after other thread l t = l.head_seen t

abbrev pub tail_seen_after : Action → ℕ → Ledger → ℕ → ℕ
tail_seen_after LoadEnds thread l t = noted l.tail_seen thread l.tail t
tail_seen_after other thread l t = l.tail_seen t

-- the step of an enqueue's Recheck, and of the one before a put
abbrev pub rechecked_after : Action → ℕ → Ledger → ℕ → ℕ
rechecked_after Recheck thread l t = noted l.rechecked thread l.now t
rechecked_after other thread l t = l.rechecked t

abbrev pub recheck_before_put_after : Action → ℕ → Ledger → ℕ → ℕ
recheck_before_put_after (Put index) thread l c = noted l.recheck_before_put (l.caller thread) (l.rechecked thread) c
recheck_before_put_after other thread l c = l.recheck_before_put c

-- the last steps of calls after a step
abbrev pub last_after : Next → Ledger → ℕ → ℕ → Option ℕ
last_after (Goes running) l call c = l.last c
last_after (Answers answer) l call c = noted l.last call (Some l.now) c

-- the answers of calls after a step
abbrev pub answer_after : Next → Ledger → ℕ → ℕ → Option Answer
answer_after (Goes running) l call c = l.answer c
answer_after (Answers answer) l call c = noted l.answer call (Some answer) c

-- the ledger after a step that does this action, finds these ends, and after which the thread does this
abbrev pub after_action : Shape → ℕ → ℕ → Action → Next → Ledger → Ledger
after_action shape thread ends what next l =
    record {
      now = l.now + 1;
      head = head_after what l;
      tail = tail_after what l;
      heads = heads_after what l;
      tails = tails_after what l;
      owner = owner_after what thread l;
      tail_at_load = tail_at_load_after what thread l;
      head_at_put = head_at_put_after what l;
      untaken_from = untaken_from_after what thread l;
      settled = settled_after what thread l;
      visit = visit_after shape what thread ends l;
      point = point_after shape what thread ends l;
      calls = l.calls;
      first = l.first;
      last = last_after next l (l.caller thread);
      answer = answer_after next l (l.caller thread);
      begin = l.begin;
      standing = standing_after what thread l;
      caller = l.caller;
      head_seen = head_seen_after what thread l;
      tail_seen = tail_seen_after what thread l;
      rechecked = rechecked_after what thread l;
      recheck_before_put = recheck_before_put_after what thread l;
    }

-- the word that a step finds among these words
abbrev pub found_in : Shape → (ℕ → ℕ) → Running → ℕ
found_in shape words running = words (accessed (access shape running))

-- the ledger after the step of a thread at this place
unfoldable pub stepped : Shape → (ℕ → ℕ) → ℕ → Running → Ledger → Ledger
stepped shape words thread running l =
    after_action shape thread (words 0) (action shape running (found_in shape words running))
    (advance shape running (found_in shape words running)) l

-- a call begins
unfoldable pub called : ℕ → Begin → Ledger → Ledger
called thread what l =
    record l {
      calls = l.calls + 1;
      first = noted l.first l.calls l.now;
      last = noted l.last l.calls None;
      answer = noted l.answer l.calls None;
      begin = noted l.begin l.calls what;
      standing = noted l.standing l.calls Outside;
      caller = noted l.caller thread l.calls;
    }

-- the ledger after the event of a thread at this place, which begins this
abbrev pub ledger_from : Shape → (ℕ → ℕ) → ℕ → Option Running → Option Begin → Ledger → Ledger
ledger_from shape words thread None None l = l
ledger_from shape words thread None (Some (B.Enqueue item start turns)) l =
    stepped shape words thread (R.Enqueue item start turns E.LoadEnds) (called thread (B.Enqueue item start turns) l)
ledger_from shape words thread None (Some (B.Dequeue start turns)) l =
    stepped shape words thread (R.Dequeue start turns D.LoadEnds) (called thread (B.Dequeue start turns) l)
ledger_from shape words thread None (Some B.Tick) l = record l { now = l.now + 1 }
ledger_from shape words thread None (Some B.Seal) l = record l { now = l.now + 1 }
ledger_from shape words thread (Some running) begin l = stepped shape words thread running l

-- the ledger after an event
unfoldable pub ledger_after : Shape → World → Event → Ledger → Ledger
ledger_after shape world event l = ledger_from shape (word_at world) event.thread (place_of world event.thread)
    event.begin l

-- the ledger at the opening
unfoldable pub blank : Ledger
blank =
    record {
      now = 0;
      head = 0;
      tail = 0;
      heads = λ _. 0;
      tails = λ _. 0;
      owner = λ _. 0;
      tail_at_load = λ _. 0;
      head_at_put = λ _. 0;
      untaken_from = λ _. 0;
      settled = λ _. false;
      visit = λ _. 0;
      point = λ _. 0;
      calls = 0;
      first = λ _. 0;
      last = λ _. None;
      answer = λ _. None;
      begin = λ _. B.Tick;
      standing = λ _. Outside;
      caller = λ _. 0;
      head_seen = λ _. 0;
      tail_seen = λ _. 0;
      rechecked = λ _. 0;
      recheck_before_put = λ _. 0;
    }

-- the ledger after a whole schedule
abbrev pub ledger_of : Shape → Option World → List Event → Ledger → Ledger
ledger_of shape world [] l = l
ledger_of shape None (event ∷ events) l = l
ledger_of shape (Some world) (event ∷ events) l =
    ledger_of shape (world_of (step shape world event)) events (ledger_after shape world event l)
