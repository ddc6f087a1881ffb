-- A queue of owned payloads and its passes, as callers see them, and what a call with a payload does.
use Rattle.std.specs.Prelude.{false, ◌<◌, ◌≤◌, ◌≡◌, ◌≢◌, ℕ, zero, suc, ◌+◌, ◌-◌, ◌*◌, List, [], ◌∷◌, ◌++◌}
use Rattle.std.specs.Prelude.{Option, Some, None, get_or, length, map, reverse}
use Rattle.kfifo_live.specs.declared.payload.opening.TheConstants.{MOST_TOKENS}
use Rattle.std.specs.List.{AllByRecursion}
use Rattle.atomic_table.specs.Table.{Me}
use Rattle.atomic_table.specs.Seated.{TableId}
use Rattle.kfifo_words.specs.declared.shape.Shape.{Shape}
use Rattle.kfifo_words.specs.Words.{value_of}
use Rattle.kfifo_words.specs.Ring.{clock_at}
use Rattle.kfifo_model.specs.declared.calls.Answer.{Answer}
use Rattle.kfifo_model.specs.declared.calls.Answer.TheVariants as A
use Rattle.kfifo_machine.specs.declared.event.Begin.TheVariants as B
use Rattle.kfifo_machine.specs.declared.event.Event.{Event}
use Rattle.kfifo_machine.specs.declared.place.DequeuePhase.TheVariants as D
use Rattle.kfifo_machine.specs.declared.place.Running.TheVariants as R
use Rattle.kfifo_machine.specs.Laws.{PutsNext}
use Rattle.kfifo_machine.specs.Machine.{World, place_of, word_at}
use Rattle.kfifo_machine.specs.Runs.{AllGoOn, Begins, event, own}
use Rattle.kfifo_live.specs.declared.view.Opening.{Opening}
use Rattle.kfifo_live.specs.declared.view.View.{View}
use Rattle.kfifo_live.specs.declared.payload.Given.{Given}
use Rattle.kfifo_live.specs.declared.payload.Given.TheVariants as G
use Rattle.kfifo_live.specs.declared.payload.Taken.{Taken}
use Rattle.kfifo_live.specs.declared.payload.Taken.TheVariants as K
use Rattle.kfifo_live.specs.Hands.{Gifts, InTurn, beside}
use Rattle.kfifo_live.specs.Balance.{times, puts, undos, takes}
use Rattle.kfifo_live.specs.Left.{items_left}
use Rattle.kfifo_live.specs.Promise.{KeepsPromise}
use Rattle.kfifo_live.specs.Schedule.{GiftsFit, HolderLaw, count_up, seen_of, gifts_of, hand_of, world_after}
use Rattle.kfifo_live.specs.Schedule.{resting_view, AllBegin, AllGiven}
use Rattle.kfifo_live.specs.Pass.{PassView, OpenQueue, IsPass, pass_view, AllIdle, HaveAllThreads, OneSealedEmpty}
use Rattle.kfifo_live.specs.Calls.{MakesCall}

-- the opening of a payload queue with so many tokens a pass
abbrev pub pay_opening : Shape → ℕ → ℕ → Opening
pay_opening shape threads tokens =
    record { shape = shape; threads = threads; calls = 0; tokens = tokens; bare = false }

-- A pass: what is known of its schedule, the tokens that it has, that which it uses next first, and the gifts: for each
-- enqueue that began in the schedule, in turn, its token beside its payload
pub record PayPassView (T : Type 0) : Type 0 where
  pub pass : PassView
  pub tokens : List ℕ
  pub gifts : Gifts T

abbrev pub pay_pass_view : {T : Type 0} → TableId → ℕ → View T → PayPassView T
pay_pass_view table thread v = record {
  pass = pass_view table thread v;
  tokens = (hand_of v).at_home;
  gifts = gifts_of v;
}

-- what is always so of a payload pass: it has its tokens in a list, the next one last, which has room for all tokens of
-- the queue
pub record IsPayPass {T : Type 0} (thread : ℕ) (me : Me (Option T) (View T)) (items : List ℕ) (room : ℕ) : Type 0 where
  pub pass : IsPass thread me
  pub stacked : (hand_of me.0).at_home ≡ reverse items
  pub some_tokens : 0 < me.0.opened.tokens
  pub few_tokens : me.0.opened.threads * me.0.opened.tokens ≤ MOST_TOKENS
  pub has_room : me.0.opened.threads * me.0.opened.tokens ≤ room
  pub with_payloads : me.0.opened.bare ≡ false
  pub in_turn : GiftsFit me.0.opened (seen_of me.0) (gifts_of me.0)

-- of one that makes no call any more, in a queue with payloads
abbrev pub IsEnded : {T : Type 0} → ℕ → Me (Option T) (View T) → Type 0
IsEnded thread me = IsPass thread me × (0 < me.0.opened.tokens) × (me.0.opened.bare ≡ false)

-- a token that is with no pass: its queue, and its number
pub record TokenView : Type 0 where
  pub queue : OpenQueue
  pub number : ℕ

-- what is always so of it: it names a slot, and its seat has it alone
pub record IsAlone {T : Type 0} (number : ℕ) (me : Me (Option T) (View T)) : Type 0 where
  pub some : 0 < number
  pub within : number ≤ me.0.opened.threads * me.0.opened.tokens
  pub alone : me ≡ (resting_view me.0.opened number, [])

-- the passes of threads first, first + 1, .., which have seen the empty schedule: thread t has the tokens t * tokens +
-- 1 to (t + 1) * tokens
abbrev pub new_pay_passes : {T : Type 0} → OpenQueue → ℕ → ℕ → List (PayPassView T)
new_pay_passes q first zero = []
new_pay_passes q first (suc count) =
    record {
      pass = record { table = q.table; opened = q.opened; thread = first; seen = [] };
      tokens = count_up (first * q.opened.tokens + 1) q.opened.tokens;
      gifts = [];
    }
    ∷ new_pay_passes q (suc first) count

-- with the last event of this schedule a thread takes this word from this index
pub record TakesAtLast (o : Opening) (thread index word : ℕ) (seen : List Event) : Type 0 where
  pub before : List Event
  pub here : World
  pub start : ℕ
  pub left : ℕ
  pub ends : ℕ
  pub seen_is : seen ≡ before ++ event thread None ∷ []
  pub reached : world_after o before ≡ Some here
  pub place : place_of here thread ≡ Some (R.Dequeue start left (D.Take ends index word))
  pub stands : word_at here index ≡ word

module _ {T : Type 0} where
  -- An enqueue put this word of a token at this index, and it began with this payload beside the token: it begins with
  -- an event of the schedule, its thread begins nothing until the put, and its gift is that of its event
  pub record WasPutWith (o : Opening) (all : List Event) (gifts : Gifts T) (index word token : ℕ) (payload : Option T)
      : Type 0 where
    pub thread : ℕ
    pub start : ℕ
    pub turns : ℕ
    pub before : List Event
    pub between : List Event
    pub after : List Event
    pub all_are : all
        ≡ (before ++ event thread (Some (B.Enqueue token start turns)) ∷ between) ++ event thread None ∷ after
    pub one_call : AllGoOn (own thread between)
    pub puts : PutsNext o.shape o.threads (before ++ event thread (Some (B.Enqueue token start turns)) ∷ between)
        thread index word
    pub token_is : value_of word ≡ token
    pub earlier : Gifts T
    pub later : Gifts T
    pub gifts_are : gifts ≡ earlier ++ (token, payload) ∷ later
    pub before_it : InTurn before earlier

  -- what a pass took with the last event that it has seen: a word that was put with this payload, or with none
  pub record TookWhatWasPut (token : ℕ) (payload : Option T) (p : PayPassView T) : Type 0 where
    pub index : ℕ
    pub word : ℕ
    pub taken : TakesAtLast p.pass.opened p.pass.thread index word p.pass.seen
    pub put : WasPutWith p.pass.opened p.pass.seen p.gifts index word token payload

  -- the gifts of a longer schedule, of whose enqueues they are in turn, and which keeps the holder law
  pub record GivesOn (old new : PayPassView T) : Type 0 where
    pub in_turn : InTurn new.pass.seen new.gifts
    pub holder_law : HolderLaw new.pass.opened new.pass.seen
    pub later : Gifts T
    pub goes_on : new.gifts ≡ old.gifts ++ later

  -- An enqueue of a token with this payload beside it, or with none. Its first event follows others' events, and its
  -- gift follows those of the enqueues that began before that event
  pub record EnqueuesWith (token start turns : ℕ) (answer : Answer) (payload : Option T)
      (old new : PayPassView T) : Type 0 where
    pub call : MakesCall (B.Enqueue token start turns) answer old.pass new.pass
    pub in_turn : InTurn new.pass.seen new.gifts
    pub holder_law : HolderLaw new.pass.opened new.pass.seen
    pub before : List Event
    pub after : List Event
    pub seen : new.pass.seen
        ≡ (old.pass.seen ++ before) ++ event old.pass.thread (Some (B.Enqueue token start turns)) ∷ after
    pub others : own old.pass.thread before ≡ []
    pub earlier : Gifts T
    pub later : Gifts T
    pub gifts : new.gifts ≡ (old.gifts ++ earlier) ++ (token, payload) ∷ later
    pub before_it : InTurn (old.pass.seen ++ before) (old.gifts ++ earlier)

  -- a dequeue
  pub record DequeuesWith (start turns : ℕ) (answer : Answer) (old new : PayPassView T) : Type 0 where
    pub call : MakesCall (B.Dequeue start turns) answer old.pass new.pass
    pub gifts : GivesOn old new

  -- a refused enqueue: the payload comes back, and the pass keeps its token
  pub record Refuses (start turns : ℕ) (answer : Answer) (payload back : T) (old new : PayPassView T) : Type 0 where
    pub same : back ≡ payload
    pub token : ℕ
    pub others : List ℕ
    pub first : old.tokens ≡ token ∷ others
    pub kept : new.tokens ≡ old.tokens
    pub enqueue : EnqueuesWith token start turns answer (Some payload) old new

  -- What `give` did, by what it returns: Done gives up the first token. NoToken comes where the pass has none, and
  -- nothing is done
  abbrev pub Gives : ℕ → ℕ → T → Given T → PayPassView T → PayPassView T → Type 0
  Gives start turns payload G.Done old new = (token : ℕ) × (old.tokens ≡ token ∷ new.tokens)
      × EnqueuesWith token start turns A.Done (Some payload) old new
  Gives start turns payload (G.Full back) old new = Refuses start turns A.Full payload back old new
  Gives start turns payload (G.Busy back) old new = Refuses start turns A.Busy payload back old new
  Gives start turns payload (G.Worn back) old new = Refuses start turns A.Worn payload back old new
  Gives start turns payload (G.NoToken back) old new = (back ≡ payload) × (old.tokens ≡ []) × (new ≡ old)

  -- What `take` did: Got gives the pass the token that was taken, and the last payload that was given with it, which is
  -- that of the enqueue that put it
  abbrev pub TakesOut : ℕ → ℕ → Taken T → PayPassView T → PayPassView T → Type 0
  TakesOut start turns (K.Got payload) old new = (token : ℕ) × (new.tokens ≡ token ∷ old.tokens)
      × (beside token new.gifts ≡ Some payload) × TookWhatWasPut token (Some payload) new
      × DequeuesWith start turns (A.Got token) old new
  TakesOut start turns K.Empty old new = (new.tokens ≡ old.tokens) × DequeuesWith start turns A.Empty old new
  TakesOut start turns K.Busy old new = (new.tokens ≡ old.tokens) × DequeuesWith start turns A.Busy old new
  TakesOut start turns K.Worn old new = (new.tokens ≡ old.tokens) × DequeuesWith start turns A.Worn old new

  -- what the slot of a token holds
  abbrev pub in_slot : List (Option T) → ℕ → Option T
  in_slot slots token = get_or slots (token - 1) None

  -- these tokens name slots with a payload, none of them twice
  abbrev pub HavePayloads : List (Option T) → List ℕ → Type 0
  HavePayloads slots [] = Unit {0}
  HavePayloads slots (token ∷ tokens) =
      ((0 < token) × (token ≤ length slots) × ((payload : T) × (in_slot slots token ≡ Some payload))
      × (times token tokens ≡ 0)) × HavePayloads slots tokens

  -- this schedule begins with what the pass has seen and has no further event of it, and so do the gifts
  abbrev pub EndsIn : List Event → Gifts T → PayPassView T → Type 0
  EndsIn all gifts p = Begins p.pass.thread p.pass.seen all × ((later : Gifts T) × (gifts ≡ p.gifts ++ later))

  -- these passes, without their tokens and payloads
  abbrev pub passes_of : List (PayPassView T) → List PassView
  passes_of ps = map (λ p. p.pass) ps

  -- the view w has the parts of v and what these passes saw: whatever schedule and gifts all parts of w agree with, the
  -- parts of v and each of these passes agree with them too
  pub record PayJoins (v : View T) (ps : List (PayPassView T)) (w : View T) : Type 0 where
    pub opened : w.opened ≡ v.opened
    pub all_end : (all : List Event) (gifts : Gifts T) → AllBegin w.parts all → AllGiven w.parts gifts
        → (AllBegin v.parts all × AllGiven v.parts gifts) × AllByRecursion (EndsIn all gifts) ps
    pub all_idle : AllIdle v.opened (passes_of ps)

  -- What is left at the end: there is one schedule, which begins with what each of these passes has seen and has no
  -- further event of them, and the payloads are the last ones given with the tokens in the filled slots after it, which
  -- are those of the enqueues that put them. Where the first pass is the only one, it is what that has seen. No token
  -- is lost and none comes twice, and that schedule keeps the promise. None is left where all passes are there and one
  -- of them saw the queue sealed empty
  pub record PayCloses (q : OpenQueue) (p : PayPassView T) (others : List (PayPassView T)) (payloads : List T)
      : Type 0 where
    pub all : List Event
    pub gifts : Gifts T
    pub world : World
    pub tokens : List ℕ
    pub reached : world_after q.opened all ≡ Some world
    pub ends : AllByRecursion (EndsIn all gifts) (p ∷ others)
    pub alone : q.opened.threads ≡ 1 → all ≡ p.pass.seen
    pub in_turn : InTurn all gifts
    pub holder_law : HolderLaw q.opened all
    pub tokens_are : tokens ≡ items_left q.opened.shape world.words
    pub payloads_are : map Some payloads ≡ map (λ token. beside token gifts) tokens
    pub were_put : (index : ℕ) → 0 < index → index < clock_at q.opened.shape.k q.opened.shape.n
        → value_of (word_at world index) ≢ 0
        → WasPutWith q.opened all gifts index (word_at world index) (value_of (word_at world index))
        (beside (value_of (word_at world index)) gifts)
    pub balance : (token : ℕ) → puts token q.opened all
        ≡ undos token q.opened all + (takes token q.opened all + times token tokens)
    pub promise : KeepsPromise q.opened all
    pub sealed : HaveAllThreads q.opened.threads (passes_of (p ∷ others))
        → OneSealedEmpty q.opened (passes_of (p ∷ others)) → payloads ≡ []
