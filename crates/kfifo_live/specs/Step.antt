-- What one atomic step adds to what a seat has seen, and where the steps of a call lead its thread.
use Rattle.std.specs.Prelude.{◌≡◌, ℕ, ◌+◌, ◌-◌, ◌*◌, ◌<◌, ◌≤◌, List, [], ◌∷◌, ◌++◌, length, get_or, Option, Some, None}
use Rattle.std.specs.Prelude.{Ok, ◌==◌, if◌then◌else◌}
use Rattle.std.specs.List.{AllByRecursion}
use Rattle.atomic_table.specs.declared.shared.Seat.{Seat}
use Rattle.atomic_table.specs.Table.{Me}
use Rattle.kfifo_words.specs.declared.shape.Shape.{Shape}
use Rattle.kfifo_words.specs.Ring.{clock_at}
use Rattle.kfifo_machine.specs.declared.event.Begin.{Begin}
use Rattle.kfifo_machine.specs.declared.event.Begin.TheVariants.{Tick, Seal}
use Rattle.kfifo_machine.specs.declared.event.Begin.TheVariants as B
use Rattle.kfifo_machine.specs.declared.event.Event.{Event}
use Rattle.kfifo_machine.specs.declared.event.Outcome.TheVariants.{Went}
use Rattle.kfifo_machine.specs.declared.place.Access.{Access}
use Rattle.kfifo_machine.specs.declared.place.Access.TheVariants.{Load}
use Rattle.kfifo_machine.specs.declared.place.Running.{Running}
use Rattle.kfifo_machine.specs.declared.place.Next.{Next}
use Rattle.kfifo_machine.specs.Program.{access, advance}
use Rattle.kfifo_machine.specs.Machine.{World, found, ticked, word_at, place_of, place_after, outcome_of, run, step}
use Rattle.kfifo_machine.specs.Runs.{event, own, going, AllGoOn, BeginsOnce}
use Rattle.kfifo_machine.specs.Places.{IsPlace, IsFoundBy}
use Rattle.kfifo_live.specs.declared.ring.Ring.{Ring}
use Rattle.kfifo_live.specs.declared.view.View.{View}
use Rattle.kfifo_live.specs.Schedule.{world_after, AllBegin, AllGiven, GiftsFit, thread_of, seen_of, gifts_of, hand_of}
use Rattle.kfifo_live.specs.Schedule.{with_seen, IsSeated}
use Rattle.kfifo_live.specs.declared.view.Hand.{Hand}
use Rattle.kfifo_live.specs.Hands.{Gifts, InTurn, Takes, beside, gift, move, hand_after, begun_hand, carried, carrying}
use Rattle.kfifo_live.specs.Hands.{own_item, out_at, Carries, BeginsWith, IsGift, Leaves}

-- the own events of a call in progress begin nothing; the events of a call from its first step on begin it once
abbrev pub IsOwnRun : ℕ → Option Begin → List Event → Type 0
IsOwnRun thread None events = AllGoOn events
IsOwnRun thread (Some call) events = BeginsOnce thread call events

module _ {T : Type 0} where
  -- the thread has seen a schedule after which it is at this place in a call, or in none
  pub record IsAt (place : Option Running) (v : Me (Option T) (View T)) : Type 0 where
    pub here : World
    pub seated : IsSeated v.0
    pub reached : world_after v.0.opened (seen_of v.0) ≡ Some here
    pub within : thread_of v.0 < length here.places
    pub place_is : place_of here (thread_of v.0) ≡ place
    pub carries : Carries place v.0.opened.tokens (hand_of v.0) v.1

  -- One atomic step of the first part's thread, which begins this call or goes on with its own: events of others, after
  -- which it finds this word, and then its own event
  pub record Steps (begin : Option Begin) (v : Me (Option T) (View T)) (word : ℕ)
      (w : Me (Option T) (View T)) : Type 0 where
    pub between : List Event
    pub given : Gifts T
    pub here : World
    pub from : Running
    pub others : own (thread_of v.0) between ≡ []
    pub reached : world_after v.0.opened (seen_of v.0 ++ between) ≡ Some here
    pub within : thread_of v.0 < length here.places
    pub goes : going v.0.opened.shape (place_of here (thread_of v.0)) begin ≡ Some from
    pub word_is : word ≡ found v.0.opened.shape here from
    pub out : 0 < v.0.opened.tokens → (begun_hand begin v.1 (hand_of v.0)).out ≡ out_at from
    pub taken : 0 < v.0.opened.tokens → (x : ℕ) → move from word ≡ Takes x → (0 < x)
        × IsGift v.0.opened.bare (beside x ((gifts_of v.0 ++ given) ++ gift begin v.1))
    pub in_turn : GiftsFit v.0.opened ((seen_of v.0 ++ between) ++ event (thread_of v.0) begin ∷ [])
        ((gifts_of v.0 ++ given) ++ gift begin v.1)
    pub hand : Hand T
    pub hand_is : hand ≡ hand_after (move from word) ((gifts_of v.0 ++ given) ++ gift begin v.1)
        (begun_hand begin v.1 (hand_of v.0))
    pub afterwards : w.0 ≡ with_seen v.0 ((seen_of v.0 ++ between) ++ event (thread_of v.0) begin ∷ [])
        ((gifts_of v.0 ++ given) ++ gift begin v.1) hand
    pub carries : w.1 ≡ carrying v.0.opened.tokens hand.out hand.payload

  -- A tick of the first part's thread, which is in no call: events of others, after which it finds this stamp on the
  -- clock, and then its own tick
  pub record DrawsStamp (v : View T) (stamp : ℕ) (w : View T) : Type 0 where
    pub between : List Event
    pub given : Gifts T
    pub here : World
    pub others : own (thread_of v) between ≡ []
    pub reached : world_after v.opened (seen_of v ++ between) ≡ Some here
    pub stamp_is : stamp ≡ word_at here (clock_at v.opened.shape.k v.opened.shape.n)
    pub made : step v.opened.shape here (event (thread_of v) (Some Tick)) ≡ Ok (ticked v.opened.shape here, Went)
    pub afterwards : w ≡ with_seen v ((seen_of v ++ between) ++ event (thread_of v) (Some Tick) ∷ [])
        (gifts_of v ++ given) (hand_of v)

  -- A seal that the first part's thread tries, which is in no call: events of others, after which it finds this ends
  -- word; and where it is the one that it seeks, its own seal
  pub record TriesSeal (sought : ℕ) (v : View T) (word : ℕ) (w : View T) : Type 0 where
    pub between : List Event
    pub given : Gifts T
    pub here : World
    pub end : World
    pub seal : List Event
    pub others : own (thread_of v) between ≡ []
    pub reached : world_after v.opened (seen_of v ++ between) ≡ Some here
    pub word_is : word ≡ word_at here 0
    pub seal_is : seal ≡ (if word == sought then event (thread_of v) (Some Seal) ∷ [] else [])
    pub made : run v.opened.shape (Some here) seal ≡ Some end
    pub in_turn : GiftsFit v.opened ((seen_of v ++ between) ++ seal) (gifts_of v ++ given)
    pub afterwards : w ≡ with_seen v ((seen_of v ++ between) ++ seal) (gifts_of v ++ given) (hand_of v)

  -- a look at a word, which is no event: the schedule so far was seen
  pub record Looks (index word : ℕ) (v w : View T) : Type 0 where
    pub all : List Event
    pub gifts : Gifts T
    pub world : World
    pub reached : world_after v.opened all ≡ Some world
    pub word_is : word ≡ get_or world.words index 0
    pub begin : AllBegin v.parts all
    pub given : AllGiven v.parts gifts
    pub in_turn : GiftsFit v.opened all gifts
    pub afterwards : w ≡ with_seen v all gifts (hand_of v)

  -- Between two calls a thread takes the first of its tokens out: its seat then holds that slot, with this in it
  pub record DrawsToken (slots : ℕ) (held : Option T) (v w : Me (Option T) (View T)) : Type 0 where
    pub token : ℕ
    pub others : List ℕ
    pub was : (hand_of v.0).at_home ≡ token ∷ others
    pub some : 0 < token
    pub within : token ≤ slots
    pub afterwards : w.0 ≡ with_seen v.0 (seen_of v.0) (gifts_of v.0)
        (record { at_home = others; out = token; payload = None })
    pub holds : w.1 ≡ (token - 1, held) ∷ []

  -- It lays the token that is out back to its others. It has then no more of them than there are slots
  pub record LaysBack (slots : ℕ) (v w : Me (Option T) (View T)) : Type 0 where
    pub room : length ((hand_of v.0).out ∷ (hand_of v.0).at_home) ≤ slots
    pub afterwards : w.0 ≡ with_seen v.0 (seen_of v.0) (gifts_of v.0)
        (record { at_home = (hand_of v.0).out ∷ (hand_of v.0).at_home; out = 0; payload = None })
    pub holds : w.1 ≡ []

  -- it counts its tokens: they are no more than there are slots, and each names one
  pub record CountsTokens (slots : ℕ) (v w : Me (Option T) (View T)) : Type 0 where
    pub few : length (hand_of v.0).at_home ≤ slots
    pub named : AllByRecursion (λ x. (0 < x) × (x ≤ slots)) (hand_of v.0).at_home
    pub same : w ≡ v

  -- the item and the payload of a call's own, at its first step or in progress
  abbrev pub HasOwn : Option Begin → Me (Option T) (View T) → ℕ → Option T → Type 0
  HasOwn (Some (B.Enqueue item start turns)) v own payload = (own ≡ item) × (payload ≡ carried v.1)
  HasOwn (Some begin) v own payload = own ≡ 0
  HasOwn None v own payload = (place : Running) × IsAt (Some place) v × (own ≡ own_item place)
      × (payload ≡ (hand_of v.0).payload)

  -- The first own one of these events, which begins this call or goes on with its own: the gifts up to it are of the
  -- enqueues up to it
  pub record HasFirst (begin : Option Begin) (v : Me (Option T) (View T)) (events : List Event) (given : Gifts T)
      : Type 0 where
    pub before : List Event
    pub after : List Event
    pub earlier : Gifts T
    pub later : Gifts T
    pub events_are : events ≡ before ++ event (thread_of v.0) begin ∷ after
    pub given_are : given ≡ earlier ++ (gift begin v.1 ++ later)
    pub others : own (thread_of v.0) before ≡ []
    pub in_turn : InTurn ((seen_of v.0 ++ before) ++ event (thread_of v.0) begin ∷ [])
        ((gifts_of v.0 ++ earlier) ++ gift begin v.1)

  -- Steps of one call, from its first where it begins here: events of others and own ones, the last of them own, after
  -- which the call goes on from the next place or has returned
  pub record Leads (begin : Option Begin) (v : Me (Option T) (View T)) (next : Next)
      (w : Me (Option T) (View T)) : Type 0 where
    pub between : List Event
    pub last : Event
    pub given : Gifts T
    pub before : World
    pub here : World
    pub hand : Hand T
    pub now : w.0 ≡ with_seen v.0 ((seen_of v.0 ++ between) ++ last ∷ []) (gifts_of v.0 ++ given) hand
    pub carries : w.1 ≡ carrying v.0.opened.tokens hand.out hand.payload
    pub in_turn : GiftsFit v.0.opened ((seen_of v.0 ++ between) ++ last ∷ []) (gifts_of v.0 ++ given)
    pub first : HasFirst begin v (between ++ last ∷ []) given
    pub at_home : hand.at_home ≡ (hand_of v.0).at_home
    pub leaves : 0 < v.0.opened.tokens → (own : ℕ) (payload : Option T) → HasOwn begin v own payload
        → Leaves v.0.opened.bare own payload (gifts_of v.0 ++ given) hand next
    pub last_own : last.thread ≡ thread_of v.0
    pub own_run : IsOwnRun (thread_of v.0) begin (own (thread_of v.0) (between ++ last ∷ []))
    pub reached : world_after v.0.opened (seen_of v.0 ++ between) ≡ Some before
    pub made : step v.0.opened.shape before last ≡ Ok (here, outcome_of next)
    pub within : thread_of v.0 < length here.places
    pub place : place_of here (thread_of v.0) ≡ place_after next

-- a call may begin, and its first step is a load of the ends word
pub record BeginsAtEnds (shape : Shape) (begin : Begin) : Type 0 where
  pub place : Running
  pub goes : going shape None (Some begin) ≡ Some place
  pub next_is : access shape place ≡ Load 0

module _ {T : Type 0} where
  -- a seat of this ring
  pub record IsSeatOf (ring : Ring T) (seat : Seat (Option T) (View T)) : Type 0 where
    pub table : seat.table_id ≡ ring.words.now.table_id
    pub size : ring.words.now.table_id.words ≡ 2 + ring.shape.now.n * ring.shape.now.k
    pub sizes : seat.me.0.opened.shape ≡ ring.shape.now

  -- its thread is in no call, and may begin this one
  pub record Rests (ring : Ring T) (begin : Option Begin) (seat : Seat (Option T) (View T)) : Type 0 where
    pub of : IsSeatOf ring seat
    pub idle : IsAt None seat.me
    pub begins : 0 < seat.me.0.opened.tokens
        → BeginsWith seat.me.0.opened.bare begin (hand_of seat.me.0) seat.me.1

  -- its thread is at this place in its call
  pub record Stands (ring : Ring T) (seat : Seat (Option T) (View T)) (place : Running) : Type 0 where
    pub of : IsSeatOf ring seat
    pub at : IsAt (Some place) seat.me
    pub is_place : IsPlace ring.shape.now place

  -- its thread makes this step next
  pub record Awaits (ring : Ring T) (seat : Seat (Option T) (View T)) (next : Access) : Type 0 where
    pub place : Running
    pub stands : Stands ring seat place
    pub next_is : access ring.shape.now place ≡ next

  -- steps of a call, from its first where it begins here, led from one moment of the seat to another
  pub record Runs (begin : Option Begin) (old : Seat (Option T) (View T)) (next : Next)
      (new : Seat (Option T) (View T)) : Type 0 where
    pub same_table : new.table_id ≡ old.table_id
    pub leads : Leads begin old.me next new.me

  -- the same of a call in progress
  abbrev pub Comes : Seat (Option T) (View T) → Next → Seat (Option T) (View T) → Type 0
  Comes old next new = Runs None old next new

  -- one step from where the thread stood, which found this word
  pub record Stepped (ring : Ring T) (old : Seat (Option T) (View T)) (word : ℕ)
      (new : Seat (Option T) (View T)) : Type 0 where
    pub comes : (place : Running) → Stands ring old place → Comes old (advance ring.shape.now place word) new
    pub sound : (place : Running) → Stands ring old place → IsFoundBy ring.shape.now place word

  -- the thread has come to this place, if not at once: whatever it comes to from here it comes to from there
  pub record Onward (ring : Ring T) (old : Seat (Option T) (View T)) (place : Running)
      (new : Seat (Option T) (View T)) : Type 0 where
    pub stands : Stands ring new place
    pub so_far : (next : Next) (later : Seat (Option T) (View T)) → Comes new next later → Comes old next later
