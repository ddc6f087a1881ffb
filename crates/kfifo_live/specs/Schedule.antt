-- The one schedule of a running queue, and what each seat of its table has seen of it.
use Rattle.std.specs.Prelude.{◌≡◌, ℕ, zero, suc, ◌+◌, ◌-◌, ◌*◌, ◌<◌, ◌≤◌, Bool, true, false, List, [], ◌∷◌, Option}
use Rattle.std.specs.Prelude.{Some, None, take, drop, length, filter, ◌++◌}
use Rattle.std.proofs.Common.{lit<, lit≤}
use Rattle.kfifo_model.specs.declared.calls.TheConstants.{MAX_THREADS}
use Rattle.kfifo_live.specs.declared.stamped.TheConstants.{MAX_STAMPED_CALLS}
use mathlib.Core.Option.{some}
use lib.ListN.{get_elem?}
use Rattle.kfifo_words.specs.declared.shape.Shape.{Shape}
use Rattle.kfifo_words.specs.Ring.{clock_at}
use Rattle.kfifo_machine.specs.declared.event.Begin.{Begin}
use Rattle.kfifo_machine.specs.declared.event.Begin.TheVariants.{Tick}
use Rattle.kfifo_machine.specs.declared.event.Event.{Event}
use Rattle.kfifo_machine.specs.declared.place.Running.{Running}
use Rattle.kfifo_machine.specs.Machine.{World, after, word_at, place_of, opening as first_world}
use Rattle.kfifo_machine.specs.Runs.{Begins, own}
use Rattle.kfifo_machine.specs.Tokens.{AllBeginFree}
use Rattle.kfifo_live.specs.declared.view.Opening.{Opening}
use Rattle.kfifo_live.specs.declared.view.Hand.{Hand}
use Rattle.kfifo_live.specs.declared.view.Part.{Part}
use Rattle.kfifo_live.specs.declared.view.View.{View}
use Rattle.kfifo_live.specs.Hands.{Gifts, Homes, InTurn, Where, HandFits, SlotsFit}

-- the opening of a stamped queue, and of a plain one, in which no call is stamped
abbrev pub stamped_opening : Shape → ℕ → ℕ → Opening
stamped_opening shape threads calls =
    record { shape = shape; threads = threads; calls = calls; tokens = 0; bare = false }

abbrev pub opening : Shape → ℕ → Opening
opening shape threads = stamped_opening shape threads 0

module _ {T : Type 0} where
  abbrev pub part : ℕ → List Event → Gifts T → Hand T → Part T
  part thread seen gifts hand = record { thread = thread; seen = seen; gifts = gifts; hand = hand }

  abbrev pub view_of : Opening → List (Part T) → View T
  view_of o parts = record { opened = o; parts = parts }

-- the world after a schedule of an opening
abbrev pub world_after : Opening → List Event → Option World
world_after o events = after o.shape o.threads events

-- The holder law: each enqueue of the schedule begins with an item that is in no slot and that no other enqueue in
-- progress holds
abbrev pub HolderLaw : Opening → List Event → Type 0
HolderLaw o all = AllBeginFree o.shape (Some (first_world o.shape o.threads)) all

-- The gifts are of the enqueues of this schedule, in turn, which keeps the holder law where there are tokens
pub record GiftsFit {T : Type 0} (o : Opening) (all : List Event) (gifts : Gifts T) : Type 0 where
  pub in_turn : InTurn all gifts
  pub holder_law : 0 < o.tokens → HolderLaw o all

-- few enough threads and stamped calls
abbrev pub IsSmall : Opening → Type 0
IsSmall o = (o.threads ≤ MAX_THREADS) × (o.calls ≤ MAX_STAMPED_CALLS)

-- how many of these events are ticks of the clock
abbrev pub begins_tick : Option Begin → Bool
begins_tick (Some Tick) = true
begins_tick begin = false

abbrev pub ticks : List Event → ℕ
ticks events = length (filter (λ e. begins_tick e.begin) events)

-- no thread has ticked more often than twice for each stamped call that its pass may make
abbrev pub FewTicks : Opening → List Event → Type 0
FewTicks o all = (thread : ℕ) → ticks (own thread all) ≤ 2 * o.calls

-- first, first + 1, ..
abbrev pub count_up : ℕ → ℕ → List ℕ
count_up first zero = []
count_up first (suc count) = first ∷ count_up (suc first) count

module _ {T : Type 0} where
  -- what a thread holds at the opening, with so many tokens a thread
  abbrev pub first_hand : ℕ → ℕ → Hand T
  first_hand tokens thread = record { at_home = count_up (thread * tokens + 1) tokens; out = 0; payload = None }

  -- threads first, first + 1, .. that have seen nothing
  abbrev pub fresh : ℕ → ℕ → ℕ → List (Part T)
  fresh tokens first zero = []
  fresh tokens first (suc count) = part first [] [] (first_hand tokens first) ∷ fresh tokens (suc first) count

  -- the seat of an opening may act for every thread
  abbrev pub first_view : Opening → View T
  first_view o = view_of o (fresh o.tokens 0 o.threads)

  -- what each part has seen is a beginning of the schedule, which has no own event of it after that beginning
  abbrev pub AllBegin : List (Part T) → List Event → Type 0
  AllBegin [] all = Unit {0}
  AllBegin (p ∷ ps) all = Begins p.thread p.seen all × AllBegin ps all

  -- and its gifts are the first of all
  abbrev pub AllGiven : List (Part T) → Gifts T → Type 0
  AllGiven [] gifts = Unit {0}
  AllGiven (p ∷ ps) gifts = ((more : Gifts T) × (gifts ≡ p.gifts ++ more)) × AllGiven ps gifts

  -- each thread has its tokens
  abbrev pub AllHands : Bool → (ℕ → ℕ) → (ℕ → Option Running) → (ℕ → Where) → Gifts T → Homes T → List (Part T)
      → Type 0
  AllHands bare words place at gifts homes [] = Unit {0}
  AllHands bare words place at gifts homes (p ∷ ps) =
      HandFits bare words (place p.thread) at gifts homes p.thread p.hand × AllHands bare words place at gifts homes ps

  -- each thread is acted for by one seat, at one place of its parts
  abbrev pub Owns : (ℕ → ℕ × ℕ) → ℕ → ℕ → List (Part T) → Type 0
  Owns owner seat at [] = Unit {0}
  Owns owner seat at (p ∷ ps) = (owner p.thread ≡ (seat, at)) × Owns owner seat (suc at) ps

  -- A resting token is a part of no thread: its number is that of its token, behind those of the threads
  abbrev pub IsResting : ℕ → ℕ → Hand T → Type 0
  IsResting threads number hand = threads ≤ number → (others : List ℕ) × (hand.at_home ≡ (number - threads) ∷ others)

  abbrev pub AreResting : ℕ → List (Part T) → Type 0
  AreResting threads [] = Unit {0}
  AreResting threads (p ∷ ps) = IsResting threads p.thread p.hand × AreResting threads ps

  pub record Fits (o : Opening) (all : List Event) (gifts : Gifts T) (owner : ℕ → ℕ × ℕ) (seat : ℕ)
      (v : View T) : Type 0 where
    pub opened : v.opened ≡ o
    pub begin : AllBegin v.parts all
    pub given : AllGiven v.parts gifts
    pub owns : Owns owner seat 0 v.parts
    pub resting : AreResting o.threads v.parts

  -- One schedule: the words of the table are those after it, what each seat has seen of its threads is a beginning of
  -- it with all their events, and the clock has ticked so seldom that it is not spent. The gifts are of its enqueues,
  -- in turn. Where there are tokens, each is in one place, and each thread has a hand that fits, be its seat there or
  -- not
  pub record OneSchedule (o : Opening) (words : List ℕ) (homes : Homes T) (views : List (View T)) : Type 0 where
    pub all : List Event
    pub gifts : Gifts T
    pub world : World
    pub owner : ℕ → ℕ × ℕ
    pub runs : world_after o all ≡ Some world
    pub words_are : words ≡ world.words
    pub in_turn : GiftsFit o all gifts
    pub few_ticks : FewTicks o all
    pub fit : (seat : ℕ) (v : View T) → get_elem? views seat ≡ some v → Fits o all gifts owner seat v
    pub at : ℕ → Where
    pub slots : 0 < o.tokens → SlotsFit o.bare (clock_at o.shape.k o.shape.n) (word_at world) at gifts homes
    pub hands : 0 < o.tokens → (seat : ℕ) (v : View T) → get_elem? views seat ≡ some v
        → AllHands o.bare (word_at world) (place_of world) at gifts homes v.parts
    pub holders : 0 < o.tokens → (thread : ℕ)
        → (hand : Hand T) × HandFits o.bare (word_at world) (place_of world thread) at gifts homes thread hand

  -- the first part's thread, what was seen by it, and the other parts
  abbrev pub thread_in : List (Part T) → ℕ
  thread_in [] = 0
  thread_in (p ∷ ps) = p.thread

  abbrev pub seen_in : List (Part T) → List Event
  seen_in [] = []
  seen_in (p ∷ ps) = p.seen

  abbrev pub gifts_in : List (Part T) → Gifts T
  gifts_in [] = []
  gifts_in (p ∷ ps) = p.gifts

  abbrev pub no_hand : Hand T
  no_hand = record { at_home = []; out = 0; payload = None }

  abbrev pub hand_in : List (Part T) → Hand T
  hand_in [] = no_hand
  hand_in (p ∷ ps) = p.hand

  abbrev pub more_in : List (Part T) → List (Part T)
  more_in [] = []
  more_in (p ∷ ps) = ps

  abbrev pub thread_of : View T → ℕ
  thread_of v = thread_in v.parts

  abbrev pub seen_of : View T → List Event
  seen_of v = seen_in v.parts

  abbrev pub gifts_of : View T → Gifts T
  gifts_of v = gifts_in v.parts

  abbrev pub hand_of : View T → Hand T
  hand_of v = hand_in v.parts

  -- the view whose first part has seen this, and has this hand
  abbrev pub with_seen : View T → List Event → Gifts T → Hand T → View T
  with_seen v seen gifts hand = view_of v.opened (part (thread_in v.parts) seen gifts hand ∷ more_in v.parts)

  -- it has a first part
  abbrev pub IsSeated : View T → Type 0
  IsSeated v = v ≡ with_seen v (seen_of v) (gifts_of v) (hand_of v)

  -- a view with no parts, and two views put together
  abbrev pub no_part : View T → View T
  no_part v = view_of v.opened []

  abbrev pub both_parts : View T → View T → View T
  both_parts v w = view_of v.opened (v.parts ++ w.parts)

  -- a view cut in two: the first part, and the others
  abbrev pub first_part : View T → View T
  first_part v = view_of v.opened (take 1 v.parts)

  abbrev pub other_parts : View T → View T
  other_parts v = view_of v.opened (drop 1 v.parts)

-- the token that a thread uses next, or 0
abbrev pub next_of : List ℕ → ℕ
next_of [] = 0
next_of (x ∷ xs) = x

module _ {T : Type 0} where
  -- a resting token: what its seat has, which has seen nothing
  abbrev pub resting_hand : ℕ → Hand T
  resting_hand token = record { at_home = token ∷ []; out = 0; payload = None }

  abbrev pub resting_view : Opening → ℕ → View T
  resting_view o token = view_of o (part (o.threads + token) [] [] (resting_hand token) ∷ [])

  abbrev pub next_token : View T → ℕ
  next_token v = next_of (hand_of v).at_home

  -- the first thread's tokens at home are these
  abbrev pub with_home : View T → List ℕ → View T
  with_home v tokens = with_seen v (seen_of v) (gifts_of v)
      (record { at_home = tokens; out = (hand_of v).out; payload = (hand_of v).payload })

  -- a view cut in two: the first thread less the token that it uses next, and that token at rest
  abbrev pub less_next : View T → View T
  less_next v = with_home v (drop 1 (hand_of v).at_home)

  abbrev pub resting_of : View T → View T
  resting_of v = resting_view v.opened (next_token v)

  -- the first thread of a view takes a resting token, which it uses next
  abbrev pub with_resting : View T → View T → View T
  with_resting v w = with_home v ((hand_of w).at_home ++ (hand_of v).at_home)

-- any opening, for a seat that is spent
abbrev pub small_opening : Opening
small_opening =
    opening
    record {
      k = 1;
      n = 2;
      last = 2;
      probes = 1;
      holds_again = false;
      some_slot = lit≤ tt;
      few_slots = lit≤ tt;
      some_segments = lit≤ tt;
      few_segments = lit≤ tt;
      some_versions = lit≤ tt;
      few_versions = lit< tt;
      some_probe = lit≤ tt;
      few_probes = lit≤ tt;
    }
    1
