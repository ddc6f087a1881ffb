-- Tokens of a payload queue: where each of them is, what its slot holds, and what a step of a thread does to it. A
-- token is an item, and x names the slot x - 1.
use Rattle.std.specs.Prelude.{◌≡◌, ◌≢◌, ℕ, zero, suc, ◌-◌, ◌<◌, ◌≤◌, ◌==◌, if◌then◌else◌, List, [], ◌∷◌, ◌++◌, length}
use Rattle.std.specs.Prelude.{map, Option, Some, None, Bool, true, false}
use mathlib.Core.Option.{Option as Maybe, some}
use lib.ListN.{get_elem?}
use Rattle.atomic_table.specs.Table.{Act, keeps, takes, gives}
use Rattle.kfifo_words.specs.Words.{value_of, version_of}
use Rattle.kfifo_model.specs.declared.calls.Answer.TheVariants.{Done, Full, Got, Empty}
use Rattle.kfifo_machine.specs.declared.event.Begin.{Begin}
use Rattle.kfifo_machine.specs.declared.event.Begin.TheVariants as B
use Rattle.kfifo_machine.specs.declared.event.Event.{Event}
use Rattle.kfifo_machine.specs.declared.place.EnqueuePhase.{EnqueuePhase}
use Rattle.kfifo_machine.specs.declared.place.EnqueuePhase.TheVariants as E
use Rattle.kfifo_machine.specs.declared.place.DequeuePhase.TheVariants as D
use Rattle.kfifo_machine.specs.declared.place.Running.{Running}
use Rattle.kfifo_machine.specs.declared.place.Running.TheVariants as R
use Rattle.kfifo_machine.specs.declared.place.Next.{Next}
use Rattle.kfifo_machine.specs.declared.place.Next.TheVariants.{Goes, Answers}
use Rattle.kfifo_live.specs.declared.view.Hand.{Hand}

-- for each enqueue that begins in a schedule, in turn, its item beside what it carries
abbrev pub Gifts : Type 0 → Type 0
Gifts T = List (ℕ × Option T)

-- what an enqueue carries: a payload, and in a queue of bare tokens nothing
abbrev pub IsGift : {T : Type 0} → Bool → Option T → Type 0
IsGift {T} false gift = (payload : T) × (gift ≡ Some payload)
IsGift true gift = gift ≡ None

-- the items of the enqueues that begin in a schedule, in turn
abbrev pub item_begun : Option Begin → List ℕ
item_begun (Some (B.Enqueue item start turns)) = item ∷ []
item_begun begin = []

abbrev pub items_begun : List Event → List ℕ
items_begun [] = []
items_begun (e ∷ es) = item_begun e.begin ++ items_begun es

-- the gifts are of the enqueues that begin in this schedule, in turn
abbrev pub InTurn : {T : Type 0} → List Event → Gifts T → Type 0
InTurn all gifts = map (λ g. g.0) gifts ≡ items_begun all

-- the slots of a table: what each of them holds, where it is at home
abbrev pub Homes : Type 0 → Type 0
Homes T = List (Maybe (Option T))

-- where a token is: with the pass of a thread, which has so many others behind it, its slot at home; out with the seat
-- of a thread; or in the word with this index
pub data Where : Type 0 where
  Home : ℕ → ℕ → Where
  Out : ℕ → Where
  In : ℕ → Where

-- the token that is out with the thread at this place in its call, or 0: an enqueue's own, until its put is won and
-- again from a won undo
abbrev pub out_in : ℕ → EnqueuePhase → ℕ
out_in item (E.ReloadSlot ends index filled) = 0
out_in item (E.ReloadEnds ends index filled) = 0
out_in item (E.HoldHead ends index filled held) = 0
out_in item (E.Undo index filled worn) = 0
out_in item phase = item

abbrev pub out_at : Running → ℕ
out_at (R.Enqueue item start left phase) = out_in item phase
out_at (R.Dequeue start left phase) = 0

-- an enqueue's item, and 0 of a dequeue
abbrev pub own_item : Running → ℕ
own_item (R.Enqueue item start left phase) = item
own_item (R.Dequeue start left phase) = 0

-- the token that is out where a step leads, in a call with this item of its own
abbrev pub out_next : ℕ → Next → ℕ
out_next own (Goes running) = out_at running
out_next own (Answers Done) = 0
out_next own (Answers (Got item)) = item
out_next own (Answers answer) = own

-- what a step does to tokens: none is moved; the thread's own goes into the slot's word with this index; its own comes
-- back; or one is taken
pub data Move : Type 0 where
  Stays : Move
  Lays : ℕ → Move
  Lifts : ℕ → Move
  Takes : ℕ → Move

-- the move of a step from this place that finds this word: only a won put, undo or take has one
abbrev pub move : Running → ℕ → Move
move (R.Enqueue item start left (E.Put ends index empty)) word = if word == empty then Lays index else Stays
move (R.Enqueue item start left (E.Undo index filled worn)) word = if word == filled then Lifts item else Stays
move (R.Dequeue start left (D.Take ends index filled)) word = if word == filled then Takes (value_of filled) else Stays
move other word = Stays

-- where the token x is after a move of a thread with this item of its own
abbrev pub where_after : ℕ → ℕ → Move → (ℕ → Where) → ℕ → Where
where_after thread own Stays at x = at x
where_after thread own (Lays index) at x = if x == own then In index else at x
where_after thread own (Lifts item) at x = if x == item then Out thread else at x
where_after thread own (Takes item) at x = if x == item then Out thread else at x

-- which answers a call can have: an enqueue, which has an item of its own, and a dequeue have different ones
abbrev pub FitsOwn : ℕ → Next → Type 0
FitsOwn own (Answers Done) = 0 < own
FitsOwn own (Answers Full) = 0 < own
FitsOwn own (Answers (Got item)) = own ≡ 0
FitsOwn own (Answers Empty) = own ≡ 0
FitsOwn own next = Unit {0}

module _ {T : Type 0} where
  -- the last gift of an item
  abbrev pub last_gift : ℕ → Option T → Gifts T → Option T
  last_gift item found [] = found
  last_gift item found (g ∷ gs) = last_gift item (if g.0 == item then g.1 else found) gs

  abbrev pub beside : ℕ → Gifts T → Option T
  beside item gifts = last_gift item None gifts

  -- what a thread carries: the value of the slot that it has taken last
  abbrev pub carried : List (ℕ × Option T) → Option T
  carried [] = None
  carried (x ∷ xs) = x.1

  -- what the first step of an enqueue adds
  abbrev pub gift : Option Begin → List (ℕ × Option T) → Gifts T
  gift (Some (B.Enqueue item start turns)) held = (item, carried held) ∷ []
  gift begin held = []

  -- the hand at the first step of a call: an enqueue's has what it carries
  abbrev pub begun_hand : Option Begin → List (ℕ × Option T) → Hand T → Hand T
  begun_hand (Some (B.Enqueue item start turns)) held hand =
      record { at_home = hand.at_home; out = hand.out; payload = carried held }
  begun_hand begin held hand = hand

  -- the hand after a move
  abbrev pub hand_after : Move → Gifts T → Hand T → Hand T
  hand_after Stays gifts hand = hand
  hand_after (Lays index) gifts hand = record { at_home = hand.at_home; out = 0; payload = hand.payload }
  hand_after (Lifts item) gifts hand = record { at_home = hand.at_home; out = item; payload = hand.payload }
  hand_after (Takes item) gifts hand = record { at_home = hand.at_home; out = item; payload = beside item gifts }

  -- the slots that a seat holds, with so many tokens a pass: that of the token that is out
  abbrev pub slot_of : ℕ → Option T → List (ℕ × Option T)
  slot_of zero payload = []
  slot_of (suc slot) payload = (slot, payload) ∷ []

  abbrev pub carrying : ℕ → ℕ → Option T → List (ℕ × Option T)
  carrying zero out payload = []
  carrying (suc tokens) out payload = slot_of out payload

  -- in a call it is the hand's payload
  abbrev pub Carries : Option Running → ℕ → Hand T → List (ℕ × Option T) → Type 0
  Carries None tokens hand held = (payload : Option T) × (held ≡ carrying tokens hand.out payload)
  Carries (Some place) tokens hand held = held ≡ carrying tokens hand.out hand.payload

  -- what a move does to the slots
  abbrev pub act_of : ℕ → Move → Gifts T → Act (Option T)
  act_of zero m gifts = keeps
  act_of (suc tokens) Stays gifts = keeps
  act_of (suc tokens) (Lays index) gifts = gives
  act_of (suc tokens) (Lifts item) gifts = takes (item - 1) (beside item gifts)
  act_of (suc tokens) (Takes item) gifts = takes (item - 1) (beside item gifts)

  -- the slots of these tokens are at home, and hold nothing
  abbrev pub AllHome : (ℕ → Where) → Homes T → ℕ → List ℕ → Type 0
  AllHome at homes thread [] = Unit {0}
  AllHome at homes thread (x ∷ xs) =
      ((0 < x) × (at x ≡ Home thread (length xs)) × (get_elem? homes (x - 1) ≡ some (some None)))
      × AllHome at homes thread xs

  -- an item that was put: as long as its word stands, the item's last gift is this
  abbrev pub PutFits : (ℕ → ℕ) → Gifts T → Option T → ℕ → ℕ → ℕ → Type 0
  PutFits words gifts payload item index filled = (version_of filled ≤ version_of (words index))
      × (words index ≡ filled → beside item gifts ≡ payload)

  -- the item's last gift is the enqueue's own, as long as it has not lost it
  abbrev pub GiftFits : (ℕ → ℕ) → Gifts T → Option T → ℕ → EnqueuePhase → Type 0
  GiftFits words gifts payload item (E.ReloadSlot ends index filled) = PutFits words gifts payload item index filled
  GiftFits words gifts payload item (E.ReloadEnds ends index filled) = PutFits words gifts payload item index filled
  GiftFits words gifts payload item (E.HoldHead ends index filled held) = PutFits words gifts payload item index filled
  GiftFits words gifts payload item (E.Undo index filled worn) = PutFits words gifts payload item index filled
  GiftFits words gifts payload item phase = beside item gifts ≡ payload

  abbrev pub CallFits : Bool → (ℕ → ℕ) → Gifts T → Hand T → Option Running → Type 0
  CallFits bare words gifts hand None = Unit {0}
  CallFits bare words gifts hand (Some (R.Enqueue item start left phase)) =
      (hand.out ≡ out_in item phase) × IsGift bare hand.payload × GiftFits words gifts hand.payload item phase
  CallFits bare words gifts hand (Some (R.Dequeue start left phase)) = hand.out ≡ 0

  -- a thread's hand
  pub record HandFits (bare : Bool) (words : ℕ → ℕ) (place : Option Running) (at : ℕ → Where) (gifts : Gifts T)
      (homes : Homes T) (thread : ℕ) (hand : Hand T) : Type 0 where
    pub home : AllHome at homes thread hand.at_home
    pub out : hand.out ≢ 0 → (at hand.out ≡ Out thread) × (hand.out ≤ length homes)
    pub stands : CallFits bare words gifts hand place

  -- each token that a slot's word names is there, and its slot is at home and holds the token's last gift
  abbrev pub SlotsFit : Bool → ℕ → (ℕ → ℕ) → (ℕ → Where) → Gifts T → Homes T → Type 0
  SlotsFit bare clock words at gifts homes = (i : ℕ) → 0 < i → i < clock → value_of (words i) ≢ 0
      → (at (value_of (words i)) ≡ In i) × IsGift bare (beside (value_of (words i)) gifts)
      × (get_elem? homes (value_of (words i) - 1) ≡ some (some (beside (value_of (words i)) gifts)))

  -- where steps of a call with this item and payload of its own leave its thread: the token that is out, and what its
  -- slot holds
  pub record Leaves (bare : Bool) (own : ℕ) (payload : Option T) (gifts : Gifts T) (hand : Hand T) (next : Next)
      : Type 0 where
    pub out : hand.out ≡ out_next own next
    pub kept : 0 < own → hand.payload ≡ payload
    pub taken : (item : ℕ) → next ≡ Answers (Got item) → (0 < item) × (hand.payload ≡ beside item gifts)
        × IsGift bare (beside item gifts)
    pub fits : FitsOwn own next
    pub same_own : (place : Running) → next ≡ Goes place → own_item place ≡ own

  -- what a call that begins asks of the hand: an enqueue's item is the token that is out, and its slot has what it
  -- carries
  abbrev pub BeginsWith : Bool → Option Begin → Hand T → List (ℕ × Option T) → Type 0
  BeginsWith bare (Some (B.Enqueue item start turns)) hand held = (hand.out ≡ item) × IsGift bare (carried held)
  BeginsWith bare (Some (B.Dequeue start turns)) hand held = hand.out ≡ 0
  BeginsWith bare begin hand held = Unit {0}
