-- The invariant of machine and ledger.
use Rattle.std.proofs.Common.{◌≡◌, ◌≢◌, ℕ, ◌-◌, ◌%◌, ◌<◌, ◌≤◌, Bool, true, false, Option, Some, None}
use Rattle.kfifo_machine.specs.declared.place.EnqueuePhase.TheVariants as E
use Rattle.kfifo_machine.specs.declared.place.DequeuePhase.TheVariants as D
use Rattle.kfifo_machine.specs.declared.place.Running.TheVariants as R
use Rattle.kfifo_machine.specs.declared.event.Begin.TheVariants as B
use Rattle.std.proofs.Common.{is_some}
use Rattle.kfifo_linear.proofs.Base.{Base}
use Rattle.kfifo_linear.proofs.Claims.{HasLoaded, Round, at_load, segment_of}
use Rattle.kfifo_linear.specs.Ledger.{Gone, Inside, Ledger, Outside, Standing, Stood, Took, item_of}
use Rattle.kfifo_machine.specs.Places.{IsSlotIndex}
use Rattle.kfifo_machine.specs.Program.{scan_index}
use Rattle.kfifo_linear.proofs.Types.{Answer, Begin, Running, Shape}
use Rattle.kfifo_machine.specs.declared.place.Found.TheVariants.{Nothing, Slot}
use Rattle.kfifo_model.specs.declared.calls.Answer.TheVariants.{Busy, Done, Empty, Full, Got, Worn}
use Rattle.kfifo_words.specs.Words.{head_of, value_of}

-- the item of a standing was taken
abbrev pub is_gone : Standing → Bool
is_gone (Gone index visit point) = true
is_gone other = false

-- an enqueue between its won put and the end of its round
abbrev pub is_putting : Running → Bool
is_putting (R.Enqueue item start left (E.ReloadSlot ends index filled)) = true
is_putting (R.Enqueue item start left (E.ReloadEnds ends index filled)) = true
is_putting (R.Enqueue item start left (E.HoldHead ends index filled held)) = true
is_putting (R.Enqueue item start left (E.Undo index filled worn)) = true
is_putting other = false

-- a thread's own item: it is in its slot, unsettled, as long as the slot's word is the one that was put
pub record Own (shape : Shape) (w : ℕ → ℕ) (l : Ledger) (t index filled : ℕ) : Type 0 where
  pub below : filled ≤ w index
  pub place : segment_of shape index ≡ l.tail_seen t % shape.n
  pub owner : w index ≡ filled → l.owner index ≡ l.caller t
  pub inside : w index ≡ filled → l.standing (l.caller t) ≡ Inside index
  pub unsettled : w index ≡ filled → l.settled index ≡ false
  pub gone : (w index ≡ filled → ⊥) → is_gone (l.standing (l.caller t)) ≡ true

abbrev pub HasOwn : Shape → (ℕ → ℕ) → Ledger → ℕ → Running → Type 0
HasOwn shape w l t (R.Enqueue item start left (E.ReloadSlot ends index filled)) = Own shape w l t index filled
HasOwn shape w l t (R.Enqueue item start left (E.ReloadEnds ends index filled)) = Own shape w l t index filled
HasOwn shape w l t (R.Enqueue item start left (E.HoldHead ends index filled held)) = Own shape w l t index filled
    × (head_of held ≡ l.tail_seen t % shape.n)
HasOwn shape w l t (R.Enqueue item start left (E.Undo index filled worn)) = Own shape w l t index filled
HasOwn shape w l t other = Unit {0}

-- an empty slot that an enqueue means to fill, and once the ends are looked at again that no visit from its own on was
-- taken from it
pub record ToFill (shape : Shape) (w : ℕ → ℕ) (l : Ledger) (t index empty : ℕ) : Type 0 where
  pub place : segment_of shape index ≡ l.tail_seen t % shape.n
  pub below : empty ≤ w index

-- a filled slot that a dequeue means to take, and once the ends are looked at again that its item was not put for a
-- later visit
pub record ToTake (shape : Shape) (w : ℕ → ℕ) (l : Ledger) (t index filled : ℕ) : Type 0 where
  pub place : segment_of shape index ≡ l.head_seen t % shape.n
  pub below : filled ≤ w index

abbrev pub HasTarget : Shape → (ℕ → ℕ) → Ledger → ℕ → Running → Type 0
HasTarget shape w l t (R.Enqueue item start left (E.Recheck ends (Slot index seen))) = ToFill shape w l t index seen
HasTarget shape w l t (R.Enqueue item start left (E.Put ends index empty)) = ToFill shape w l t index empty
    × (w index ≡ empty → l.untaken_from index ≤ l.tail_seen t)
HasTarget shape w l t (R.Dequeue start left (D.Recheck ends (Slot index seen))) = ToTake shape w l t index seen
HasTarget shape w l t (R.Dequeue start left (D.MoveTail ends index filled)) = ToTake shape w l t index filled
    × (w index ≡ filled → l.tail_at_load index ≤ l.head_seen t)
HasTarget shape w l t (R.Dequeue start left (D.Take ends index filled)) = ToTake shape w l t index filled
    × (w index ≡ filled → l.tail_at_load index ≤ l.head_seen t) × (l.head_seen t < l.tail)
HasTarget shape w l t other = Unit {0}

-- the slots of the head's segment that a scan from start saw in its first offset looks have no settled item, as long as
-- the ends stand
abbrev pub Clear : Shape → (ℕ → ℕ) → Ledger → ℕ → ℕ → ℕ → Type 0
Clear shape w l ends start offset = w 0 ≡ ends → (o : ℕ) → o < offset
    → l.settled (scan_index shape (head_of ends) start o) ≡ false

abbrev pub HasClear : Shape → (ℕ → ℕ) → Ledger → Running → Type 0
HasClear shape w l (R.Enqueue item start left (E.ScanHead ends offset)) = Clear shape w l ends 0 offset
HasClear shape w l (R.Enqueue item start left (E.MoveHead ends)) = Clear shape w l ends 0 shape.k
HasClear shape w l (R.Dequeue start left (D.ScanHead ends offset)) = Clear shape w l ends start offset
HasClear shape w l (R.Dequeue start left (D.Recheck ends Nothing)) = Clear shape w l ends start shape.k
HasClear shape w l (R.Dequeue start left (D.MoveHead ends)) = Clear shape w l ends start shape.k
HasClear shape w l other = Unit {0}

-- a thread makes the call that it began
abbrev pub Makes : Begin → Running → Type 0
Makes (B.Enqueue item start turns) (R.Enqueue its_item its_start left phase) = (item ≡ its_item) × (start ≡ its_start)
Makes (B.Dequeue start turns) (R.Dequeue its_start left phase) = start ≡ its_start
Makes other running = ⊥

pub record ThreadOk (shape : Shape) (w : ℕ → ℕ) (l : Ledger) (t : ℕ) (r : Running) : Type 0 where
  pub known : l.caller t < l.calls
  pub started : l.first (l.caller t) ≤ l.now
  pub unended : l.last (l.caller t) ≡ None
  pub unanswered : l.answer (l.caller t) ≡ None
  pub makes : Makes (l.begin (l.caller t)) r
  pub round : at_load r ≡ false → Round l t
  pub loaded : HasLoaded shape w l t r
  pub fresh : is_putting r ≡ false → l.standing (l.caller t) ≡ Outside
  pub own : HasOwn shape w l t r
  pub target : HasTarget shape w l t r
  pub clear : HasClear shape w l r

-- a place in the order at which the tail is in this visit
pub record AtTail (l : Ledger) (v p : ℕ) : Type 0 where
  pub reached : v ≤ l.tail
  pub after : 0 < v → l.tails (v - 1) < p
  pub before : v < l.tail → p ≤ l.tails v
  pub past : p < l.now

-- a place at which the head is in this visit, and the tail is past it
pub record AtHead (l : Ledger) (v p : ℕ) : Type 0 where
  pub reached : v ≤ l.head
  pub after : 0 < v → l.heads (v - 1) < p
  pub before : v < l.head → p ≤ l.heads v
  pub past : p < l.now
  pub tail_past : v < l.tail
  pub tail_before : l.tails v < p

-- a slot with a settled item: it is of a visit that the head has not left and the tail has reached
pub record SettledOk (shape : Shape) (l : Ledger) (i : ℕ) : Type 0 where
  pub from_head : l.head ≤ l.visit i
  pub to_tail : l.visit i ≤ l.tail
  pub place : l.visit i % shape.n ≡ segment_of shape i
  pub at_tail : AtTail l (l.visit i) (l.point i)
  pub started : l.first (l.owner i) ≤ l.point i
  pub ended : (e : ℕ) → l.last (l.owner i) ≡ Some e → l.point i ≤ e

-- a filled slot
pub record FullOk (shape : Shape) (l : Ledger) (i : ℕ) : Type 0 where
  pub inside : l.standing (l.owner i) ≡ Inside i
  pub known : l.owner i < l.calls
  pub begun : l.first (l.owner i) ≤ l.now
  pub untaken_to_load : l.untaken_from i ≤ l.tail_at_load i
  pub load_to_tail : l.tail_at_load i ≤ l.tail
  pub place : l.tail_at_load i % shape.n ≡ segment_of shape i
  pub after : (v : ℕ) → l.tail_at_load i ≤ v → v < l.tail → l.first (l.owner i) ≤ l.tails v
  pub unsettled : l.settled i ≡ false → l.last (l.owner i) ≡ None

pub record SlotOk (shape : Shape) (w : ℕ → ℕ) (l : Ledger) (i : ℕ) : Type 0 where
  pub untaken_to_tail : l.untaken_from i ≤ l.tail
  pub empty : value_of (w i) ≡ 0 → l.settled i ≡ false
  pub full : value_of (w i) ≢ 0 → FullOk shape l i
  pub item : value_of (w i) ≢ 0 → item_of (l.begin (l.owner i)) ≡ value_of (w i)
  pub settled : l.settled i ≡ true → SettledOk shape l i

-- the steps at which head and tail left their visits
pub record Times (l : Ledger) : Type 0 where
  pub tails_past : (v : ℕ) → v < l.tail → l.tails v < l.now
  pub tails_rise : (u v : ℕ) → u < v → v < l.tail → l.tails u < l.tails v
  pub heads_past : (v : ℕ) → v < l.head → l.heads v < l.now
  pub heads_rise : (u v : ℕ) → u < v → v < l.head → l.heads u < l.heads v
  pub tail_first : (v : ℕ) → v < l.head → l.tails v < l.heads v

-- a call whose item was taken from slot i in visit v, and its place
pub record GoneOk (shape : Shape) (l : Ledger) (c i v p : ℕ) : Type 0 where
  pub is_slot : IsSlotIndex shape i
  pub place : v % shape.n ≡ segment_of shape i
  pub at_tail : AtTail l v p
  pub started : l.first c ≤ p
  pub ended : (e : ℕ) → l.last c ≡ Some e → p ≤ e
  pub under : v < l.untaken_from i

-- the visit in which the item of a standing was taken
abbrev pub gone_visit : Standing → ℕ
gone_visit (Gone index visit point) = visit
gone_visit other = 0

-- a call that took the item of call o in visit v, and its place
pub record TookOk (l : Ledger) (c o v p : ℕ) : Type 0 where
  pub at_head : AtHead l v p
  pub started : l.first c ≤ p
  pub ended : (e : ℕ) → l.last c ≡ Some e → p ≤ e
  pub gone : is_gone (l.standing o) ≡ true
  pub same_visit : gone_visit (l.standing o) ≡ v
  pub finished : is_some (l.answer c) ≡ true

-- a call that found the queue empty in visit v, and its place: what does not have its place later was taken in an
-- earlier visit
pub record StoodOk (shape : Shape) (l : Ledger) (c v p : ℕ) : Type 0 where
  pub at_tail : AtTail l v p
  pub head_reached : v ≤ l.head
  pub head_after : 0 < v → l.heads (v - 1) < p
  pub head_before : v < l.head → p ≤ l.heads v
  pub started : l.first c ≤ p
  pub ended : (e : ℕ) → l.last c ≡ Some e → p ≡ e
  pub finished : is_some (l.answer c) ≡ true
  pub none_gone : (d i u q : ℕ) → l.standing d ≡ Gone i u q → q ≤ p → u < v
  pub none_settled : (i : ℕ) → IsSlotIndex shape i → l.settled i ≡ true → p < l.point i
  pub no_tail : (x : ℕ) → x < l.tail → l.tails x ≢ p

-- the slot of an item that is in one
pub record InsideOk (shape : Shape) (w : ℕ → ℕ) (l : Ledger) (c i : ℕ) : Type 0 where
  pub is_slot : IsSlotIndex shape i
  pub full : value_of (w i) ≢ 0
  pub owner : l.owner i ≡ c

-- a standing that an answer says
abbrev pub Fits : (ℕ → Begin) → Answer → Standing → Type 0
Fits begin Done (Inside index) = Unit {0}
Fits begin Done (Gone index visit point) = Unit {0}
Fits begin Full Outside = Unit {0}
Fits begin Busy Outside = Unit {0}
Fits begin Worn Outside = Unit {0}
Fits begin (Got item) (Took call visit point) = item_of (begin call) ≡ item
Fits begin Empty (Stood visit point) = Unit {0}
Fits begin other standing = ⊥

pub record Calls (shape : Shape) (w : ℕ → ℕ) (l : Ledger) : Type 0 where
  pub later : (c : ℕ) → l.calls ≤ c → l.standing c ≡ Outside
  pub inside : (c i : ℕ) → l.standing c ≡ Inside i → InsideOk shape w l c i
  pub gone : (c i v p : ℕ) → l.standing c ≡ Gone i v p → GoneOk shape l c i v p
  pub took : (c o v p : ℕ) → l.standing c ≡ Took o v p → TookOk l c o v p
  pub stood : (c v p : ℕ) → l.standing c ≡ Stood v p → StoodOk shape l c v p
  pub answered : (c : ℕ) (x : Answer) → l.answer c ≡ Some x → Fits l.begin x (l.standing c)
  pub ended : (c e : ℕ) → l.last c ≡ Some e → is_some (l.answer c) ≡ true
  pub lasts : (c e : ℕ) → l.last c ≡ Some e → (l.first c ≤ e) × (e < l.now)
  pub unended : (c : ℕ) → l.last c ≡ None → l.answer c ≡ None
  -- two items of one slot are of two visits
  pub apart : (c d i v p u q : ℕ) → l.standing c ≡ Gone i v p → l.standing d ≡ Gone i u q → v ≡ u → c ≡ d
  pub taker : (c i v p : ℕ) → l.standing c ≡ Gone i v p → (d : ℕ) × ((q : ℕ) × (l.standing d ≡ Took c v q))
  -- no item is taken twice
  pub once : (c d o v p u q : ℕ) → l.standing c ≡ Took o v p → l.standing d ≡ Took o u q → c ≡ d

pub record Inv (shape : Shape) (w : ℕ → ℕ) (p : ℕ → Option Running) (l : Ledger) : Type 0 where
  pub base : Base shape w p l
  pub threads : (t : ℕ) (r : Running) → p t ≡ Some r → ThreadOk shape w l t r
  pub callers : (t u : ℕ) (r q : Running) → p t ≡ Some r → p u ≡ Some q → l.caller t ≡ l.caller u → t ≡ u
  pub slots : (i : ℕ) → IsSlotIndex shape i → SlotOk shape w l i
  pub times : Times l
  pub calls : Calls shape w l
