-- What is known of the points of calls, and the order that they give.
use Rattle.std.specs.Prelude.{ℕ, ◌≡◌, ◌≢◌, ◌<◌, ◌≤◌, Bool, true, ◌&&◌, eqb, List, Option, Some, None}
use Rattle.std.specs.List.{filter, flat_map, range_with_len}
use Rattle.kfifo_model.specs.declared.calls.Call.{Call}
use Rattle.kfifo_model.specs.declared.calls.End.{End}
use Rattle.kfifo_model.specs.Lists.{IsIn, EachPair}
use Rattle.kfifo_model.specs.declared.effects.Effect.{Effect}
use Rattle.kfifo_model.specs.declared.effects.Effect.TheVariants.{Adds, Takes, FindsNone, Wrong}
use Rattle.kfifo_model.specs.Histories.{call, IsFinished, CanStand}
use Rattle.kfifo_model.specs.Overtaking.{numbers_of}

-- What is marked on the calls of a schedule, each named by its number, and on its steps.
pub record Marks : Type 0 where
  pub stands : ℕ → Bool  -- the call stands in the order
  pub point : ℕ → ℕ  -- its step
  pub visit : ℕ → ℕ  -- of an enqueue: the visit of its item
  pub slot : ℕ → ℕ  -- of an enqueue: the slot of its item in its segment
  pub source : ℕ → ℕ  -- of a Got: the enqueue whose item it took
  pub head : ℕ → ℕ  -- the head number before a step
  pub tail : ℕ → ℕ  -- the tail number before a step

-- c is a standing enqueue
abbrev pub IsAdd : (ℕ → Effect) → Marks → ℕ → Type 0
IsAdd act m c = (m.stands c ≡ true) × (x : ℕ) × (act c ≡ Adds x)

-- g is a Got that took the item of c
abbrev pub IsTakeOf : (ℕ → Effect) → Marks → ℕ → ℕ → Type 0
IsTakeOf act m c g = (m.stands g ≡ true) × (x : ℕ) × (act g ≡ Takes x) × (m.source g ≡ c)

-- The facts about points that make the order.
pub record PointsFit (k : ℕ) (act : ℕ → Effect) (m : Marks) : Type 0 where
  pub head_rises : (p q : ℕ) → p ≤ q → m.head p ≤ m.head q
  pub tail_rises : (p q : ℕ) → p ≤ q → m.tail p ≤ m.tail q
  -- at its point an enqueue's visit is the tail's
  pub added : (c x : ℕ) → m.stands c ≡ true → act c ≡ Adds x → m.tail (m.point c) ≡ m.visit c
  -- its slot is one of k, and no other item of the visit has it
  pub slot_below : (c x : ℕ) → m.stands c ≡ true → act c ≡ Adds x → m.slot c < k
  pub slots_differ : (c d : ℕ) → IsAdd act m c → IsAdd act m d → m.visit c ≡ m.visit d → m.slot c ≡ m.slot d → c ≡ d
  -- a Got took the item of a standing enqueue
  pub source_stands : (g x : ℕ) → m.stands g ≡ true → act g ≡ Takes x → m.stands (m.source g) ≡ true
  pub source_adds : (g x : ℕ) → m.stands g ≡ true → act g ≡ Takes x → act (m.source g) ≡ Adds x
  -- at its point the item's visit is the head's, and the tail is beyond
  pub taken : (g x : ℕ) → m.stands g ≡ true → act g ≡ Takes x → m.head (m.point g) ≡ m.visit (m.source g)
  pub beyond : (g x : ℕ) → m.stands g ≡ true → act g ≡ Takes x → m.visit (m.source g) < m.tail (m.point g)
  -- no two took the item of one enqueue
  pub taken_once : (c g h : ℕ) → IsTakeOf act m c g → IsTakeOf act m c h → g ≡ h
  -- an item whose visit the head has left was taken
  pub left_behind : (c p : ℕ) → IsAdd act m c → m.visit c < m.head p → (g : ℕ) × IsTakeOf act m c g
  -- at the point of an Empty head and tail are in one visit, to which nothing has been added
  pub empty_ends : (e : ℕ) → m.stands e ≡ true → act e ≡ FindsNone → m.head (m.point e) ≡ m.tail (m.point e)
  pub empty_visit : (e c : ℕ) → m.stands e ≡ true → act e ≡ FindsNone → IsAdd act m c → m.point c ≤ m.point e
      → m.visit c ≢ m.head (m.point e)
  -- no standing call has an answer of the other operation
  pub sound : (c : ℕ) → m.stands c ≡ true → act c ≢ Wrong

-- c has its point before d, or the same point and the lower number
abbrev pub IsEarlier : (ℕ → ℕ) → ℕ → ℕ → Type 0
IsEarlier point c d = (point c ≤ point d) × (point c ≡ point d → c < d)

-- The calls that stand, in ascending order of point and number.
pub record IsByPoint (m : Marks) (order : List ℕ) : Type 0 where
  pub sorted : EachPair (IsEarlier m.point) order
  pub only : (c : ℕ) → IsIn c order → m.stands c ≡ true
  pub every : (c : ℕ) → m.stands c ≡ true → IsIn c order

-- the step is one of the call's
abbrev pub IsNoLater : ℕ → Option End → Type 0
IsNoLater step None = Unit {0}
IsNoLater step (Some end) = step ≤ end.last

-- The calls that stand are calls of a history, each with its point between its first step and its last.
pub record StandsFit (h : List Call) (m : Marks) : Type 0 where
  pub finished_stand : (c : ℕ) → IsFinished h c → m.stands c ≡ true
  pub can_stand : (c : ℕ) → m.stands c ≡ true → CanStand (call h c).end (call h c).op
  pub point_from : (c : ℕ) → m.stands c ≡ true → (call h c).first ≤ m.point c
  pub point_to : (c : ℕ) → m.stands c ≡ true → IsNoLater (m.point c) (call h c).end

-- The calls that stand with their points among the first steps, step by step, and at one step by number.
abbrev pub by_point : (ℕ → Bool) → (ℕ → ℕ) → ℕ → List Call → List ℕ
by_point stands point steps h = flat_map (λ p. filter (λ c. stands c && eqb (point c) p) (numbers_of h))
    (range_with_len 0 steps)
