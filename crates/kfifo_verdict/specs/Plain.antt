-- How the calls of a plain history take their turns for k = 1. Moments are numbers of calls: a call may stand at one
-- from its own number on, until the first call that it precedes.
use Rattle.std.specs.Prelude.{ℕ, ◌≡◌, ◌+◌, ◌<◌, ◌≤◌, ◌⊎◌, Bool, List, length, slice_index_or}
use Rattle.std.specs.List.{All, Contains}
use Rattle.std.specs.List.Sorted.{IsSortedBy}
use Rattle.std.specs.Ordering.{is_lt, nat_cmp, ordering_then}
use Rattle.kfifo_model.specs.declared.calls.Call.{Call}
use Rattle.kfifo_model.specs.declared.effects.Effect.TheVariants.{FindsNone}
use Rattle.kfifo_model.specs.Lists.{IsIn, EachPair}
use Rattle.kfifo_model.specs.Histories.{call, does, EndsBelow, IsFinished}
use Rattle.kfifo_verdict.specs.declared.presences.Presence.{Presence}
use Rattle.kfifo_verdict.specs.declared.turns.Turn.{Turn}
use Rattle.kfifo_verdict.specs.Evidence.{Puts, Gets, IsSingle}
use Rattle.kfifo_verdict.specs.Finding.{first_of, IsStart, no_presence}

abbrev pub presence : List Presence → ℕ → Presence
presence ps p = slice_index_or ps p no_presence

-- the first call that the get of an item precedes, or one past the end of all calls where none gets it
pub record IsLate (h : List Call) (gone late : ℕ) : Type 0 where
  pub got : gone < length h → IsStart h (call h gone).end late
  pub never : length h ≤ gone → late ≡ length h + 1

-- The moment by which the item of put p has to be in: until its put ends, and its get, and the put of each item whose
-- get begins after that get.
pub record IsDue (ps : List Presence) (p late due : ℕ) : Type 0 where
  pub put : due ≤ (presence ps p).start
  pub got : due ≤ late
  pub next : (q : ℕ) → q < length ps → late ≤ (presence ps q).gone → due ≤ (presence ps q).start
  pub attained : (due ≡ (presence ps p).start)
      ⊎ ((due ≡ late) ⊎ ((q : ℕ) × (q < length ps) × (late ≤ (presence ps q).gone) × ((presence ps q).start ≤ due)))

-- An item's place in the line: by when it has to be in, by when out, and its put.
pub record IsPlace (h : List Call) (ps : List Presence) (e : ℕ × ℕ × ℕ) : Type 0 where
  pub item : ℕ
  pub puts : Puts h item e.2
  pub late : IsLate h (presence ps e.2).gone e.1
  pub due : IsDue ps e.2 e.1 e.0

-- the places of the items of the puts below n
pub record ArePlaces (h : List Call) (ps : List Presence) (n : ℕ) (places : List (ℕ × ℕ × ℕ)) : Type 0 where
  pub real : All (IsPlace h ps) places
  pub each : (x p : ℕ) → p < n → Puts h x p → (e : ℕ × ℕ × ℕ) × Contains places e × (e.2 ≡ p)

-- a triple stands before another by the first number that differs
abbrev pub lower : ℕ × ℕ × ℕ → ℕ × ℕ × ℕ → Bool
lower a b = is_lt (ordering_then (ordering_then (nat_cmp a.0 b.0) (nat_cmp a.1 b.1)) (nat_cmp a.2 b.2))

-- all items, in the order in which they go in and out
pub record IsLine (h : List Call) (ps : List Presence) (line : List (ℕ × ℕ × ℕ)) : Type 0 where
  pub places : ArePlaces h ps (length h) line
  pub sorted : IsSortedBy lower line

abbrev pub place : List (ℕ × ℕ × ℕ) → ℕ → ℕ × ℕ × ℕ
place line i = slice_index_or line i (0, 0, 0)

abbrev pub no_turn : Turn
no_turn = record { moment = 0; rank = 0 }

abbrev pub turn : List Turn → ℕ → Turn
turn ts c = slice_index_or ts c no_turn

-- call m begins during call c
abbrev pub IsInCall : List Call → ℕ → ℕ → Type 0
IsInCall h c m = (c ≤ m) × (m < length h) × (EndsBelow (call h c).end (first_of h m) → ⊥)

-- no item is certainly there as call m begins
abbrev pub IsGap : List Presence → ℕ → Type 0
IsGap ps m = (p : ℕ) → p < length ps → (presence ps p).start ≤ m → (presence ps p).gone ≤ m

-- A turn of a call that neither puts nor gets.
pub record IsIdleTurn (h : List Call) (ps : List Presence) (rank c : ℕ) (t : Turn) : Type 0 where
  pub ranked : t.rank ≡ rank
  pub inside : IsInCall h c t.moment
  pub gap : does h c ≡ FindsNone → IsGap ps t.moment

-- the first n calls, as if all were such
pub record AreIdle (h : List Call) (ps : List Presence) (rank n : ℕ) (ts : List Turn) : Type 0 where
  pub sized : length ts ≡ n
  pub turns : (c : ℕ) → c < n → IsIdleTurn h ps rank c (turn ts c)

-- The moment at which the item at place i of the line is out: it and all before it are in, and their gets have begun.
pub record IsLatest (ps : List Presence) (line : List (ℕ × ℕ × ℕ)) (i latest : ℕ) : Type 0 where
  pub covers : (j : ℕ) → j ≤ i → ((place line j).0 ≤ latest) × ((presence ps (place line j).2).gone ≤ latest)
  pub attained : (j : ℕ) × (j ≤ i) × ((latest ≡ (place line j).0) ⊎ (latest ≡ (presence ps (place line j).2).gone))

-- The turns of the put and the get of the item at place i of the line, of put p.
pub record IsItemTurn (h : List Call) (ps : List Presence) (line : List (ℕ × ℕ × ℕ)) (ts : List Turn)
    (p i : ℕ) : Type 0 where
  pub inside : i < length line
  pub is : (place line i).2 ≡ p
  pub put : turn ts p ≡ record { moment = (place line i).0; rank = i }
  pub get : (presence ps p).gone < length h → (latest : ℕ) × IsLatest ps line i latest
      × (turn ts (presence ps p).gone ≡ record { moment = latest; rank = length line + i })

-- the turns of all calls, among them the turns of the items at the first n places of the line
pub record AreTurns (h : List Call) (ps : List Presence) (line : List (ℕ × ℕ × ℕ)) (n : ℕ)
    (ts : List Turn) : Type 0 where
  pub sized : length ts ≡ length h
  pub items : (j : ℕ) → j < n → (i : ℕ) × (i < n) × IsItemTurn h ps line ts (place line j).2 i
  pub idle : (c : ℕ) → c < length h → ((x : ℕ) → Puts h x c → ⊥) → ((x : ℕ) → Gets h x c → ⊥)
      → IsIdleTurn h ps (length line + length line) c (turn ts c)

-- c has its turn before d: by the moment, the rank and the number
abbrev pub IsBefore : List Turn → ℕ → ℕ → Type 0
IsBefore ts c d = ((turn ts c).moment < (turn ts d).moment) ⊎ (((turn ts c).moment ≡ (turn ts d).moment)
    × (((turn ts c).rank < (turn ts d).rank) ⊎ (((turn ts c).rank ≡ (turn ts d).rank) × (c < d))))

-- the turns of the first n calls, with the calls
pub record AreNumbered (ts : List Turn) (n : ℕ) (numbered : List (ℕ × ℕ × ℕ)) : Type 0 where
  pub sized : length numbered ≡ n
  pub at : (c : ℕ) → c < n → place numbered c ≡ ((turn ts c).moment, (turn ts c).rank, c)

-- All calls by their turns.
pub record IsByTurns (ts : List Turn) (order : List ℕ) : Type 0 where
  pub sorted : EachPair (IsBefore ts) order
  pub inside : (c : ℕ) → IsIn c order → c < length ts
  pub all : (c : ℕ) → c < length ts → IsIn c order

-- the first n calls have ended, and the items that they put are single
pub record IsPlainBelow (h : List Call) (n : ℕ) : Type 0 where
  pub ended : (c : ℕ) → c < n → IsFinished h c
  pub single : (x p : ℕ) → p < n → Puts h x p → IsSingle h x p
