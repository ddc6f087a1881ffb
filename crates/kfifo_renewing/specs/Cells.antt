-- What the calls of a handle of a queue of cells do. A cell is that of a token of its generation: token x has cell x -
-- 1.
use Rattle.std.specs.Prelude.{◌≡◌, ◌≢◌, ◌⊎◌, ◌++◌, ℕ, false, true, List, [], ◌∷◌, Option, Some, None}
use Rattle.std.specs.Option.{option_or}
use Rattle.kfifo_live.specs.declared.payload.Given.{Given}
use Rattle.kfifo_live.specs.declared.payload.Given.TheVariants as G
use Rattle.kfifo_live.specs.declared.payload.Taken.{Taken}
use Rattle.kfifo_pool.specs.Cells.{CancelsCell, PublishesCell, ReleasesCell, ReservesCell, cell_in}
use Rattle.kfifo_live.specs.Pass.{Closes, OpenQueue}
use Rattle.kfifo_pool.specs.Pooled.{Pooled, passes_in}
use Rattle.kfifo_renewing.specs.History.{EachLeftTogether}
use Rattle.kfifo_renewing.specs.declared.cells.CellCall.{CellCall}
use Rattle.kfifo_renewing.specs.declared.cells.CellCall.TheVariants as C
use Rattle.kfifo_renewing.specs.declared.change.Change.{Change}
use Rattle.kfifo_renewing.specs.declared.memory.CellAt.{CellAt}
use Rattle.kfifo_renewing.specs.Memory.{ReceivesAt, ReceivesAtOrSeals, cells_in}
use Rattle.kfifo_renewing.specs.Renewing.{Follows, Gathers, Generations, HaveEnded, HeldIn, IsAtNewest, IsBehind}
use Rattle.kfifo_renewing.specs.Renewing.{IsClosedBy, TakesBy, with_newest}

module _ {T : Type 0} where
  -- What a call with the cell of a handle in one generation did. NoToken: there is no such cell, and nothing is done
  abbrev pub CallsCell : CellCall → Given (Unit {0}) → Pooled T → Pooled T → Type 0
  CallsCell C.Publish answer old new = PublishesCell answer old new
  CallsCell C.Cancel answer old new = ((answer ≡ G.Done) × CancelsCell true old new)
      ⊎ ((answer ≡ G.NoToken tt) × CancelsCell false old new)
  CallsCell C.Release answer old new = ((answer ≡ G.Done) × ReleasesCell true old new)
      ⊎ ((answer ≡ G.NoToken tt) × ReleasesCell false old new)

  -- Such calls in these generations, one after the other, up to the first that has such a cell. The others stay as they
  -- are. NoToken: none has one
  abbrev pub CallsFirst : CellCall → Given (Unit {0}) → List (HeldIn T) → List (HeldIn T) → Type 0
  CallsFirst call answer [] new = (answer ≡ G.NoToken tt) × (new ≡ [])
  CallsFirst call answer (h ∷ hs) new = (after : HeldIn T) × (afters : List (HeldIn T)) × (new ≡ after ∷ afters)
      × (after.number ≡ h.number)
      × ((CallsCell call (G.NoToken tt) h.handle after.handle × CallsFirst call answer hs afters)
      ⊎ ((answer ≢ G.NoToken tt) × CallsCell call answer h.handle after.handle × (afters ≡ hs)))

  -- What `publish`, `cancel` and `release` did, in the generation that has such a cell: one of the older ones, or else
  -- the newest
  pub record CallsOnce (call : CellCall) (answer : Given (Unit {0})) (old new : Generations T) : Type 0 where
    pub opened : new.opened ≡ old.opened
    pub thread : new.thread ≡ old.thread
    pub book : new.book ≡ old.book
    pub seen : new.seen ≡ old.seen
    pub number : new.number ≡ old.number
    pub found : Given (Unit {0})
    pub older : CallsFirst call found old.older new.older
    pub newest : ((found ≢ G.NoToken tt) × (answer ≡ found) × (new.newest ≡ old.newest))
        ⊎ ((found ≡ G.NoToken tt) × CallsCell call answer old.newest new.newest)

  -- such a call in the newest generation. The others stay as they are
  pub record CallsNewest (call : CellCall) (answer : Given (Unit {0})) (old new : Generations T) : Type 0 where
    pub others : new ≡ with_newest old new.newest
    pub calls : CallsCell call answer old.newest new.newest

  -- What `publish_next` did: it published the cell that was reserved in the newest generation. Then it gave a cell
  -- back: if it published one, that which is reserved in an older generation, and else that of the newest one
  abbrev pub PublishesNext : Given (Unit {0}) → Generations T → Generations T → Type 0
  PublishesNext answer old new = (mid : Generations T) × CallsNewest C.Publish answer old mid
      × (given_back : Given (Unit {0})) × (((answer ≡ G.Done) × CallsOnce C.Cancel given_back mid new)
      ⊎ ((answer ≢ G.Done) × CallsNewest C.Cancel given_back mid new))

  -- one reserve, in the newest generation. The others stay as they are
  pub record ReservesThere (answer : Option ℕ) (old new : Generations T) : Type 0 where
    pub others : new ≡ with_newest old new.newest
    pub reserves : ReservesCell answer old.newest new.newest

  -- A try: the handle follows others, and reserves a cell of its newest generation, which was the newest of the queue
  -- at a look just before. None: no cell was free there, or at a look another generation was the newest
  abbrev pub TriesToReserve : Option ℕ → Generations T → Generations T → Type 0
  TriesToReserve answer old new = (here : Generations T) × Follows old here
      × ((IsAtNewest old here × ReservesThere answer here new)
      ⊎ (IsBehind old here × (answer ≡ None) × (new ≡ here)))

  -- one try, and a second one where the first found none
  abbrev pub ReservesNewest : Option ℕ → Generations T → Generations T → Type 0
  ReservesNewest answer old new = (first : Option ℕ) × (here : Generations T) × TriesToReserve first old here
      × (((answer ≡ first) × (new ≡ here)) ⊎ ((first ≡ None) × TriesToReserve answer here new))

  -- the cell that is reserved in the first of these generations that has one
  abbrev pub reserved_in : List (HeldIn T) → Option ℕ
  reserved_in [] = None
  reserved_in (h ∷ hs) = option_or (cell_in h.handle.cells.reserved) (reserved_in hs)

  -- and in the first of all generations of a handle
  abbrev pub reserved_by : Generations T → Option ℕ
  reserved_by g = option_or (reserved_in g.older) (cell_in g.newest.cells.reserved)

  -- What `reserve` did: nothing where a cell is reserved already
  abbrev pub ReservesOne : Option ℕ → Generations T → Generations T → Type 0
  ReservesOne answer old new = ((cell : ℕ) × (reserved_by old ≡ Some cell) × (answer ≡ Some cell) × (new ≡ old))
      ⊎ ((reserved_by old ≡ None) × ReservesNewest answer old new)

  -- What `receive` did: it released the cell that was received before, if one was, and took one
  abbrev pub ReceivesOldest : Taken CellAt → Generations T → Generations T → Type 0
  ReceivesOldest answer old new = (released : Given (Unit {0})) × (mid : Generations T)
      × CallsOnce C.Release released old mid × TakesBy ReceivesAt ReceivesAtOrSeals answer mid new

  -- What a close of a generation of cells returned: by this handle, and the handles of all other threads
  pub record CellsWereLeft (log : List Change) (handles : List (Generations T)) (h : HeldIn T) (cells : List ℕ) : Type 0
    where
      pub queue : OpenQueue
      pub others : List (Pooled T)
      pub by : IsClosedBy log handles queue h others
      pub tokens : List ℕ
      pub closes : Closes queue (passes_in (others ++ h.handle ∷ [])) tokens
      pub cells_are : cells ≡ cells_in tokens

  -- what such closes returned, one after the other
  abbrev pub LeavesCells : List Change → List (Generations T) → List (HeldIn T) → List (List ℕ) → Type 0
  LeavesCells log handles [] left = left ≡ []
  LeavesCells log handles (h ∷ hs) left = (first : List ℕ) × (rest : List (List ℕ)) × (left ≡ first ∷ rest)
      × CellsWereLeft log handles h first × LeavesCells log handles hs rest

  -- What a close by these handles returned, with this log of the history, as `ClosesAll` says of payloads
  abbrev pub ClosesAllCells : List (Generations T) → List (List ℕ) → List Change → Type 0
  ClosesAllCells handles left log = (last : Generations T) × (others : List (Generations T))
      × (handles ≡ others ++ last ∷ []) × (all : List (HeldIn T)) × Gathers others last all log
      × LeavesCells log others all left × HaveEnded log others all × EachLeftTogether log
