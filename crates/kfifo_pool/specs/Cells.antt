-- What the calls of a handle do that keeps its cells itself. A cell is that of a token: token x has cell x - 1. Who has
-- the token has the cell.
use Rattle.std.specs.Prelude.{◌≡◌, ◌-◌, ℕ, Bool, false, true, Option, Some, None}
use Rattle.kfifo_live.specs.declared.handle.TheConstants.{MAX_TURNS}
use Rattle.kfifo_live.specs.declared.payload.Given.{Given}
use Rattle.kfifo_live.specs.declared.payload.Given.TheVariants as G
use Rattle.kfifo_live.specs.declared.payload.Taken.{Taken}
use Rattle.kfifo_live.specs.declared.payload.Taken.TheVariants as K
use Rattle.kfifo_live.specs.declared.payload.sealing.TakenOrSealed.{TakenOrSealed}
use Rattle.kfifo_live.specs.declared.payload.sealing.TakenOrSealed.TheVariants as S
use Rattle.kfifo_live.specs.declared.tokens.Put.{Put}
use Rattle.kfifo_live.specs.declared.tokens.Put.TheVariants as P
use Rattle.kfifo_live.specs.Calls.{IsDisturbed}
use Rattle.kfifo_live.specs.Handles.{further}
use Rattle.kfifo_live.specs.Pass.{IsSamePass, PassKeepsPromise}
use Rattle.kfifo_live.specs.Payloads.{TokenView}
use Rattle.kfifo_live.specs.Tokens.{Puts, TakesToken, TakesTokenOrSeals, TokenHandleView}
use Rattle.kfifo_pool.specs.Pooled.{CellsInHand, KeepsOne, Pooled, TakesOne, pass_of}

-- the cell of a token
abbrev pub cell_of : TokenView → ℕ
cell_of token = token.number - 1

abbrev pub cell_in : Option TokenView → Option ℕ
cell_in None = None
cell_in (Some token) = Some (cell_of token)

-- what a take says of the cell, and the cell's token
abbrev pub cells_of : Taken TokenView → Taken ℕ
cells_of (K.Got token) = K.Got (cell_of token)
cells_of K.Empty = K.Empty
cells_of K.Busy = K.Busy
cells_of K.Worn = K.Worn

abbrev pub token_taken : Taken TokenView → Option TokenView
token_taken (K.Got token) = Some token
token_taken K.Empty = None
token_taken K.Busy = None
token_taken K.Worn = None

-- and what a take says that may seal
abbrev pub cells_or_sealed : TakenOrSealed TokenView → TakenOrSealed ℕ
cells_or_sealed (S.Got token) = S.Got (cell_of token)
cells_or_sealed S.Empty = S.Empty
cells_or_sealed S.Sealed = S.Sealed
cells_or_sealed S.Busy = S.Busy
cells_or_sealed S.Worn = S.Worn

abbrev pub token_or_sealed : TakenOrSealed TokenView → Option TokenView
token_or_sealed (S.Got token) = Some token
token_or_sealed S.Empty = None
token_or_sealed S.Sealed = None
token_or_sealed S.Busy = None
token_or_sealed S.Worn = None

-- the same cells, but for the one that is reserved, or the one that was received
abbrev pub with_reserved : Option TokenView → CellsInHand → CellsInHand
with_reserved token cells = record { reserved = token; received = cells.received }

abbrev pub with_received : Option TokenView → CellsInHand → CellsInHand
with_received token cells = record { reserved = cells.reserved; received = token }

module _ {T : Type 0} where
  -- A `reserve` where no cell was reserved takes a free token, if there is one. Where a cell was reserved, it is that
  -- one
  abbrev pub Reserved : Option TokenView → Pooled T → Pooled T → Type 0
  Reserved None old new = TakesOne new.cells.reserved old.free new.free
  Reserved (Some token) old new = (new.cells.reserved ≡ Some token) × (new.free ≡ old.free)

  -- what `reserve_cell` did
  pub record ReservesCell (answer : Option ℕ) (old new : Pooled T) : Type 0 where
    pub cell : answer ≡ cell_in new.cells.reserved
    pub reserves : Reserved old.cells.reserved old new
    pub same_held : new.held ≡ old.held
    pub same_received : new.cells.received ≡ old.cells.received

  -- a put of this token came to this
  pub record PutsCell (token : TokenView) (answer : Put T) (old new : TokenHandleView T) : Type 0 where
    pub same : IsSamePass (pass_of old) (pass_of new)
    pub puts : Puts token old.put_start MAX_TURNS answer old.pass new.pass
    pub starts : (new.put_start ≡ further (pass_of old) old.put_start) × (new.take_start ≡ old.take_start)
    pub promise : PassKeepsPromise (pass_of new)

  -- the cell that was reserved was put into the queue, and then this one is reserved, or none
  abbrev pub Publishes : Put T → Option TokenView → Pooled T → Pooled T → Type 0
  Publishes answer left old new = (token : TokenView) × (old.cells.reserved ≡ Some token)
      × PutsCell token answer old.held new.held × (new.free ≡ old.free) × (new.cells ≡ with_reserved left old.cells)

  -- What `publish_cell` did, by what it returns: the token of a refused put is reserved again. NoToken: no cell is
  -- reserved, and nothing is done
  abbrev pub PublishesCell : Given (Unit {0}) → Pooled T → Pooled T → Type 0
  PublishesCell G.Done old new = Publishes P.Done None old new
  PublishesCell (G.Full unit) old new = (back : TokenView) × Publishes (P.Full back) (Some back) old new
  PublishesCell (G.Busy unit) old new = (back : TokenView) × Publishes (P.Busy back) (Some back) old new
      × IsDisturbed (pass_of old.held) (pass_of new.held)
  PublishesCell (G.Worn unit) old new = (back : TokenView) × Publishes (P.Worn back) (Some back) old new
  PublishesCell (G.NoToken unit) old new = (old.cells.reserved ≡ None) × (new ≡ old)

  -- this token is a free one of the handle again, and its cells are then these
  abbrev pub Frees : TokenView → CellsInHand → Pooled T → Pooled T → Type 0
  Frees token left old new = KeepsOne token old.free new.free × (new.held ≡ old.held) × (new.cells ≡ left)

  -- what `cancel_cell` did: nothing where no cell is reserved
  abbrev pub CancelsCell : Bool → Pooled T → Pooled T → Type 0
  CancelsCell false old new = (old.cells.reserved ≡ None) × (new ≡ old)
  CancelsCell true old new = (token : TokenView) × (old.cells.reserved ≡ Some token)
      × Frees token (with_reserved None old.cells) old new

  -- what `release_cell` did: nothing where no cell was received, or it was released
  abbrev pub ReleasesCell : Bool → Pooled T → Pooled T → Type 0
  ReleasesCell false old new = (old.cells.received ≡ None) × (new ≡ old)
  ReleasesCell true old new = (token : TokenView) × (old.cells.received ≡ Some token)
      × Frees token (with_received None old.cells) old new

  -- a take came to this answer
  pub record TakesCell (answer : Taken ℕ) (old new : Pooled T) : Type 0 where
    pub taken : Taken TokenView
    pub answer_is : answer ≡ cells_of taken
    pub takes : TakesToken old.held.take_start MAX_TURNS taken old.held.pass new.held.pass
    pub cells : new.cells ≡ with_received (token_taken taken) old.cells
    pub same_free : new.free ≡ old.free

  -- What `receive_cell` did: it released the cell that was received before, if one was, and took one
  pub record ReceivesCell (answer : Taken ℕ) (old new : Pooled T) : Type 0 where
    pub released : Bool
    pub between : Pooled T
    pub releases : ReleasesCell released old between
    pub takes : TakesCell answer between new

  -- a take that may seal came to this answer
  pub record TakesCellOrSeals (answer : TakenOrSealed ℕ) (old new : Pooled T) : Type 0 where
    pub taken : TakenOrSealed TokenView
    pub answer_is : answer ≡ cells_or_sealed taken
    pub takes : TakesTokenOrSeals old.held.take_start MAX_TURNS taken old.held.pass new.held.pass
    pub cells : new.cells ≡ with_received (token_or_sealed taken) old.cells
    pub same_free : new.free ≡ old.free

  -- what `receive_cell_or_seal` did
  pub record ReceivesCellOrSeals (answer : TakenOrSealed ℕ) (old new : Pooled T) : Type 0 where
    pub released : Bool
    pub between : Pooled T
    pub releases : ReleasesCell released old between
    pub takes : TakesCellOrSeals answer between new
