-- A queue of tokens with a pool of free ones, and its handles, as callers see them.
use Rattle.std.specs.Prelude.{◌≡◌, ◌<◌, ◌≤◌, ◌⊎◌, ℕ, List, [], ◌∷◌, ◌++◌, All, IfSome, length, map, Option, Some}
use Rattle.std.specs.Prelude.{None}
use Rattle.kfifo_live.specs.declared.handle.TheConstants.{MAX_TURNS}
use Rattle.kfifo_live.specs.declared.payload.Given.{Given}
use Rattle.kfifo_live.specs.declared.payload.Given.TheVariants as G
use Rattle.kfifo_live.specs.declared.payload.Taken.{Taken}
use Rattle.kfifo_live.specs.declared.payload.Taken.TheVariants as K
use Rattle.kfifo_live.specs.declared.payload.sealing.TakenOrSealed.{TakenOrSealed}
use Rattle.kfifo_live.specs.declared.payload.sealing.TakenOrSealed.TheVariants as S
use Rattle.kfifo_live.specs.declared.payload.token.Published.{Published}
use Rattle.kfifo_live.specs.declared.payload.token.Published.TheVariants as P
use Rattle.kfifo_live.specs.declared.payload.token.Received.{Received}
use Rattle.kfifo_live.specs.declared.payload.token.Received.TheVariants as C
use Rattle.kfifo_live.specs.declared.tokens.sealing.ReceivedOrSealed.{ReceivedOrSealed}
use Rattle.kfifo_live.specs.declared.tokens.sealing.ReceivedOrSealed.TheVariants as R
use Rattle.kfifo_live.specs.Handles.{first_of, further}
use Rattle.kfifo_live.specs.Calls.{IsDisturbed}
use Rattle.kfifo_live.specs.Pass.{OpenQueue, PassKeepsPromise, PassView, queue_of}
use Rattle.kfifo_live.specs.Payloads.{PayPassView, TokenView}
use Rattle.kfifo_live.specs.Tokens.{GivesWith, ReceivesOrSeals, ReceivesWith, TokenHandleView, new_token_passes}
use Rattle.kfifo_pool.specs.declared.pool.TheConstants.{BATCH}

-- the tokens are of this queue
abbrev pub AreOf : OpenQueue → List TokenView → Type 0
AreOf queue tokens = All (λ (t : TokenView). t.queue ≡ queue) tokens

-- the list that lies in a place, or none
abbrev pub in_list : Option (List TokenView) → List TokenView
in_list None = []
in_list (Some tokens) = tokens

-- the free tokens of a handle: those that it put there last, and the others, in both the next one last
pub record Free : Type 0 where
  pub recent : List TokenView
  pub others : List TokenView

abbrev pub all_free : Free → List TokenView
all_free free = free.others ++ free.recent

-- The next free token is taken. Where there is none, it is one of a batch of the pool, if one was found there, and the
-- others of that batch are then free
abbrev pub TakesOne : Option TokenView → List TokenView → List TokenView → Type 0
TakesOne None old new = (old ≡ []) × (new ≡ [])
TakesOne (Some token) old new = (old ≡ new ++ token ∷ []) ⊎ (old ≡ [])

-- the last of the recent ones is taken, if there is one
abbrev pub TakesRecent : Option TokenView → Free → Free → Type 0
TakesRecent None old new = (old.recent ≡ []) × (new ≡ old)
TakesRecent (Some token) old new = all_free old ≡ all_free new ++ token ∷ []

-- A handle that has more than a batch may lay some down that it would take last, in exchange for a list of the pool, in
-- which none should be
pub record LaysOthers (old new : List TokenView) : Type 0 where
  pub laid : List TokenView
  pub kept : List TokenView
  pub found : List TokenView
  pub old_are : old ≡ laid ++ kept
  pub new_are : new ≡ found ++ kept
  pub few : length old ≤ BATCH → new ≡ old

-- a token becomes the next free one, or is lost
abbrev pub Adds : TokenView → List TokenView → List TokenView → Type 0
Adds token old new = (new ≡ old ++ token ∷ []) ⊎ (new ≡ old)

-- A token is put among the free ones. It may be lost only where the handle has a batch or more
pub record KeepsOne (token : TokenView) (old new : List TokenView) : Type 0 where
  pub kept : List TokenView
  pub lays : LaysOthers old kept
  pub adds : Adds token kept new
  pub few : length old < BATCH → new ≡ old ++ token ∷ []

module _ {T : Type 0} where
  -- the pass of a handle, without payloads, and its queue
  abbrev pub pass_of : TokenHandleView T → PassView
  pass_of held = held.pass.pass

  abbrev pub queue_in : TokenHandleView T → OpenQueue
  queue_in held = queue_of (pass_of held).table (pass_of held).opened

-- the token of the cell that is reserved, and that of the one that was received, if they are
pub record CellsInHand : Type 0 where
  pub reserved : Option TokenView
  pub received : Option TokenView

abbrev pub no_cells : CellsInHand
no_cells = record { reserved = None; received = None }

-- they are of this queue
abbrev pub AreCellsOf : OpenQueue → CellsInHand → Type 0
AreCellsOf queue cells = IfSome cells.reserved (λ (t : TokenView). t.queue ≡ queue)
    × IfSome cells.received (λ (t : TokenView). t.queue ≡ queue)

-- a handle of a queue with a pool: its pass and starts, its free tokens, the next one last, and its cells
pub record Pooled (T : Type 0) : Type 0 where
  pub held : TokenHandleView T
  pub free : List TokenView
  pub cells : CellsInHand

module _ {T : Type 0} where
  -- A give was made with a token that was reserved for it, one of the free ones or of the pool
  pub record GivesReserved (payload : T) (answer : Published T) (left : List TokenView) (old new : Pooled T) : Type 0
    where
      pub token : TokenView
      pub reserves : TakesOne (Some token) old.free left
      pub gives : GivesWith token payload old.held.put_start MAX_TURNS answer old.held.pass new.held.pass
      pub starts : (new.held.put_start ≡ further (pass_of old.held) old.held.put_start)
          × (new.held.take_start ≡ old.held.take_start)
      pub promise : PassKeepsPromise (pass_of new.held)

  -- it was refused: the token that came back is free again
  abbrev pub Refuses : T → Published T → TokenView → Pooled T → Pooled T → Type 0
  Refuses payload answer back old new = (left : List TokenView) × GivesReserved payload answer left old new
      × KeepsOne back left new.free

  -- What `give` did, by what it returns. The payload that comes back is the one that was given
  abbrev pub GivesOne : T → Given T → Pooled T → Pooled T → Type 0
  GivesOne payload G.Done old new = GivesReserved payload P.Done new.free old new
  GivesOne payload (G.Full back) old new = (token : TokenView) × Refuses payload (P.Full back token) token old new
  GivesOne payload (G.Busy back) old new = (token : TokenView) × Refuses payload (P.Busy back token) token old new
      × IsDisturbed (pass_of old.held) (pass_of new.held)
  GivesOne payload (G.Worn back) old new = (token : TokenView) × Refuses payload (P.Worn back token) token old new
  GivesOne payload (G.NoToken back) old new = (back ≡ payload) × (old.free ≡ []) × (new ≡ old)

  -- the receive came to this answer, and the free tokens are as before
  abbrev pub ReceivesNone : Received T → Pooled T → Pooled T → Type 0
  ReceivesNone answer old new = ReceivesWith old.held.take_start MAX_TURNS answer old.held.pass new.held.pass
      × (new.free ≡ old.free)

  -- What `receive` did, by what it returns: the token that came with a payload is free again
  abbrev pub ReceivesOne : Taken T → Pooled T → Pooled T → Type 0
  ReceivesOne (K.Got payload) old new = (token : TokenView)
      × ReceivesWith old.held.take_start MAX_TURNS (C.Got payload token) old.held.pass new.held.pass
      × KeepsOne token old.free new.free
  ReceivesOne K.Empty old new = ReceivesNone C.Empty old new
  ReceivesOne K.Busy old new = ReceivesNone C.Busy old new
  ReceivesOne K.Worn old new = ReceivesNone C.Worn old new

  -- and of `receive_or_seal`
  abbrev pub SealsOrNone : ReceivedOrSealed T → Pooled T → Pooled T → Type 0
  SealsOrNone answer old new = ReceivesOrSeals old.held.take_start MAX_TURNS answer old.held.pass new.held.pass
      × (new.free ≡ old.free)

  abbrev pub ReceivesOneOrSeals : TakenOrSealed T → Pooled T → Pooled T → Type 0
  ReceivesOneOrSeals (S.Got payload) old new = (token : TokenView)
      × ReceivesOrSeals old.held.take_start MAX_TURNS (R.Got payload token) old.held.pass new.held.pass
      × KeepsOne token old.free new.free
  ReceivesOneOrSeals S.Empty old new = SealsOrNone R.Empty old new
  ReceivesOneOrSeals S.Sealed old new = SealsOrNone R.Sealed old new
  ReceivesOneOrSeals S.Busy old new = SealsOrNone R.Busy old new
  ReceivesOneOrSeals S.Worn old new = SealsOrNone R.Worn old new

-- the passes of these handles, without payloads
abbrev pub passes_in : {T : Type 0} → List (Pooled T) → List PassView
passes_in handles = map (λ p. p.pass) (map (λ h. h.held.pass) handles)

-- the handles of a queue that was just opened: each has a pass that has seen nothing, and no free token
abbrev pub new_handle : {T : Type 0} → PayPassView T → Pooled T
new_handle p = record {
  held = record { pass = p; put_start = first_of p.pass; take_start = first_of p.pass };
  free = [];
  cells = no_cells;
}

abbrev pub new_handles : {T : Type 0} → OpenQueue → ℕ → List (Pooled T)
new_handles q threads = map new_handle (new_token_passes q 0 threads)
