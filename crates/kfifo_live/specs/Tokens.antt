-- A queue of tokens and its passes, as callers see them, and what a call with a token does.
use Rattle.std.specs.Prelude.{◌≡◌, ◌≤◌, ◌*◌, ℕ, zero, suc, List, [], ◌∷◌, Bool, Option, Some, None}
use Rattle.atomic_table.specs.Table.{Me}
use Rattle.kfifo_words.specs.declared.shape.Shape.{Shape}
use Rattle.kfifo_model.specs.declared.calls.Answer.{Answer}
use Rattle.kfifo_model.specs.declared.calls.Answer.TheVariants as A
use Rattle.kfifo_live.specs.declared.payload.opening.TheConstants.{MOST_TOKENS}
use Rattle.kfifo_live.specs.declared.payload.Taken.{Taken}
use Rattle.kfifo_live.specs.declared.payload.Taken.TheVariants as K
use Rattle.kfifo_live.specs.declared.payload.sealing.TakenOrSealed.{TakenOrSealed}
use Rattle.kfifo_live.specs.declared.payload.sealing.TakenOrSealed.TheVariants as S
use Rattle.kfifo_live.specs.declared.payload.token.Published.{Published}
use Rattle.kfifo_live.specs.declared.payload.token.Published.TheVariants as G
use Rattle.kfifo_live.specs.declared.payload.token.Received.{Received}
use Rattle.kfifo_live.specs.declared.payload.token.Received.TheVariants as C
use Rattle.kfifo_live.specs.declared.tokens.sealing.ReceivedOrSealed.{ReceivedOrSealed}
use Rattle.kfifo_live.specs.declared.tokens.sealing.ReceivedOrSealed.TheVariants as R
use Rattle.kfifo_live.specs.declared.tokens.Put.{Put}
use Rattle.kfifo_live.specs.declared.tokens.Put.TheVariants as P
use Rattle.kfifo_live.specs.declared.view.Opening.{Opening}
use Rattle.kfifo_live.specs.declared.view.View.{View}
use Rattle.kfifo_live.specs.Hands.{beside}
use Rattle.kfifo_live.specs.InHand.{HasInHand}
use Rattle.kfifo_live.specs.Pass.{OpenQueue, queue_of}
use Rattle.kfifo_live.specs.Payloads.{PayPassView, TokenView, EnqueuesWith, DequeuesWith, TookWhatWasPut}
use Rattle.kfifo_live.specs.Seals.{SealsAfter, StaysOpen}

-- the opening of a queue of tokens, with so many for each thread: bare, or with payloads
abbrev pub token_opening : Bool → Shape → ℕ → ℕ → Opening
token_opening bare shape threads tokens =
    record { shape = shape; threads = threads; calls = 0; tokens = tokens; bare = bare }

-- so many tokens of a queue, the first of them with this number
abbrev pub tokens_from : OpenQueue → ℕ → ℕ → List TokenView
tokens_from q first zero = []
tokens_from q first (suc count) = record { queue = q; number = first } ∷ tokens_from q (suc first) count

module _ {T : Type 0} where
  -- what is always so of a pass of such a queue: between two calls it has no token
  abbrev pub IsTokenPass : ℕ → Me (Option T) (View T) → Type 0
  IsTokenPass thread me = HasInHand thread [] 0 None me
      × (me.0.opened.threads * me.0.opened.tokens ≤ MOST_TOKENS)

  -- the passes of threads first, first + 1, .., which have seen the empty schedule
  abbrev pub new_token_passes : OpenQueue → ℕ → ℕ → List (PayPassView T)
  new_token_passes q first zero = []
  new_token_passes q first (suc count) =
      record {
        pass = record { table = q.table; opened = q.opened; thread = first; seen = [] };
        tokens = [];
        gifts = [];
      }
      ∷ new_token_passes q (suc first) count

  -- an enqueue of this token, with this in its slot: the pass has no token after it, as before
  abbrev pub Enqueues : ℕ → Option T → ℕ → ℕ → Answer → PayPassView T → PayPassView T → Type 0
  Enqueues token payload start turns answer old new =
      EnqueuesWith token start turns answer payload old new × (new.tokens ≡ old.tokens)

  -- a refused enqueue: its token comes back
  abbrev pub HandsBack : TokenView → Option T → ℕ → ℕ → Answer → TokenView → PayPassView T → PayPassView T → Type 0
  HandsBack token payload start turns answer back old new =
      (back ≡ token) × Enqueues token.number payload start turns answer old new

  -- what `put` did, by what it returns
  abbrev pub Puts : TokenView → ℕ → ℕ → Put T → PayPassView T → PayPassView T → Type 0
  Puts token start turns P.Done old new = Enqueues token.number None start turns A.Done old new
  Puts token start turns (P.Full back) old new = HandsBack token None start turns A.Full back old new
  Puts token start turns (P.Busy back) old new = HandsBack token None start turns A.Busy back old new
  Puts token start turns (P.Worn back) old new = HandsBack token None start turns A.Worn back old new

  -- a refused give: its payload and its token come back
  abbrev pub HandsBoth : TokenView → T → ℕ → ℕ → Answer → T → TokenView → PayPassView T → PayPassView T → Type 0
  HandsBoth token payload start turns answer unsent back old new =
      (unsent ≡ payload) × HandsBack token (Some payload) start turns answer back old new

  -- what `give` did
  abbrev pub GivesWith : TokenView → T → ℕ → ℕ → Published T → PayPassView T → PayPassView T → Type 0
  GivesWith token payload start turns G.Done old new = Enqueues token.number (Some payload) start turns A.Done old new
  GivesWith token payload start turns (G.Full unsent back) old new =
      HandsBoth token payload start turns A.Full unsent back old new
  GivesWith token payload start turns (G.Busy unsent back) old new =
      HandsBoth token payload start turns A.Busy unsent back old new
  GivesWith token payload start turns (G.Worn unsent back) old new =
      HandsBoth token payload start turns A.Worn unsent back old new

  -- a dequeue that comes to this answer: the pass has no token after it, as before
  abbrev pub Dequeues : ℕ → ℕ → Answer → PayPassView T → PayPassView T → Type 0
  Dequeues start turns answer old new = DequeuesWith start turns answer old new × (new.tokens ≡ old.tokens)

  -- A dequeue that comes to a token of this queue, which an enqueue of it put. What comes with it is what that enqueue
  -- had in the slot, which is the last that was given with the token
  abbrev pub GetsWith : ℕ → ℕ → TokenView → Option T → PayPassView T → PayPassView T → Type 0
  GetsWith start turns token payload old new = (token.queue ≡ queue_of old.pass.table old.pass.opened)
      × (beside token.number new.gifts ≡ payload) × TookWhatWasPut token.number payload new
      × Dequeues start turns (A.Got token.number) old new

  -- what `take` did
  abbrev pub TakesToken : ℕ → ℕ → Taken TokenView → PayPassView T → PayPassView T → Type 0
  TakesToken start turns (K.Got token) old new = GetsWith start turns token None old new
  TakesToken start turns K.Empty old new = Dequeues start turns A.Empty old new
  TakesToken start turns K.Busy old new = Dequeues start turns A.Busy old new
  TakesToken start turns K.Worn old new = Dequeues start turns A.Worn old new

  -- what `receive` did
  abbrev pub ReceivesWith : ℕ → ℕ → Received T → PayPassView T → PayPassView T → Type 0
  ReceivesWith start turns (C.Got payload token) old new = GetsWith start turns token (Some payload) old new
  ReceivesWith start turns C.Empty old new = Dequeues start turns A.Empty old new
  ReceivesWith start turns C.Busy old new = Dequeues start turns A.Busy old new
  ReceivesWith start turns C.Worn old new = Dequeues start turns A.Worn old new

  -- a dequeue that found the queue empty, and then a seal, or a try to seal that failed
  abbrev pub FindsNoneAndSeals : ℕ → ℕ → PayPassView T → PayPassView T → Type 0
  FindsNoneAndSeals start turns old new = (taken : PayPassView T) × Dequeues start turns A.Empty old taken
      × SealsAfter taken new

  abbrev pub FindsNone : ℕ → ℕ → PayPassView T → PayPassView T → Type 0
  FindsNone start turns old new = (taken : PayPassView T) × Dequeues start turns A.Empty old taken
      × StaysOpen old taken new

  -- what `take_or_seal` did
  abbrev pub TakesTokenOrSeals : ℕ → ℕ → TakenOrSealed TokenView → PayPassView T → PayPassView T → Type 0
  TakesTokenOrSeals start turns (S.Got token) old new = GetsWith start turns token None old new
  TakesTokenOrSeals start turns S.Empty old new = FindsNone start turns old new
  TakesTokenOrSeals start turns S.Sealed old new = FindsNoneAndSeals start turns old new
  TakesTokenOrSeals start turns S.Busy old new = Dequeues start turns A.Busy old new
  TakesTokenOrSeals start turns S.Worn old new = Dequeues start turns A.Worn old new

  -- what `receive_or_seal` did
  abbrev pub ReceivesOrSeals : ℕ → ℕ → ReceivedOrSealed T → PayPassView T → PayPassView T → Type 0
  ReceivesOrSeals start turns (R.Got payload token) old new = GetsWith start turns token (Some payload) old new
  ReceivesOrSeals start turns R.Empty old new = FindsNone start turns old new
  ReceivesOrSeals start turns R.Sealed old new = FindsNoneAndSeals start turns old new
  ReceivesOrSeals start turns R.Busy old new = Dequeues start turns A.Busy old new
  ReceivesOrSeals start turns R.Worn old new = Dequeues start turns A.Worn old new

-- a pass of such a queue in a handle, and the slots at which its next enqueue and its next dequeue begin
pub record TokenHandleView (T : Type 0) : Type 0 where
  pub pass : PayPassView T
  pub put_start : ℕ
  pub take_start : ℕ
