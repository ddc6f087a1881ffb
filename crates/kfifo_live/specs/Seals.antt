-- What a pass that seals its queue came to.
use Rattle.std.specs.Prelude.{◌≡◌, ◌≢◌, ◌⊎◌, ℕ, List, [], ◌++◌, Some}
use Rattle.kfifo_words.specs.Words.{head_of, tail_of}
use Rattle.kfifo_model.specs.declared.calls.Answer.{Answer}
use Rattle.kfifo_machine.specs.declared.event.Begin.TheVariants.{Dequeue}
use Rattle.kfifo_machine.specs.declared.event.Event.{Event}
use Rattle.kfifo_machine.specs.Machine.{World, word_at}
use Rattle.kfifo_machine.specs.Runs.{Begins, own}
use Rattle.kfifo_linear.specs.Seals.{IsSealed, AllSeal}
use Rattle.kfifo_live.specs.declared.payload.Taken.TheVariants as K
use Rattle.kfifo_live.specs.declared.payload.sealing.TakenOrSealed.{TakenOrSealed}
use Rattle.kfifo_live.specs.declared.payload.sealing.TakenOrSealed.TheVariants as S
use Rattle.kfifo_live.specs.declared.view.Opening.{Opening}
use Rattle.kfifo_live.specs.Schedule.{world_after}
use Rattle.kfifo_live.specs.Calls.{MakesCall}
use Rattle.kfifo_live.specs.Pass.{PassView, Finds, StartsWith}
use Rattle.kfifo_live.specs.Payloads.{PayPassView, GivesOn, TakesOut}

-- after a beginning of what was seen, which is a schedule, the ends word was this
pub record WasSeen (o : Opening) (ends : ℕ) (seen : List Event) : Type 0 where
  pub before : List Event
  pub rest : List Event
  pub world : World
  pub split : seen ≡ before ++ rest
  pub reached : world_after o before ≡ Some world
  pub word_is : ends ≡ word_at world 0
  pub now : World
  pub seen_at : world_after o seen ≡ Some now

-- after events of others the ends word was this, then came a seal, or none where it was sealed before, and now the ends
-- are sealed
pub record SealsFrom (o : Opening) (thread ends : ℕ) (seen all : List Event) : Type 0 where
  pub rest : List Event
  pub seals : List Event
  pub here : World
  pub end : World
  pub others : own thread rest ≡ []
  pub split : all ≡ (seen ++ rest) ++ seals
  pub all_seal : AllSeal seals
  pub reached : world_after o (seen ++ rest) ≡ Some here
  pub word_is : word_at here 0 ≡ ends
  pub ends_at : world_after o all ≡ Some end
  pub sealed : IsSealed o.shape (word_at end 0)

-- events of others alone came, and these ends could not be sealed: head and tail are not in one segment, or they moved
pub record FailsToSeal (o : Opening) (thread ends : ℕ) (seen all : List Event) : Type 0 where
  pub others : Begins thread seen all
  pub why : (head_of ends ≢ tail_of ends)
      ⊎ ((here : World) × (world_after o all ≡ Some here) × (word_at here 0 ≢ ends))

-- The pass looked at the ends, made one dequeue with this answer, and has then seen events of others alone
pub record Dequeues (start turns : ℕ) (answer : Answer) (old new : PassView) : Type 0 where
  pub ends : ℕ
  pub looked : PassView
  pub made : PassView
  pub looks : Finds old looked 0 ends
  pub call : MakesCall (Dequeue start turns) answer looked made
  pub later : Begins old.thread made.seen new.seen

module _ {T : Type 0} where
  -- the pass keeps its tokens, and has the gifts of a longer schedule
  abbrev pub KeepsTokens : PayPassView T → PayPassView T → Type 0
  KeepsTokens old new = (new.tokens ≡ old.tokens) × GivesOn old new

  -- after a take the pass sealed the ends
  pub record SealsAfter (taken new : PayPassView T) : Type 0 where
    pub ends : ℕ
    pub seal : SealsFrom taken.pass.opened taken.pass.thread ends taken.pass.seen new.pass.seen
    pub keeps : KeepsTokens taken new

  -- after a take the pass could not seal the ends that it had found before the take
  pub record StaysOpen (old taken new : PayPassView T) : Type 0 where
    pub ends : ℕ
    pub looked : PassView
    pub looks : Finds old.pass looked 0 ends
    pub before : StartsWith taken.pass.seen looked.seen
    pub fails : FailsToSeal taken.pass.opened taken.pass.thread ends taken.pass.seen new.pass.seen
    pub keeps : KeepsTokens taken new

  -- What `take_or_seal` did, by what it returns: a take, and after one that came to Empty a try to seal
  abbrev pub TakesOrSeals : ℕ → ℕ → TakenOrSealed T → PayPassView T → PayPassView T → Type 0
  TakesOrSeals start turns (S.Got payload) old new = TakesOut start turns (K.Got payload) old new
  TakesOrSeals start turns S.Empty old new = (taken : PayPassView T) × TakesOut start turns K.Empty old taken
      × StaysOpen old taken new
  TakesOrSeals start turns S.Sealed old new = (taken : PayPassView T) × TakesOut start turns K.Empty old taken
      × SealsAfter taken new
  TakesOrSeals start turns S.Busy old new = TakesOut start turns K.Busy old new
  TakesOrSeals start turns S.Worn old new = TakesOut start turns K.Worn old new
