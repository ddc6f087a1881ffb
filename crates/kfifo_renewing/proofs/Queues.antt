-- Each call of a handle leaves it in its queue.
use Rattle.std.proofs.Common.{◌≡◌, ◌<◌, ◌∙◌, ℕ, List, ap, get_or, inl, inr, length, map, sym}
use Rattle.std.proofs.lemmas.List.Elements.{All-map, All-weaker}
use Rattle.std.specs.Prelude.{Option}
use Rattle.kfifo_live.specs.declared.payload.Given.{Given}
use Rattle.kfifo_live.specs.declared.payload.Given.TheVariants as G
use Rattle.kfifo_live.specs.declared.payload.Taken.{Taken}
use Rattle.kfifo_live.specs.declared.payload.sealing.TakenOrSealed.{TakenOrSealed}
use Rattle.kfifo_live.specs.declared.view.Opening.{Opening}
use Rattle.kfifo_pool.specs.Pooled.{Pooled}
use Rattle.kfifo_renewing.specs.Cells.{CallsNewest, CallsOnce, PublishesNext, ReceivesOldest, ReservesNewest}
use Rattle.kfifo_renewing.specs.Cells.{ReservesOne, TriesToReserve}
use Rattle.kfifo_renewing.specs.Memory.{ReceivesAt, ReceivesAtOrSeals}
use Rattle.kfifo_renewing.specs.Renewing.{AreOfOneQueue, Follows, Generations, GivesToNewest, GoesOn}
use Rattle.kfifo_renewing.specs.Renewing.{HasOne, HaveOne, IsOfSameQueue, TakesBy, TriesToGive}
use Rattle.kfifo_renewing.specs.declared.cells.CellCall.{CellCall}
use Rattle.kfifo_renewing.specs.declared.cells.CellCall.TheVariants as C
use Rattle.kfifo_renewing.specs.declared.memory.CellAt.{CellAt}

module _ {T : Type 0} where
  -- it is the same handle, or the same up to what it has joined, or twice so
  same_queue : (old new : Generations T) → new ≡ old → IsOfSameQueue old new
  same_queue old new same = record { opened = ap (λ g. g.opened) same; book = ap (λ g. g.book) same }

  pub then_queue : (old here new : Generations T) → IsOfSameQueue old here → IsOfSameQueue here new
      → IsOfSameQueue old new
  then_queue old here new first next =
      record { opened = next.opened ∙ first.opened; book = next.book ∙ first.book }

  pub follows_queue : (old new : Generations T) → Follows old new → IsOfSameQueue old new
  follows_queue old new follows = record { opened = follows.later.opened; book = follows.later.book }

  tries_queue : (payload : T) (answer : Given T) (old new : Generations T) → TriesToGive payload answer old new
      → IsOfSameQueue old new
  tries_queue payload answer old new (here, follows, inl (newest, gives)) =
      then_queue old here new (follows_queue old here follows)
      (record { opened = ap (λ g. g.opened) gives.others; book = ap (λ g. g.book) gives.others })
  tries_queue payload answer old new (here, follows, inr (behind, busy, same)) =
      then_queue old here new (follows_queue old here follows) (same_queue here new same)

  goes_queue : (first answer : Given T) (old new : Generations T) → GoesOn first answer old new
      → IsOfSameQueue old new
  goes_queue G.Done answer old new stops = same_queue old new stops.1
  goes_queue (G.Busy back) answer old new stops = same_queue old new stops.1
  goes_queue (G.Worn back) answer old new again = tries_queue back again.tried old new again.tries
  goes_queue (G.Full back) answer old new (inl again) = tries_queue back again.tried old new again.tries
  goes_queue (G.Full back) answer old new (inr stops) = same_queue old new stops.1
  goes_queue (G.NoToken back) answer old new (inl again) = tries_queue back again.tried old new again.tries
  goes_queue (G.NoToken back) answer old new (inr stops) = same_queue old new stops.1

  pub gives_queue : (payload : T) (answer : Given T) (old new : Generations T) → GivesToNewest payload answer old new
      → IsOfSameQueue old new
  gives_queue payload answer old new (first, here, tries, goes) =
      then_queue old here new (tries_queue payload first old here tries) (goes_queue first answer here new goes)

  -- the handles of a queue that was opened
  pub opened_queue : (o : Opening) (hs : List (Generations T)) → HaveOne o hs → AreOfOneQueue hs
  opened_queue o hs one =
      let P : Generations T → Type 0 = λ g. (g.opened ≡ o) × (g.book ≡ one.1) in
      (o, one.1, All-weaker (HasOne one.0 one.1) P (λ g is. (is.0 ∙ one.2, is.1)) hs one.3)

  -- each of these came back from a thread
  pub back_queue : {W : Type 0} (handle : W → Generations T) (hs : List (Generations T)) (ws : List W)
      → AreOfOneQueue hs
      → ((i : ℕ) (d : W) → i < length ws → (i < length hs) × ((old : Generations T)
      × ((e : Generations T) → get_or hs i e ≡ old) × IsOfSameQueue old (handle (get_or ws i d))))
      → AreOfOneQueue (map handle ws)
  back_queue {W} handle hs ws of came =
      let P : Generations T → Type 0 = λ g. (g.opened ≡ of.0) × (g.book ≡ of.1) in (
        of.0,
        of.1,
        All-map P handle ws (λ i d below.
            let at = came i d below in let was = of.2 i at.1.0 at.0 in
            let is = at.1.1 at.1.0 in (
              at.1.2.opened ∙ ap (λ g. g.opened) (sym is) ∙ was.0,
              at.1.2.book ∙ ap (λ g. g.book) (sym is) ∙ was.1,
            )),
      )

module _ {T G : Type 0} (takes : Taken G → Pooled T → Pooled T → Type 0)
    (seals : TakenOrSealed G → Pooled T → Pooled T → Type 0) where
  pub takes_queue : (answer : Taken G) (old new : Generations T) → TakesBy takes seals answer old new
      → IsOfSameQueue old new
  takes_queue answer old new (here, follows, inl (newest, all, oldest)) =
      then_queue old here new (follows_queue old here follows)
      (record { opened = oldest.later.opened; book = oldest.later.book })
  takes_queue answer old new (here, follows, inr (behind, busy, same)) =
      then_queue old here new (follows_queue old here follows) (same_queue here new same)

module _ {T : Type 0} where
  pub calls_queue : (call : CellCall) (answer : Given (Unit {0})) (old new : Generations T)
      → CallsOnce call answer old new → IsOfSameQueue old new
  calls_queue call answer old new calls = record { opened = calls.opened; book = calls.book }

  reserves_queue : (answer : Option ℕ) (old new : Generations T) → TriesToReserve answer old new
      → IsOfSameQueue old new
  reserves_queue answer old new (here, follows, inl (newest, there)) =
      then_queue old here new (follows_queue old here follows)
      (record { opened = ap (λ g. g.opened) there.others; book = ap (λ g. g.book) there.others })
  reserves_queue answer old new (here, follows, inr (behind, none, same)) =
      then_queue old here new (follows_queue old here follows) (same_queue here new same)

  pub reserved_next_queue : (answer : Option ℕ) (old new : Generations T) → ReservesNewest answer old new
      → IsOfSameQueue old new
  reserved_next_queue answer old new (first, here, tries, inl (is, same)) =
      then_queue old here new (reserves_queue first old here tries) (same_queue here new same)
  reserved_next_queue answer old new (first, here, tries, inr (is, again)) =
      then_queue old here new (reserves_queue first old here tries) (reserves_queue answer here new again)

  pub reserved_queue : (answer : Option ℕ) (old new : Generations T) → ReservesOne answer old new
      → IsOfSameQueue old new
  reserved_queue answer old new (inl (cell, has, is, same)) = same_queue old new same
  reserved_queue answer old new (inr (none, newest)) = reserved_next_queue answer old new newest

  newest_queue : (call : CellCall) (answer : Given (Unit {0})) (old new : Generations T)
      → CallsNewest call answer old new → IsOfSameQueue old new
  newest_queue call answer old new calls =
      record { opened = ap (λ g. g.opened) calls.others; book = ap (λ g. g.book) calls.others }

  pub published_next_queue : (answer : Given (Unit {0})) (old new : Generations T) → PublishesNext answer old new
      → IsOfSameQueue old new
  published_next_queue answer old new (mid, calls, back, inl (done, cancels)) =
      then_queue old mid new (newest_queue C.Publish answer old mid calls)
      (calls_queue C.Cancel back mid new cancels)
  published_next_queue answer old new (mid, calls, back, inr (refused, cancels)) =
      then_queue old mid new (newest_queue C.Publish answer old mid calls)
      (newest_queue C.Cancel back mid new cancels)

  pub received_queue : (answer : Taken CellAt) (old new : Generations T) → ReceivesOldest answer old new
      → IsOfSameQueue old new
  received_queue answer old new (released, mid, calls, takes) =
      then_queue old mid new (calls_queue C.Release released old mid calls)
      (takes_queue ReceivesAt ReceivesAtOrSeals answer mid new takes)
