-- Calls with cells, from what the call in one generation did.
use Rattle.std.proofs.Common.{◌≡◌, ℕ, Bool, MatchBool, Option, false, inl, inr, true}
use Rattle.kfifo_live.specs.declared.payload.Given.{Given}
use Rattle.kfifo_live.specs.declared.payload.Given.TheVariants as G
use Rattle.kfifo_pool.specs.Cells.{CancelsCell, ReleasesCell}
use Rattle.kfifo_pool.specs.Pooled.{Pooled}
use Rattle.kfifo_renewing.specs.declared.cells.CellCall.TheVariants as C
use Rattle.kfifo_renewing.specs.Cells.{CallsCell, TriesToReserve}
use Rattle.kfifo_renewing.specs.Renewing.{Follows, Generations}
use Rattle.kfifo_renewing.proofs.Following.{both-before, follows-trans}

module _ {T : Type 0} where
  pub cancelled : (did : Bool) (answer : Given (Unit {0})) (old new : Pooled T)
      → MatchBool did (answer ≡ G.Done) (answer ≡ G.NoToken tt) → CancelsCell did old new
      → CallsCell C.Cancel answer old new
  cancelled true answer old new is cancels = inl (is, cancels)
  cancelled false answer old new is cancels = inr (is, cancels)

  pub released : (did : Bool) (answer : Given (Unit {0})) (old new : Pooled T)
      → MatchBool did (answer ≡ G.Done) (answer ≡ G.NoToken tt) → ReleasesCell did old new
      → CallsCell C.Release answer old new
  released true answer old new is releases = inl (is, releases)
  released false answer old new is releases = inr (is, releases)

  -- a try by a handle that had left what is gone before it
  pub reserves-after : (answer : Option ℕ) (old mid new : Generations T) → Follows old mid
      → TriesToReserve answer mid new
      → TriesToReserve answer old new
  reserves-after answer old mid new before (here, follows, inl reserves) = (
    here,
    follows-trans old mid here before follows,
    inl (both-before old mid here before.later.seen true reserves.0, reserves.1),
  )
  reserves-after answer old mid new before (here, follows, inr none) = (
    here,
    follows-trans old mid here before follows,
    inr (both-before old mid here before.later.seen false none.0, none.1, none.2),
  )
