-- Gives, and what they go on with.
use Rattle.std.proofs.Common.{◌≡◌, ℕ, List, inl, inr, refl, subst}
use Rattle.kfifo_live.specs.declared.payload.Given.{Given}
use Rattle.kfifo_live.specs.declared.payload.Given.TheVariants as G
use Rattle.kfifo_pool.specs.Pooled.{GivesOne, Pooled}
use Rattle.kfifo_live.specs.Pass.{IsSamePass}
use Rattle.kfifo_renewing.specs.declared.change.Change.{Change}
use Rattle.kfifo_renewing.specs.Renewing.{Follows, Generations, GivesToNewest, TriesAgain, TriesToGive}
use Rattle.kfifo_renewing.specs.Renewing.{with_newest, with_seen}
use Rattle.kfifo_renewing.proofs.Following.{Looked, both-before, follows-trans, looked-follows, looked-newest}
use Rattle.std.proofs.Common.{◌≢◌, ◌⊎◌, true, false}

module _ {T : Type 0} where
  -- a give after a look that found no later generation
  pub gave-here : (payload : T) (answer : Given T) (g : Generations T) (found : ℕ) (log : List Change) (h : Pooled T)
      → Looked found log g → found ≡ 0 → IsSamePass g.newest.held.pass.pass h.held.pass.pass
      → GivesOne payload answer g.newest h
      → TriesToGive payload answer g (with_newest (with_seen g log) h)
  gave-here payload answer g found log h looked none same gives = (
    with_seen g log,
    looked-follows found log g looked,
    inl (looked-newest found log g looked none, record { others = refl; same = same; gives = gives }),
  )

  -- a try by a handle that had looked before it
  pub tries-after : (payload : T) (answer : Given T) (old mid new : Generations T) → Follows old mid
      → TriesToGive payload answer mid new
      → TriesToGive payload answer old new
  tries-after payload answer old mid new before (here, follows, inl gives) = (
    here,
    follows-trans old mid here before follows,
    inl (both-before old mid here before.later.seen true gives.0, gives.1),
  )
  tries-after payload answer old mid new before (here, follows, inr busy) = (
    here,
    follows-trans old mid here before follows,
    inr (both-before old mid here before.later.seen false busy.0, busy.1, busy.2),
  )

  -- a second try by a handle that had left what is gone before it
  pub again-after : (payload : T) (answer : Given T) (old mid new : Generations T) → Follows old mid
      → mid.number ≡ old.number
      → TriesAgain payload answer mid new → TriesAgain payload answer old new
  again-after payload answer old mid new before same again = record {
    tried = again.tried;
    tries = tries-after payload again.tried old mid new before again.tries;
    then = subst
        (λ (n : ℕ). ((answer ≡ again.tried) × (answer ≡ G.Worn payload → new.number ≡ n))
        ⊎ ((again.tried ≡ G.Worn payload) × (answer ≡ G.Busy payload) × (new.number ≢ n)))
        same again.then;
  }

  pub gives-after : (payload : T) (answer : Given T) (old mid new : Generations T) → Follows old mid
      → GivesToNewest payload answer mid new
      → GivesToNewest payload answer old new
  gives-after payload answer old mid new before (first, here, tries, goes) =
      (first, here, tries-after payload first old mid here before tries, goes)
