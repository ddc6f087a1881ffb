-- What a call of the handle did, from what the free tokens and the pass did.
use Rattle.std.proofs.Common.{◌≡◌, List, Some, ap, subst, sym, ◌∙◌}
use Rattle.kfifo_live.specs.declared.handle.TheConstants.{MAX_TURNS}
use Rattle.kfifo_live.specs.declared.payload.token.Published.{Published}
use Rattle.kfifo_live.specs.Handles.{further}
use Rattle.kfifo_live.specs.Pass.{PassKeepsPromise}
use Rattle.kfifo_live.specs.Payloads.{TokenView}
use Rattle.kfifo_live.specs.Tokens.{GivesWith, TokenHandleView}
use Rattle.kfifo_pool.specs.Pooled.{GivesReserved, KeepsOne, Pooled, Refuses, TakesOne, pass_of}

module _ {T : Type 0} where
  -- the starts after a give
  abbrev pub Moves : TokenHandleView T → TokenHandleView T → Type 0
  Moves old new = (new.put_start ≡ further (pass_of old) old.put_start) × (new.take_start ≡ old.take_start)

  -- a give with the token that was reserved before it
  pub gives_reserved : (payload : T) (token : TokenView) (answer : Published T) (old ready inside new : Pooled T)
      → TakesOne (Some token) old.free ready.free → ready.held ≡ old.held → inside ≡ ready
      → GivesWith token payload inside.held.put_start MAX_TURNS answer inside.held.pass new.held.pass
      → Moves inside.held new.held → PassKeepsPromise (pass_of new.held)
      → GivesReserved payload answer inside.free old new
  gives_reserved payload token answer old ready inside new takes same is gives starts promise =
      let held = ap (λ (h : Pooled T). h.held) is ∙ same in
      record {
        token = token;
        reserves = subst (λ (free : List TokenView). TakesOne (Some token) old.free free)
            (sym (ap (λ (h : Pooled T). h.free) is)) takes;
        gives = subst (λ (h : TokenHandleView T). GivesWith token payload h.put_start MAX_TURNS answer h.pass
            new.held.pass) held gives;
        starts = subst (λ (h : TokenHandleView T). Moves h new.held) held starts;
        promise = promise;
      }

  -- it was refused, and the token that came back was put among the free ones
  pub refuses : (payload : T) (token : TokenView) (answer : Published T) (old given new : Pooled T)
      → GivesReserved payload answer given.free old given → new.held ≡ given.held → KeepsOne token given.free new.free
      → Refuses payload answer token old new
  refuses payload token answer old given new gives same keeps = (
    given.free,
    subst (λ (held : TokenHandleView T). GivesReserved payload answer given.free old (record {
      held = held;
      free = new.free;
      cells = new.cells;
    })) (sym same) (record {
      token = gives.token;
      reserves = gives.reserves;
      gives = gives.gives;
      starts = gives.starts;
      promise = gives.promise;
    }),
    keeps,
  )
