-- The token that came with the payload is free again.
use Rattle.std.proofs.Common.{refl, subst, sym}
use Rattle.kfifo_live.specs.declared.handle.TheConstants.{MAX_TURNS}
use Rattle.kfifo_live.specs.declared.payload.token.Received.TheVariants as C
use Rattle.kfifo_live.specs.Calls.{IsDisturbed}
use Rattle.kfifo_live.specs.Tokens.{ReceivesWith, TokenHandleView}
use Rattle.kfifo_pool.specs.Pooled.{KeepsOne, Pooled, pass_of}
use Rattle.kfifo_pool.proofs.handle.PooledHandle.receive.Goals as goal

pub returns-in-Got-clause-receives : goal.returns-in-Got-clause-receives
returns-in-Got-clause-receives g c =
    let T = g.row.T.Denot in let token = c.in-Got.token in let answer = C.Got c.in-Got.payload token in (
      token,
      subst (λ (old : Pooled T). ReceivesWith old.held.take_start MAX_TURNS answer old.held.pass
          c.release.new.self.held.pass) c.self.view_is
          (subst (λ (held : TokenHandleView T). ReceivesWith c.self.inside.handle.take_start MAX_TURNS answer
          c.self.inside.handle.pass held.pass) (sym c.release.ensures.same) c.in-Got.ensures.receives),
      subst (λ (old : Pooled T). KeepsOne token old.free c.release.new.self.free) c.self.view_is
          c.release.ensures.keeps,
    )

pub returns-in-Busy-clause-busy : goal.returns-in-Busy-clause-busy
returns-in-Busy-clause-busy g c = λ busy.
    subst (λ (old : Pooled g.row.T.Denot). IsDisturbed (pass_of old.held) (pass_of c.receive.new.self)) c.self.view_is
    (c.in-Busy.ensures.busy refl)
