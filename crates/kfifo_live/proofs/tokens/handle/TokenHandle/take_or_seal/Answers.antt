-- The call is that of the pass, with the start and the rounds of the handle.
use Rattle.std.proofs.Common.{ℕ, refl, subst}
use Rattle.kfifo_live.specs.declared.handle.TheConstants.{MAX_TURNS}
use Rattle.kfifo_live.specs.Calls.{IsDisturbed}
use Rattle.kfifo_live.specs.declared.payload.sealing.TakenOrSealed.{TakenOrSealed}
use Rattle.kfifo_live.specs.Payloads.{TokenView}
use Rattle.kfifo_live.specs.Tokens.{TakesTokenOrSeals, TokenHandleView}
use Rattle.kfifo_live.proofs.Handled.{turns_enough}
use Rattle.kfifo_live.proofs.tokens.handle.TokenHandle.take_or_seal.Goals as goal

pub returns-clause-takes : goal.returns-clause-takes
returns-clause-takes g c =
    subst (λ (h : TokenHandleView g.row.T.Denot). TakesTokenOrSeals h.take_start MAX_TURNS c.take_or_seal.result h.pass
    c.take_or_seal.new.self)
    c.self.view_is
    (subst (λ (start : ℕ). TakesTokenOrSeals start MAX_TURNS c.take_or_seal.result c.self.inside.pass
    c.take_or_seal.new.self)
    c.next-start.ensures.start c.take_or_seal.ensures.takes)

pub returns-clause-busy : goal.returns-clause-busy
returns-clause-busy g c is =
    let takes = subst (λ (x : TakenOrSealed TokenView). TakesTokenOrSeals c.next-start.result MAX_TURNS x
    c.self.inside.pass c.take_or_seal.new.self) is
    c.take_or_seal.ensures.takes in
    subst (λ (h : TokenHandleView g.row.T.Denot). IsDisturbed h.pass.pass c.take_or_seal.new.self.pass) c.self.view_is
    (takes.0.call.disturbed refl (turns_enough c.self.inside.pass.pass.opened.shape))
