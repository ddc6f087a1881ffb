-- The call is that of the pass, with the start and the rounds of the handle.
use Rattle.std.proofs.Common.{ℕ, refl, subst}
use Rattle.kfifo_live.specs.declared.handle.TheConstants.{MAX_TURNS}
use Rattle.kfifo_live.specs.Calls.{IsDisturbed}
use Rattle.kfifo_live.specs.declared.tokens.sealing.ReceivedOrSealed.{ReceivedOrSealed}
use Rattle.kfifo_live.specs.Tokens.{ReceivesOrSeals, TokenHandleView}
use Rattle.kfifo_live.proofs.Handled.{turns_enough}
use Rattle.kfifo_live.proofs.tokens.handle.TokenHandle.receive_or_seal.Goals as goal

pub returns-clause-receives : goal.returns-clause-receives
returns-clause-receives g c =
    subst (λ (h : TokenHandleView g.row.T.Denot). ReceivesOrSeals h.take_start MAX_TURNS c.receive_or_seal.result h.pass
    c.receive_or_seal.new.self)
    c.self.view_is
    (subst (λ (start : ℕ). ReceivesOrSeals start MAX_TURNS c.receive_or_seal.result c.self.inside.pass
    c.receive_or_seal.new.self)
    c.next-start.ensures.start c.receive_or_seal.ensures.receives)

pub returns-clause-busy : goal.returns-clause-busy
returns-clause-busy g c is =
    let receives =
    subst (λ (x : ReceivedOrSealed g.row.T.Denot). ReceivesOrSeals c.next-start.result MAX_TURNS x
    c.self.inside.pass c.receive_or_seal.new.self) is
    c.receive_or_seal.ensures.receives in
    subst (λ (h : TokenHandleView g.row.T.Denot). IsDisturbed h.pass.pass c.receive_or_seal.new.self.pass)
    c.self.view_is
    (receives.0.call.disturbed refl (turns_enough c.self.inside.pass.pass.opened.shape))
