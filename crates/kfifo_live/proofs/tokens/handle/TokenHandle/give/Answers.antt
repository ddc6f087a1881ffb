-- The call is that of the pass, with the start and the rounds of the handle.
use Rattle.std.proofs.Common.{ℕ, subst}
use Rattle.kfifo_live.specs.declared.handle.TheConstants.{MAX_TURNS}
use Rattle.kfifo_live.specs.Tokens.{GivesWith, TokenHandleView}
use Rattle.kfifo_live.proofs.tokens.handle.TokenHandle.give.Goals as goal

pub returns-clause-gives : goal.returns-clause-gives
returns-clause-gives g c =
    subst (λ (h : TokenHandleView g.row.T.Denot). GivesWith c.args.token c.args.payload h.put_start MAX_TURNS
    c.give.result h.pass c.give.new.self)
    c.self.view_is
    (subst (λ (start : ℕ). GivesWith c.args.token c.args.payload start MAX_TURNS c.give.result c.self.inside.pass
    c.give.new.self)
    c.next-start.ensures.start c.give.ensures.gives)
