-- The call is that of the pass, with the start and the rounds of the handle.
use Rattle.std.proofs.Common.{ℕ, subst}
use Rattle.kfifo_live.specs.declared.handle.TheConstants.{MAX_TURNS}
use Rattle.kfifo_live.specs.Tokens.{Puts, TokenHandleView}
use Rattle.kfifo_live.proofs.tokens.handle.TokenHandle.put.Goals as goal

pub returns-clause-puts : goal.returns-clause-puts
returns-clause-puts g c =
    subst (λ (h : TokenHandleView g.row.T.Denot). Puts c.args.token h.put_start MAX_TURNS c.put.result h.pass
    c.put.new.self)
    c.self.view_is
    (subst (λ (start : ℕ). Puts c.args.token start MAX_TURNS c.put.result c.self.inside.pass c.put.new.self)
    c.next-start.ensures.start c.put.ensures.puts)
