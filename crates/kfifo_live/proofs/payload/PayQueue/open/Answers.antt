-- The passes came from the opening, after which all words are 0.
use Rattle.std.proofs.Common.{All, subst, sym}
use Rattle.kfifo_live.specs.Pass.{IsPassOf}
use Rattle.kfifo_live.proofs.NewPasses.{pay_passes_of_new, zeroed}
use Rattle.kfifo_live.proofs.payload.PayQueue.open.Goals as goal

pub returns-clause-zeroed : goal.returns-clause-zeroed
returns-clause-zeroed g c = zeroed c.in_ok-opened.opened.0.opened

pub returns-clause-of : goal.returns-clause-of
returns-clause-of g c = subst (All (λ p. IsPassOf c.in_ok-opened.opened.0 p.pass)) (sym c.in_ok-opened.ensures.1)
    (pay_passes_of_new c.in_ok-opened.opened.0 0 c.args.threads)
