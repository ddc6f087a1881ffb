-- The pass is of a thread of the queue.
use Rattle.std.proofs.Common.{◌<◌, ◌∙◌, ap, sym, subst}
use Rattle.kfifo_live.specs.Pass.{OpenQueue}
use Rattle.kfifo_live.specs.Payloads.{PayPassView}
use Rattle.kfifo_live.proofs.Types.{Opening}
use Rattle.kfifo_live.proofs.TokenMoves.{pass_of_hand}
use Rattle.kfifo_live.proofs.Spreads.{thread_within}
use Rattle.kfifo_live.proofs.tokens.handle.starts_of.Goals as goal

pub spread-requires-clause-thread : goal.spread-requires-clause-thread
spread-requires-clause-thread g c =
    let threads = ap (λ (k : PayPassView g.row.T.Denot). k.pass.opened.threads) c.pass.view_is
    ∙ ap (λ (o : Opening). o.threads) c.requires.1 ∙ sym (ap (λ (q : OpenQueue). q.opened.threads) c.queue.view_is) in
    subst (λ n. c.pass.inside.thread < n) threads
    (thread_within _ c.pass.inside.seat.me (pass_of_hand c.pass.invariant.0))
