-- A token that comes out is one of the queue.
use Rattle.std.proofs.Common.{◌∙◌, subst}
use Rattle.kfifo_live.specs.declared.payload.Taken.{Taken}
use Rattle.kfifo_live.specs.declared.handle.TheConstants.{MAX_TURNS}
use Rattle.kfifo_live.specs.Pass.{queue_of}
use Rattle.kfifo_live.specs.Payloads.{TokenView}
use Rattle.kfifo_live.specs.Tokens.{TakesToken}
use Rattle.test_tokens.proofs.tests.plain.take_token.Goals as goal

pub returns-clause-of : goal.returns-clause-of
returns-clause-of c = λ token is.
    let old = c.args.handle.now in
    let takes = subst (λ (x : Taken TokenView). TakesToken old.take_start MAX_TURNS x old.pass c.take.new.self.pass) is
    c.take.ensures.takes in
    takes.0 ∙ (λ i. queue_of (c.requires.of.0 i) (c.requires.of.1 i))
