-- A token that comes out is one of the queue.
use Rattle.std.proofs.Common.{◌∙◌}
use Rattle.kfifo_live.specs.Pass.{queue_of}
use Rattle.test_tokens.proofs.tests.payloads.take.Goals as goal

pub returns-in-Got-clause-of : goal.returns-in-Got-clause-of
returns-in-Got-clause-of c = c.in-Got.ensures.receives.0 ∙ (λ i. queue_of (c.requires.of.0 i) (c.requires.of.1 i))
