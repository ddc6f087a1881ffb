-- After the call the pass is in no call, and what is new to it is one complete execution.
use Rattle.kfifo_machine.specs.declared.event.Begin.TheVariants as B
use Rattle.kfifo_live.specs.Pass.{pass_view}
use Rattle.kfifo_live.proofs.Made.{makes_call}
use Rattle.kfifo_live.proofs.Passes.{called, made, no_tokens, promised}
use Rattle.kfifo_live.proofs.queue.Pass.dequeue.Goals as goal

pub invariant_of-self : goal.invariant_of-self
invariant_of-self c = called _ _ _ c.self.inside.seat.me c.dequeue.new.seat.me c.self.invariant
    (no_tokens c.self.inside.seat.me.0 c.self.view_is c.requires.of.1 c.queue.view_is) c.dequeue.ensures.leads

pub returns-clause-promise : goal.returns-clause-promise
returns-clause-promise c = promised _ c.dequeue.new.seat.me
    (called _ _ _ c.self.inside.seat.me c.dequeue.new.seat.me c.self.invariant
    (no_tokens c.self.inside.seat.me.0 c.self.view_is c.requires.of.1 c.queue.view_is) c.dequeue.ensures.leads)

pub returns-clause-call : goal.returns-clause-call
returns-clause-call c = makes_call (B.Dequeue c.args.start c.args.turns) c.dequeue.result c.args.self.now
    (pass_view c.dequeue.new.seat.table_id c.self.inside.thread c.dequeue.new.seat.me.0)
    (made _ _ _ c.self.inside.seat c.dequeue.new.seat _ c.self.invariant c.self.view_is c.dequeue.ensures)
