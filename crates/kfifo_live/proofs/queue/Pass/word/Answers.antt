use Rattle.std.proofs.Common.{subst}
use Rattle.kfifo_live.specs.Pass.{PassView, pass_view, Finds}
use Rattle.kfifo_live.proofs.Passes.{looked, finds, promised}
use Rattle.kfifo_live.proofs.queue.Pass.word.Goals as goal

pub invariant_of-self : goal.invariant_of-self
invariant_of-self c = looked _ _ _ c.self.inside.seat.me c.observe.new.seat.me c.self.invariant c.observe.ensures.same.1
    c.observe.ensures.looks

pub returns-clause-finds : goal.returns-clause-finds
returns-clause-finds c =
    let P : PassView
    → Type 0 = λ k. Finds k (pass_view c.observe.new.seat.table_id c.self.inside.thread c.observe.new.seat.me.0)
    c.args.index c.observe.result in
    subst P c.self.view_is (finds _ _ c.self.inside.thread c.args.index c.observe.result c.self.inside.seat.me
    c.observe.new.seat.me
    c.self.invariant c.observe.ensures.looks)

pub returns-clause-promise : goal.returns-clause-promise
returns-clause-promise c = promised _ c.observe.new.seat.me
    (looked _ _ _ c.self.inside.seat.me c.observe.new.seat.me c.self.invariant c.observe.ensures.same.1
    c.observe.ensures.looks)
