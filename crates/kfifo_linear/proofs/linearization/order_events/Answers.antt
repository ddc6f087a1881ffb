-- The linearizer has followed the whole schedule.
use Rattle.std.proofs.Common.{ap, ◌∙◌, subst}
use Rattle.kfifo_machine.specs.Machine.{IsSchedule}
use Rattle.kfifo_linear.specs.Notes.{calls_begun}
use Rattle.kfifo_linear.specs.Order.{order_of}
use Rattle.kfifo_linear.proofs.Linearizing.{is_schedule}
use Rattle.kfifo_linear.proofs.linearization.order_events.Goals as goal

pub returns-clause-order : goal.returns-clause-order
returns-clause-order c =
    let known = c.in_ok-linearizer.ensures.followed in (
      known.1,
      known.2,
      subst (λ s. IsSchedule s c.args.threads c.args.events.now) known.0
          (is_schedule c.in_ok-linearizer.linearizer.shape c.args.threads c.args.events.now
          c.in_ok-linearizer.linearizer.world
          known.3.reached),
      c.in_ok-order.ensures c.args.threads (calls_begun c.args.events.now) c.args.events.now known.3 known.2
          ∙ ap (λ s. order_of s c.args.threads c.args.events.now) known.0,
    )
