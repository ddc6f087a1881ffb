use Rattle.std.proofs.Common.{refl, rules}
use Rattle.kfifo_cli_commands.proofs.Refusals.{ordered}
use Rattle.kfifo_cli_commands.proofs.commands.draw.order_given.Goals as goal

pub returns-clause-ok : goal.returns-clause-ok
returns-clause-ok g c = ordered c.args.options.check c.in-Some.text.now c.in_ok-order.order.items
    c.in_ok-order.order.items (rw c.in-Some.is refl) refl c.in_ok-order.ensures
