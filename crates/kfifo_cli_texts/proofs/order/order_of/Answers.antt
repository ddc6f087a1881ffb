use Rattle.kfifo_cli_texts.proofs.Orders.{plain_told}
use Rattle.kfifo_cli_texts.proofs.order.order_of.Goals as goal

pub returns-in-None : goal.returns-in-None
returns-in-None g c = plain_told (λ v. v.items) c.args.text.now c.read_order.result c.read_order.ensures
