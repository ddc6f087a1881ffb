use Rattle.std.proofs.Common.{◌≡◌}
use Rattle.kfifo_cli_texts.specs.Orders.{trimmed}
use Rattle.kfifo_cli_texts.proofs.Orders.{trim_is}
use Rattle.kfifo_cli_texts.proofs.order.plain_part.Goals as goal

pub returns-then-is_spaced : goal.returns-then-is_spaced
returns-then-is_spaced c =
    let trim : c.trim_ascii.result.now ≡ trimmed c.args.text.now =
    trim_is c.args.text.now c.trim_ascii.result.now c.trim_ascii.ensures.value in
    rw c.if-is_spaced.true trim
