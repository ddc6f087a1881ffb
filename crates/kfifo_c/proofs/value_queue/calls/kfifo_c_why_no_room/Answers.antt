use Rattle.std.proofs.Common.{sym, ◌∙◌}
use Rattle.kfifo_c.specs.Behind.{values_found}
use Rattle.kfifo_c.proofs.value_queue.calls.kfifo_c_why_no_room.Goals as goal

pub seat_mut-requires : goal.seat_mut-requires
seat_mut-requires c = values_found _ (sym c.args.pass.now.kind_is ∙ c.if-pass-ne-VALUES.false)
