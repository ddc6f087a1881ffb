use Rattle.std.proofs.Common.{ap}
use Rattle.kfifo_live.proofs.Resting.{adds_token}
use Rattle.kfifo_live.proofs.seats.add_token.Goals as goal

pub join_seat-requires : goal.join_seat-requires
join_seat-requires g c =
    let r = c.requires in (
      r.table.0,
      r.resting.0,
      ap (λ x. x.1) r.resting.1,
      r.table.1,
      adds_token _ _ c.args.seat.now.me _ c.args.resting.me.0 _ r.idle.0 r.idle.1 r.idle.2 c.args.token
          (ap (λ x. x.0) r.resting.1) r.picked,
    )
