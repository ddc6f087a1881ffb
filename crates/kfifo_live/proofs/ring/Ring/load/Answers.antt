use Rattle.std.proofs.Common.{None, Some, refl}
use Rattle.kfifo_live.proofs.Keeps.{goes}
use Rattle.kfifo_live.proofs.CompleteExecutions.{stepped, within_table}
use Rattle.kfifo_live.proofs.ring.Ring.load.Goals as goal

pub load-requires : goal.load-requires
load-requires g c =
    let a = c.requires in
    let s = a.stands in (
      s.of.table,
      within_table a,
      goes _ _ _ c.args.seat.now.me (Some a.place) s.at None a.place _ s.of.sizes refl _ a.next_is (λ n. n)
          (λ n. refl) (λ some_tokens. tt),
    )

pub returns : goal.returns
returns g c = stepped c.load.ensures.0 c.load.ensures.2 c.of_bits.ensures
