use Rattle.std.proofs.Common.{None, Some, refl, ◌∙◌, cond}
use Rattle.std.specs.Prelude.{◌==◌}
use Rattle.kfifo_live.proofs.Keeps.{goes, either-cond}
use Rattle.kfifo_live.proofs.CompleteExecutions.{stepped, within_table}
use Rattle.kfifo_live.proofs.ring.Ring.compare_exchange.Goals as goal

pub compare_exchange-found-requires : goal.compare_exchange-found-requires
compare_exchange-found-requires g c =
    let a = c.requires in
    let s = a.stands in (
      s.of.table,
      within_table a,
      goes _ _ _ c.args.seat.now.me (Some a.place) s.at None a.place _ s.of.sizes refl _ a.next_is _
          (λ n. either-cond (n == c.bits.result) c.bits-2.result n
          ∙ (λ i. cond (n == c.bits.ensures.bits i) (c.bits-2.ensures.bits i) n))
          (λ some_tokens. tt),
    )

pub returns : goal.returns
returns g c = stepped c.compare_exchange-found.ensures.0 c.compare_exchange-found.ensures.2 c.of_bits.ensures
