use Rattle.std.proofs.Common.{None, Some, refl, sym, ap, subst, ◌∙◌, arith}
use Rattle.kfifo_live.proofs.Types.{Begin}
use Rattle.kfifo_live.specs.Hands.{BeginsWith}
use Rattle.kfifo_live.specs.Schedule.{hand_of}
use Rattle.kfifo_machine.specs.Runs.{going}
use Rattle.kfifo_live.proofs.Keeps.{goes}
use Rattle.kfifo_live.proofs.CompleteExecutions.{begun}
use Rattle.kfifo_live.proofs.ring.Ring.begin.Goals as goal

pub load-requires : goal.load-requires
load-requires g c =
    let of = c.requires.rests.of in
    let first = c.requires.first in (
      of.table,
      (let size = of.size in omega arith),
      goes _ _ _ c.args.seat.now.me None c.requires.rests.idle (Some g.C.BegunCall.begin) first.place _ of.sizes
          (ap (λ b. going c.args.self.shape.now None (Some b)) c.requires.picked ∙ first.goes) _ first.next_is (λ n. n)
          (λ n. refl)
          (λ some_tokens. subst (λ (b : Begin). BeginsWith c.args.seat.now.me.0.opened.bare (Some b)
          (hand_of c.args.seat.now.me.0) c.args.seat.now.me.1)
          (sym c.requires.picked) (c.requires.rests.begins some_tokens)),
    )

pub returns : goal.returns
returns g c = begun c.requires.rests c.requires.picked c.load.ensures.0 c.load.ensures.2 c.of_bits.ensures
