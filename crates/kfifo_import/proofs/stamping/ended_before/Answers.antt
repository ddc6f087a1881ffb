use Rattle.std.proofs.Common.{arith}
use Rattle.std.proofs.lemmas.List.{get_or_default}
use Rattle.kfifo_import.specs.Stamping.{no_moment}
use Rattle.kfifo_import.proofs.Points.{below_here}
use Rattle.kfifo_import.proofs.stamping.ended_before.Goals as goal

pub returns-then-time-ends : goal.returns-then-time-ends
returns-then-time-ends c =
    let ends = c.args.ends.now in
    let place = c.loop-place.place in (
      omega arith,
      below_here (λ end. end.time) ends c.args.time place c.requires.by_last c.loop-place.invariant (λ d lt.
          let e = get_or_default ends place d no_moment lt in
          rw e c.if-time-ends.true),
    )
