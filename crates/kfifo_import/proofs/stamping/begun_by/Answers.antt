use Rattle.std.proofs.Common.{arith}
use Rattle.std.proofs.lemmas.List.{get_or_default}
use Rattle.kfifo_import.proofs.Steps.{other_call}
use Rattle.kfifo_import.proofs.Points.{up_to_here}
use Rattle.kfifo_import.proofs.stamping.begun_by.Goals as goal

pub returns-then-time-calls : goal.returns-then-time-calls
returns-then-time-calls c =
    let calls = c.args.calls.now in
    let n = c.loop-number.number in (
      omega arith,
      up_to_here (λ c. c.first) calls c.args.time n c.requires.by_first c.loop-number.invariant (λ d lt.
          let e = get_or_default calls n d other_call lt in
          rw e c.if-time-calls.true),
    )
