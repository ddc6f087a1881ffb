use Rattle.std.proofs.Common.{◌<◌, ◌≤◌, arith, length, subst}
use Rattle.kfifo_model.proofs.Checking.{read}
use Rattle.kfifo_verdict.proofs.Types.{Call}
use Rattle.kfifo_verdict.proofs.Moments.{begun_to, up_to_here}
use Rattle.kfifo_verdict.proofs.precedence.soon_after.Goals as goal

pub loop-next-init : goal.loop-next-init
loop-next-init c =
    let h = c.args.calls.now in
    let n = c.args.n in
    let inside = c.if-n-calls.false in
    let P : Call → Type 0 = λ w. w.first ≤ c.args.step in
    begun_to h n c.args.step c.requires inside (subst P (read h n _ inside) c.if-step-calls.false)

pub returns-then-step-calls-2 : goal.returns-then-step-calls-2
returns-then-step-calls-2 c =
    let h = c.args.calls.now in
    let next = c.loop-next.next in
    let inside : next < length h = omega arith in
    let P : Call → Type 0 = λ w. c.args.step < w.first in (
      omega arith,
      up_to_here h next c.args.step c.requires inside c.loop-next.invariant
          (subst P (read h next _ inside) c.if-step-calls-2.true),
    )
