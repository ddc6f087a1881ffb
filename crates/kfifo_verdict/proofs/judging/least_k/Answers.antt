use Rattle.std.proofs.Common.{List, ◌≤◌, subst, arith}
use Rattle.kfifo_verdict.proofs.Types.{Call}
use Rattle.kfifo_verdict.specs.Judging.{IsLowerBound}
use Rattle.kfifo_verdict.proofs.Concluding.{bound_refutes}
use Rattle.kfifo_verdict.proofs.judging.least_k.Goals as goal

pub returns-in-Some : goal.returns-in-Some
returns-in-Some c =
    let P : List Call → Type 0 = λ w. IsLowerBound w c.in_ok-at_least.at_least in
    let lower = subst P c.calls.ensures.calls c.in_ok-at_least.ensures in
    let test = c.loop-k-test.true in
    let small : c.loop-k.k ≤ 64 = omega (arith, test) in
    record {
      lower = lower;
      refuted = λ k positive lt. bound_refutes c.args.history.now c.in_ok-at_least.at_least k c.calls.ensures.valid
          lower positive lt;
      upper = (c.if-at_least-k.true, small, (c.in-Some.field-0.items, rw c.in-Some.is at c.in_ok-witness.ensures));
    }

pub returns : goal.returns
returns c =
    let P : List Call → Type 0 = λ w. IsLowerBound w c.in_ok-at_least.at_least in
    let lower = subst P c.calls.ensures.calls c.in_ok-at_least.ensures in
    record {
      lower = lower;
      refuted = λ k positive lt. bound_refutes c.args.history.now c.in_ok-at_least.at_least k c.calls.ensures.valid
          lower positive lt;
      upper = tt;
    }
