use Rattle.std.proofs.Common.{List, subst}
use Rattle.std.specs.Result.{IfOk}
use Rattle.std.specs.Option.{MatchOption}
use Rattle.kfifo_verdict.proofs.Types.{Call}
use Rattle.kfifo_verdict.specs.Judging.{HasNoneForEachK, IsFirstForEachK}
use Rattle.kfifo_verdict.proofs.Concluding.{found_refutes_each}
use Rattle.kfifo_verdict.proofs.finding.evidence_for_each_k.Goals as goal

pub returns-clause-first : goal.returns-clause-first
returns-clause-first c =
    let P : List Call
    → Type 0 = λ h. IfOk c.evidence_for_all.result
    (λ found. MatchOption found (HasNoneForEachK h) (IsFirstForEachK h)) in
    subst P c.calls.ensures.calls c.evidence_for_all.ensures

pub returns-clause-refutes : goal.returns-clause-refutes
returns-clause-refutes c =
    let P : List Call
    → Type 0 = λ h. IfOk c.evidence_for_all.result
    (λ found. MatchOption found (HasNoneForEachK h) (IsFirstForEachK h)) in
    found_refutes_each c.args.history.now c.evidence_for_all.result c.calls.ensures.valid
    (subst P c.calls.ensures.calls c.evidence_for_all.ensures)
