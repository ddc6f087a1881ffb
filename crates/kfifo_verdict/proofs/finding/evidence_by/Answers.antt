use Rattle.std.proofs.Common.{List, subst}
use Rattle.std.specs.Result.{IfOk}
use Rattle.std.specs.Option.{MatchOption}
use Rattle.kfifo_verdict.proofs.Types.{Call}
use Rattle.kfifo_verdict.specs.Judging.{HasNoEvidence, IsFirstEvidence}
use Rattle.kfifo_verdict.proofs.Concluding.{found_refutes}
use Rattle.kfifo_verdict.proofs.finding.evidence_by.Goals as goal

pub returns-clause-first : goal.returns-clause-first
returns-clause-first c =
    let P : List Call → Type 0 = λ h. IfOk c.evidence_among.result
    (λ found. MatchOption found (HasNoEvidence c.args.k h) (IsFirstEvidence c.args.k h)) in
    subst P c.calls.ensures.calls c.evidence_among.ensures

pub returns-clause-refutes : goal.returns-clause-refutes
returns-clause-refutes c =
    let P : List Call → Type 0 = λ h. IfOk c.evidence_among.result
    (λ found. MatchOption found (HasNoEvidence c.args.k h) (IsFirstEvidence c.args.k h)) in
    found_refutes c.args.k c.args.history.now c.evidence_among.result c.calls.ensures.valid
    (subst P c.calls.ensures.calls c.evidence_among.ensures)
