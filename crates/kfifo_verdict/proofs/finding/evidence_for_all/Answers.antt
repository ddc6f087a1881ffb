use Rattle.kfifo_verdict.specs.Finding.{HasGaps}
use Rattle.kfifo_verdict.specs.Judging.{HasNoneTo3}
use Rattle.kfifo_verdict.proofs.Sufficing.{plain_none_for_each}
use Rattle.kfifo_verdict.proofs.finding.evidence_for_all.Goals as goal

pub returns-then-items : goal.returns-then-items
returns-then-items c =
    let h = c.args.calls.now in
    let none : HasNoneTo3 h × HasGaps h = rw c.in_default.is at c.in_ok-found.ensures in
    plain_none_for_each h c.requires (c.in_ok-items.ensures.plain.0 c.if-items.true) none.0 none.1
