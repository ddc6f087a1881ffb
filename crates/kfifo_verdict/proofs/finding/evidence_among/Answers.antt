use Rattle.kfifo_verdict.specs.Finding.{HasGaps}
use Rattle.kfifo_verdict.specs.Judging.{GotTooYoung, HasNoneTo3, Never}
use Rattle.kfifo_verdict.proofs.Sufficing.{plain_none}
use Rattle.kfifo_verdict.proofs.finding.evidence_among.Goals as goal

pub returns-then-items : goal.returns-then-items
returns-then-items c =
    let h = c.args.calls.now in
    let none : HasNoneTo3 h × HasGaps h = rw c.in_default.is at c.in_ok-found.ensures in
    let young : Never (GotTooYoung c.args.k h) = rw c.in_default-2.is at c.in_ok-get.ensures in
    plain_none c.args.k h c.requires.history (c.requires.items.plain.0 c.if-items.true) none.0 none.1 young
