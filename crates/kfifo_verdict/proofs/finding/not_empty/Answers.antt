use Rattle.std.proofs.Common.{arith, ap, ◌∙◌}
use Rattle.kfifo_model.specs.Histories.{effect_of}
use Rattle.kfifo_model.proofs.Checking.{read}
use Rattle.kfifo_model.proofs.Measuring.{no_more}
use Rattle.kfifo_verdict.specs.Judging.{FoundNotEmpty}
use Rattle.kfifo_verdict.proofs.Covering.{gap_at, gaps_all, gaps_more}
use Rattle.kfifo_verdict.proofs.Refuting.{found_ended, ended_inside}
use Rattle.kfifo_verdict.proofs.finding.not_empty.Goals as goal
use Rattle.kfifo_verdict.proofs.finding.not_empty.Goals.{in-FindsNone+in_ok-puts+in_default-2, in_default}

pub loop-n-preserved : goal.loop-n-preserved
loop-n-preserved c =
    let h = c.args.calls.now in
    let n = c.loop-n.n in (
      no_more (FoundNotEmpty h) n c.loop-n.invariant.0 (λ f. elim c.match-effect.branch [
        | in-FindsNone+in_ok-puts+in_default-2 w ↦ (let gap = rw w.in_default-2.is at w.in_ok-puts.ensures in gap.0 f)
        | in_default w ↦ w.in_default.not-FindsNone
            (c.effect.ensures ∙ ap effect_of (read h n _ c.loop-n-test.true) ∙ f.1.empty)
      ]),
      gaps_more h n c.loop-n.invariant.1 (λ empty. elim c.match-effect.branch [
        | in-FindsNone+in_ok-puts+in_default-2 w ↦ (
            let gap = rw w.in_default-2.is at w.in_ok-puts.ensures in
            gap_at h c.args.stays.now n _ c.requires.stays gap.1 gap.2 gap.3 gap.4
            )
        | in_default w ↦ absurd (w.in_default.not-FindsNone
            (c.effect.ensures ∙ ap effect_of (read h n _ c.loop-n-test.true) ∙ empty))
      ]),
    )

pub returns : goal.returns
returns c =
    let h = c.args.calls.now in
    let end = c.loop-n-test.false in (
      (λ n f.
          let lt = ended_inside h n (found_ended h n f.1.empty) in
          c.loop-n.invariant.0 n (omega (arith, lt, end)) f),
      gaps_all h c.loop-n.n (omega (arith, end)) c.loop-n.invariant.1,
    )
