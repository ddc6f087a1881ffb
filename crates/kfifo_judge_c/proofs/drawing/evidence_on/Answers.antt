use Rattle.std.proofs.Common.{◌∙◌, inr, refl, true}
use Rattle.kfifo_verdict.specs.Judging.{IsFirstEvidence}
use Rattle.kfifo_draw.specs.declared.part.Part.TheVariants.{Near}
use Rattle.kfifo_judge_c.specs.declared.drawing.TheConstants.{AROUND}
use Rattle.kfifo_judge_c.specs.Pictures.{IsPart}
use Rattle.kfifo_judge_c.proofs.Pictures.{pictured}
use Rattle.kfifo_judge_c.proofs.drawing.evidence_on.Goals as goal

pub returns : goal.returns
returns c =
    let found = c.in-Some.found in
    let named = c.as_slice-2.result in
    let first : IsFirstEvidence c.args.k c.args.history.now found = rw c.in-Some.is at c.in_ok-found.ensures.first in
    let part : IsPart c.args.k true c.args.history.now (Near named AROUND) =
    inr (found, first, (named, c.as_slice-2.ensures.value ∙ c.in_ok-named.ensures, refl)) in
    pictured c.args.k true c.args.history.now c.args.logged.now (Near named AROUND) part c.drawn-2.result
    c.drawn-2.ensures c.report_of-2.result c.report_of-2.ensures
