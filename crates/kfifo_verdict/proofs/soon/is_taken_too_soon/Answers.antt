use Rattle.std.proofs.Common.{sym, ◌∙◌, ap}
use Rattle.kfifo_model.specs.Histories.{effect_of}
use Rattle.kfifo_model.proofs.Checking.{read}
use Rattle.kfifo_verdict.specs.Evidence.{last_step}
use Rattle.kfifo_verdict.proofs.Stepping.{too_soon_both_ways}
use Rattle.kfifo_verdict.proofs.soon.is_taken_too_soon.Goals as goal

pub returns : goal.returns
returns c =
    let h = c.args.calls.now in
    let n = c.args.n in
    let same = read h n _ c.requires.inside in
    let is = ap effect_of (sym same) ∙ sym c.in-Takes.ensures in
    too_soon_both_ways h c.in-Takes.item n c.last_step-end.result c.count_of.result c.count_of-2.result c.args.begun.now
    c.args.ended.now
    is (c.last_step-end.ensures ∙ ap (λ w. last_step w.end) same)
    c.requires.begun c.requires.ended c.count_of.ensures c.count_of-2.ensures
