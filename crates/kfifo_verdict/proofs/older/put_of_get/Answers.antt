use Rattle.std.proofs.Common.{count_by, sym, ◌∙◌, ap}
use Rattle.kfifo_model.specs.Histories.{call, effect_of}
use Rattle.kfifo_model.proofs.Checking.{read}
use Rattle.kfifo_model.specs.declared.effects.Side.TheVariants.{In}
use Rattle.kfifo_verdict.specs.Left.{is_at}
use Rattle.kfifo_verdict.proofs.Ageing.{before_is, put_tells}
use Rattle.kfifo_verdict.proofs.older.put_of_get.Goals as goal

pub returns : goal.returns
returns c =
    let h = c.args.calls.now in
    let g = c.args.n in
    let x = c.in-Takes.item in
    let same = read h g _ c.requires.inside in
    let first = ap (λ w. w.first) same in
    let before = before_is h x (call h g).first c.args.listed.now.ended_gets.items c.requires.listed.ended_gets in
    let count = c.count_before-taken.ensures ∙ (ap (λ t. count_by (is_at In x t) c.deref.result.now) first
    ∙ (ap (count_by (is_at In x (call h g).first)) c.deref.ensures.value ∙ before)) in
    put_tells h x g c.count_before-taken.result c.nth.result (ap effect_of (sym same) ∙ sym c.in-Takes.ensures) count
    c.nth.ensures
