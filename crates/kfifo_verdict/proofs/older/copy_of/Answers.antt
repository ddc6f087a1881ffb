use Rattle.std.proofs.Common.{◌≡◌, count_by, sym, ◌∙◌, ap, subst}
use Rattle.kfifo_model.specs.declared.calls.Call.{Call}
use Rattle.kfifo_model.specs.Histories.{call, effect_of}
use Rattle.kfifo_model.proofs.Checking.{read}
use Rattle.kfifo_model.specs.declared.effects.Side.TheVariants.{In}
use Rattle.kfifo_verdict.specs.declared.presences.Presence.{Presence}
use Rattle.kfifo_verdict.specs.Evidence.{last_step, puts_ended}
use Rattle.kfifo_verdict.specs.Finding.{IsStart}
use Rattle.kfifo_verdict.specs.Left.{is_at}
use Rattle.kfifo_verdict.proofs.Ageing.{copy_is}
use Rattle.kfifo_verdict.proofs.older.copy_of.Goals as goal

pub returns : goal.returns
returns c =
    let h = c.args.calls.now in
    let p = c.args.p in
    let y = c.in-Adds.item in
    let last = c.in-Some.end.last in
    let same = read h p _ c.requires.inside in
    let at : last_step (call h p).end ≡ last = ap (λ w. last_step w.end) (sym same) ∙ ap last_step c.in-Some.is in
    let count = c.count_before-sooner.ensures ∙ (ap (count_by (is_at In y last)) c.deref.ensures.value
    ∙ (c.requires.listed.ended_puts.counted y last ∙ ap (puts_ended h y) (sym at))) in
    let B : Call → Type 0 = λ w. IsStart h w.end c.first_after.result in
    let s : Presence = record { start = c.first_after.result; gone = c.unwrap_or.result } in
    copy_is h p y c.count_before-sooner.result c.nth.result s (ap effect_of (sym same) ∙ sym c.in-Adds.ensures) count
    (subst B same c.first_after.ensures) c.nth.ensures c.unwrap_or.ensures
