use Rattle.std.proofs.Common.{rules, refl, Some}
use Rattle.kfifo_cli_commands.specs.Records.{IsCheckRefusal}
use Rattle.kfifo_cli_commands.proofs.Refusals.{check_refused, err_to, order_refused, ordered}
use Rattle.kfifo_cli_commands.proofs.commands.check.answer.Goals as goal

pub returns-in_err-order-clause-err : goal.returns-in_err-order-clause-err
returns-in_err-order-clause-err g c =
    let refusal : IsCheckRefusal c.args.options (g.S.Source.remaining c.args.input.now)
    (g.S.Source.failed c.args.input.now)
    (g.S.Source.failed c.args.input.now) c.in_err-order.field-0.0 =
    order_refused (g.S.Source.remaining c.args.input.now) _ _ c.args.options c.in-Some.text.now c.in_err-order.field-0.0
    (rw c.in-Some.is refl) c.in_err-order.ensures in
    search (rules, refusal)

pub returns-clause-err : goal.returns-clause-err
returns-clause-err g c = err_to _ _ (λ failure given.
    check_refused (g.S.Source.remaining c.args.input.now) _ _ c.args.options (Some c.as_slice.result.now)
    (ordered c.args.options c.in-Some.text.now c.in_ok-order.order.items c.as_slice.result.now (rw c.in-Some.is refl)
    c.as_slice.ensures.value c.in_ok-order.ensures) failure.fault given)
    c.judge-2.result c.judge-2.ensures.err
