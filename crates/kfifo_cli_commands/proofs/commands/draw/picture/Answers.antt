use Rattle.std.proofs.Common.{◌≡◌, List, Option, Some, None, rules, refl, subst}
use Rattle.kfifo_model.specs.declared.logged.LoggedCall.{LoggedCall}
use Rattle.kfifo_cli_commands.specs.Inputs.{IsCalls}
use Rattle.kfifo_cli_commands.specs.Pictures.{HasFew, IsNoPicture, IsNotDrawn, IsPictureOf}
use Rattle.kfifo_cli_commands.proofs.Picturing.{not_drawn, of_calls}
use Rattle.kfifo_cli_commands.proofs.commands.draw.picture.Goals as goal

pub returns-in-Some : goal.returns-in-Some
returns-in-Some c = λ bytes given.
    let k = c.args.options.check.k in
    let asked = c.args.options.evidence in
    let history = c.args.calls.now.history in
    let calls : IsCalls bytes history (Some c.in-Some.logged.items) = rw c.in-Some.is at given in
    of_calls k asked c.args.cut bytes history (Some c.in-Some.logged.items) calls (λ _. refl) HasFew
    (subst (λ (l : List LoggedCall). IsPictureOf HasFew k asked c.args.cut history l) c.as_slice.ensures.value
    c.in_ok-text.ensures)

pub returns-in_err-text : goal.returns-in_err-text
returns-in_err-text c = λ bytes given.
    let k = c.args.options.check.k in
    let asked = c.args.options.evidence in
    let history = c.args.calls.now.history in
    let fault = c.in_err-text.field-0.0 in
    let calls : IsCalls bytes history (Some c.in-Some.logged.items) = rw c.in-Some.is at given in
    let none : IsNoPicture k asked c.args.cut bytes fault =
    not_drawn k asked c.args.cut bytes history (Some c.in-Some.logged.items) calls (λ _. refl) fault
    (subst (λ (l : List LoggedCall). IsNotDrawn k asked c.args.cut history l fault) c.as_slice.ensures.value
    c.in_err-text.ensures) in
    search (rules, none)
