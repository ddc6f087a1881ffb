use Rattle.std.proofs.Common.{ap, inl, inr, rules, subst, sym}
use Rattle.kfifo_cli_commands.proofs.Types.{Fault}
use Rattle.kfifo_cli_commands.specs.Cuts.{IsCutFault, given}
use Rattle.kfifo_cli_commands.proofs.cut.cut_of.Goals as goal

pub returns-in_err-stretch_of : goal.returns-in_err-stretch_of
returns-in_err-stretch_of c =
    let none : IsCutFault c.args.options c.in_err-stretch_of.field-0.0 =
    subst (λ (f : Fault). IsCutFault c.args.options f)
    (sym c.in_err-stretch_of.ensures.0)
    (inl (c.in-Some.text.now, ap given c.in-Some.is, c.in_err-stretch_of.ensures.1)) in
    search (rules, none)

pub returns-in_err-stretch_of-2 : goal.returns-in_err-stretch_of-2
returns-in_err-stretch_of-2 c =
    let none : IsCutFault c.args.options c.in_err-stretch_of-2.field-0.0 =
    subst (λ (f : Fault). IsCutFault c.args.options f)
    (sym c.in_err-stretch_of-2.ensures.0)
    (inr (c.in-Some-lines.text.now, ap given c.in-Some-lines.is, c.in_err-stretch_of-2.ensures.1)) in
    search (rules, none)
