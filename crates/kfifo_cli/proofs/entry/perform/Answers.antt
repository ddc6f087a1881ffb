use Rattle.std.proofs.Common.{inl, inr, refl, subst}
use Rattle.kfifo_cli_arguments.specs.Requests.{Requests}
use Rattle.kfifo_cli_arguments.proofs.Parsing.{at_fault, help_asked}
use Rattle.kfifo_cli.proofs.Printed.{ends_as}
use Rattle.kfifo_cli.proofs.entry.perform.Goals as goal

pub returns-in-Some : goal.returns-in-Some
returns-in-Some g c =
    let named = subst (λ command. Requests command c.in-Some.request) c.in-Ok.ensures.named c.in-Some.ensures.some in
    rw c.number.ensures (ends_as _ _ _ _ _ _ _ _ _
    (λ text status answered. inr (c.in-Some.request, (c.in-Ok.ensures.kinds, named), answered))
    (λ fault refused. inr (c.in-Some.request, (c.in-Ok.ensures.kinds, named), refused))
    (λ never. absurd never)
    c.carry_out.ensures)

pub returns : goal.returns
returns g c = rw c.number-in-Err.ensures (ends_as _ _ _ _ _ _ _ _ _
    (λ text status help. inl (help_asked _ c.in-Err.error c.in-Err.ensures.kinds help.0, help.1, refl))
    (λ fault memory. inl (memory, refl))
    (λ fault. inl (at_fault _ c.in-Err.error c.in-Err.ensures.kinds fault.0 fault.1, fault.2))
    c.end_with_error.ensures)
