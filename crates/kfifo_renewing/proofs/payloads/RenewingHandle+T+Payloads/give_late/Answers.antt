-- A look at the versions, a first try, and what follows it.
use Rattle.std.proofs.Common.{subst}
use Rattle.kfifo_renewing.specs.Renewing.{Generations, TriesToGive}
use Rattle.kfifo_renewing.proofs.payloads.RenewingHandle+T+Payloads.give_late.Goals as goal

pub returns : goal.returns
returns g c =
    let here = c.try_to_give-first.new.self in
    let first = c.try_to_give-first.result in (
      first,
      here,
      subst (λ (h : Generations g.row.T.Denot). TriesToGive c.args.payload first h here) c.look_at_versions.ensures
          c.try_to_give-first.ensures,
      c.go_on.ensures,
    )
