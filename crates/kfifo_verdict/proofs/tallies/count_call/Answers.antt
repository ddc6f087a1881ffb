use Rattle.std.proofs.Common.{◌+◌, subst, sym}
use Rattle.std.proofs.lemmas.Result.{on_ok_weaker}
use Rattle.kfifo_verdict.proofs.Types.{Tally}
use Rattle.kfifo_verdict.specs.Finding.{IsTally}
use Rattle.kfifo_verdict.proofs.tallies.count_call.Goals as goal

pub returns-clause-counted : goal.returns-clause-counted
returns-clause-counted c =
    let n = c.args.n in
    on_ok_weaker c.put_tally.result
    (λ put test firsts was passes first.
    let Was : Tally → Type 0 = λ t. IsTally test firsts n t in
    let Is : Tally → Type 0 = λ t. IsTally test firsts (n + 1) t in
    subst Is (sym put) (c.with-tally.ensures test firsts (subst Was (sym c.tally_of.ensures) was) passes first))
    c.put_tally.ensures.put
