use Rattle.std.proofs.Common.{[], length, ap, ◌∙◌, List}
use Rattle.kfifo_model.proofs.Types.{Call}
use Rattle.kfifo_model.specs.Histories.{IsLegal}
use Rattle.kfifo_model.specs.Ranks.{gots_in}
use Rattle.kfifo_model.proofs.Measuring.{length-ranks_at}
use Rattle.kfifo_model.proofs.measures.ranks.Goals as goal

pub returns-clause-one_each : goal.returns-clause-one_each
returns-clause-one_each c =
    let legal : IsLegal c.args.k c.calls-calls.result.now c.args.order.now =
    c.in_ok-is_legal.ensures.0 c.if-not-branch.false in
    ap length c.in_ok-ranks_along.ensures ∙ length-ranks_at c.args.k c.calls-calls.result.now c.args.order.now []
    legal.is_run
    ∙ ap (λ (h : List Call). gots_in h c.args.order.now) c.calls-calls.ensures.calls
