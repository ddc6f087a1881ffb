-- The handles of all threads are of the queue of the generation.
use Rattle.std.proofs.Common.{All, ap, sym, ◌∙◌, subst}
use Rattle.kfifo_live.specs.Pass.{IsPassOf, OpenQueue}
use Rattle.kfifo_pool.specs.Pooled.{Pooled}
use Rattle.kfifo_renewing.specs.Joining.{PartView}
use Rattle.kfifo_renewing.specs.Renewing.{Numbered}
use Rattle.kfifo_renewing.proofs.closing.end.Goals as goal

pub into_parts-requires : goal.into_parts-requires
into_parts-requires g c k d inside =
    let T = g.row.T.Denot in
    let handle_is = c.into_parts-generation.ensures.handle ∙ ap (λ (p : PartView T). p.handle) c.into_part.ensures in
    let beside = c.requires k d inside in
    let of = subst (λ (v : Numbered). IsPassOf v.queue c.into_parts-generation.result.1.held.pass.pass)
    (sym c.in-Some.ensures) c.into_parts-generation.ensures.of in (
      beside.0 ∙ sym (ap (λ (h : Pooled T). h.held.pass.pass.table) handle_is) ∙ of.0,
      beside.1 ∙ sym (ap (λ (h : Pooled T). h.held.pass.pass.opened) handle_is) ∙ of.1,
    )

pub returns-clause-of : goal.returns-clause-of
returns-clause-of g c =
    let T = g.row.T.Denot in
    let of = subst (λ (v : Numbered). IsPassOf v.queue c.into_parts-generation.result.1.held.pass.pass)
    (sym c.in-Some.ensures) c.into_parts-generation.ensures.of in (
      subst (λ (q : OpenQueue). IsPassOf q c.into_parts-generation.result.1.held.pass.pass)
          (sym c.in_ok-queue.ensures.queue) of,
      subst (λ (q : OpenQueue). All (λ (h : Pooled T). IsPassOf q h.held.pass.pass) c.in_ok-queue.others.items)
          (sym c.in_ok-queue.ensures.queue) c.in_ok-queue.ensures.of,
    )
