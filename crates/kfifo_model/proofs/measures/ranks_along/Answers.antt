use Rattle.std.proofs.Common.{◌+◌, ◌++◌, map, drop, get_or, sym, ◌∙◌, ap}
use Rattle.std.proofs.lemmas.List.{append-nil}
use Rattle.kfifo_model.specs.Histories.{does}
use Rattle.kfifo_model.specs.Ranks.{ranks_of}
use Rattle.kfifo_model.proofs.Measuring.{runs_at, ranks_next, took_rank, no_rank, went_on}
use Rattle.kfifo_model.proofs.measures.ranks_along.Goals as goal
use Rattle.kfifo_model.proofs.measures.ranks_along.Goals.{in-Took+in_ok-push, in_default}

pub loop-n-preserved : goal.loop-n-preserved
loop-n-preserved c =
    let e = does c.args.calls.now (get_or c.args.order.now c.loop-n.n-index 0) in
    let gone = went_on c.args.k c.loop-n.items.items c.try_number.new.items.items e c.in_ok-tried.tried
    c.in_ok-tried.ensures
    (map (does c.args.calls.now) (drop (c.loop-n.n-index + 1) c.args.order.now))
    (runs_at c.args.k c.args.calls.now c.args.order.now c.loop-n.items.items c.loop-n.n-index c.loop-n-test.true
    c.loop-n.invariant.runs) in
    let all = ranks_next c.args.k c.args.calls.now c.args.order.now c.loop-n.found.items c.match-tried.found.items
    c.loop-n.items.items
    c.try_number.new.items.items c.loop-n.n-index (ranks_of c.args.k c.args.calls.now c.args.order.now)
    c.loop-n-test.true
    c.loop-n.invariant.told c.loop-n.invariant.runs gone
    (elim c.match-tried.branch [
      | in-Took+in_ok-push w ↦ ap (λ v. v.items) w.found-is
          ∙ (w.in_ok-push.ensures.items ∙ ap (λ t. c.loop-n.found.items ++ t)
          (sym (took_rank c.args.k c.loop-n.items.items c.try_number.new.items.items e c.in_ok-tried.tried
          w.in-Took.place
          c.in_ok-tried.ensures w.in-Took.is)))
      | in_default w ↦ ap (λ v. v.items) w.found-is
          ∙ (sym (append-nil c.loop-n.found.items)
          ∙ ap (λ t. c.loop-n.found.items ++ t) (sym
          (no_rank c.args.k c.loop-n.items.items c.try_number.new.items.items e c.in_ok-tried.tried
          c.in_ok-tried.ensures gone
          w.in_default.not-Took)))
    ]) in
    record { told = all.told; runs = all.runs }
