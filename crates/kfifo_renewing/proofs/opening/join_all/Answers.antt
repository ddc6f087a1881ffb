-- One thread more has a handle.
use Rattle.std.proofs.Common.{◌≡◌, ◌+◌, ◌++◌, ◌∷◌, [], All, arith, length, length-append, map, ap, ◌∙◌, subst, sym}
use Rattle.std.proofs.lemmas.List.{map-append}
use Rattle.std.proofs.lemmas.List.Elements.{All-push}
use Rattle.kfifo_live.specs.Schedule.{count_up}
use Rattle.kfifo_renewing.specs.Renewing.{Generations, HasOne, Numbered, OpensMore, may_open_more}
use Rattle.kfifo_renewing.specs.History.{opens_more}
use Rattle.kfifo_renewing.proofs.Parts.{count-more}
use Rattle.kfifo_renewing.proofs.opening.join_all.Goals as goal

pub loop-thread-preserved : goal.loop-thread-preserved
loop-thread-preserved g c =
    let T = g.row.T.Denot in
    let i = c.loop-thread.invariant in
    let n = c.loop-thread.thread in
    let before = c.loop-thread.handles.items in
    let handle = c.in_ok-handle.handle in
    let P : Generations T → Type 0 = HasOne c.args.generation.queue c.args.generation.book in
    let items = c.in_ok-push.ensures.items in
    let at : handle.thread ≡ 0 + n = omega (arith, c.in_ok-handle.ensures.thread) in
    record {
      each = subst (All P) (sym items) (All-push P before handle i.each
          (subst (λ (v : Numbered). HasOne v.queue v.book handle) c.in_ok-generation.ensures.ok
          c.in_ok-handle.ensures.one));
      more = subst (OpensMore (may_open_more c.args.plan.renewals)) (sym items)
          (All-push (λ (h : Generations T). opens_more h.seen ≡ may_open_more c.args.plan.renewals) before handle i.more
          (c.in_ok-handle.ensures.more ∙ ap (λ (v : Numbered). opens_more v.seen) c.in_ok-generation.ensures.ok
          ∙ c.requires.more));
      threads = ap (map (λ (h : Generations T). h.thread)) items ∙ map-append (λ (h : Generations T). h.thread) before
          (handle ∷ [])
          ∙ ap (λ l. l ++ handle.thread ∷ []) i.threads ∙ ap (λ t. count_up 0 n ++ t ∷ []) at ∙ sym (count-more 0 n);
      count = ap length items ∙ length-append before (handle ∷ []) ∙ ap (λ k. k + 1) i.count;
    }
