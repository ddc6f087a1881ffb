use Rattle.std.proofs.Common.{map, take, get_or, refl, ◌++◌, ◌∷◌, [], Some, None, sym, ap, ◌∙◌, arith}
use Rattle.kfifo_c.specs.Handles.{all_fields, behind, items_behind}
use Rattle.kfifo_c.specs.Exports.{numbers_in}
use Rattle.kfifo_c.specs.Behind.{items_in}
use Rattle.kfifo_c.proofs.ByKind.{items_from, no_items_in}
use Rattle.kfifo_c.proofs.HandleLists.{put_back, same_fields}
use Rattle.kfifo_c.proofs.Closings.{next_items, numbers_more, numbers_same}
use Rattle.kfifo_c.proofs.closing.numbers.Goals.{then-handle-ne0+in_ok-push, else-handle-ne0}
use Rattle.kfifo_c.proofs.closing.numbers.Goals as goal

pub seat_mut-requires : goal.seat_mut-requires
seat_mut-requires c = items_from _ (λ e. c.if-handle-ne0.true
    ((get_or c.loop-handle.handles c.loop-handle.handle-index c.handle-item.result).starts_are ∙ e))

pub returns-in_err-push-clause-same : goal.returns-in_err-push-clause-same
returns-in_err-push-clause-same c = put_back c.loop-handle.handles c.loop-handle.handle-index _ c.handle-item.result
    (sym c.seat_mut.ensures.value) ∙ c.loop-handle.invariant.same

pub returns-in_err-push-clause-fields : goal.returns-in_err-push-clause-fields
returns-in_err-push-clause-fields c = same_fields c.loop-handle.handles c.loop-handle.handle-index _
    c.handle-item.result refl
    ∙ c.loop-handle.invariant.fields

pub loop-handle-preserved : goal.loop-handle-preserved
loop-handle-preserved c =
    let hs = c.loop-handle.handles in let i = c.loop-handle.handle-index in let d = c.handle-item.result in let os =
    items_behind c.args.handles.now in
    elim c.if-handle-ne0.branch [
      | then-handle-ne0+in_ok-push w ↦ record {
        same = ap behind w.handles-is ∙ put_back hs i _ d (sym w.seat_mut.ensures.value) ∙ c.loop-handle.invariant.same;
        fields = ap all_fields w.handles-is ∙ same_fields hs i _ d refl ∙ c.loop-handle.invariant.fields;
        found = ap (λ v. v.items) w.numbers-is ∙ w.in_ok-push.ensures.items
            ∙ ap (λ l. l ++ w.thread.result ∷ []) c.loop-handle.invariant.found
            ∙ ap (λ n. numbers_in (take i os) ++ n ∷ []) w.thread.ensures
            ∙ sym (numbers_more (take i os) w.seat_mut.result.now)
            ∙ ap numbers_in
            (sym (next_items hs os i d (Some w.seat_mut.result.now) (ap (map items_in) c.loop-handle.invariant.same)
            (omega arith)
            (ap items_in w.seat_mut.ensures.value)));
      }
      | else-handle-ne0 w ↦ record {
        same = ap behind w.handles-is ∙ put_back hs i _ d refl ∙ c.loop-handle.invariant.same;
        fields = ap all_fields w.handles-is ∙ same_fields hs i _ d refl ∙ c.loop-handle.invariant.fields;
        found = ap (λ v. v.items) w.numbers-is ∙ c.loop-handle.invariant.found
            ∙ sym (numbers_same (take i os)) ∙ ap numbers_in
            (sym (next_items hs os i d None (ap (map items_in) c.loop-handle.invariant.same) (omega arith)
            (no_items_in _ (sym (get_or hs i d).starts_are ∙ w.if-handle-ne0.false))));
      }
    ]
