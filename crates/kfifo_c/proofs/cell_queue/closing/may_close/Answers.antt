use Rattle.std.proofs.Common.{◌<◌, ◌-◌, ◌++◌, ◌∷◌, [], length, map, subst, true≢false, refl, sym, ap, ◌∙◌, arith, rules}
use Rattle.kfifo_c.specs.Handles.{fields_of}
use Rattle.kfifo_c.specs.AllHandles.{AreAll}
use Rattle.kfifo_c.specs.Behind.{cells_in}
use Rattle.kfifo_c.proofs.AllHandles.{are_all, not_all}
use Rattle.kfifo_c.proofs.HandleLists.{all_pass, cells, last_step, open_at, put_back, same_fields}
use Rattle.kfifo_c.proofs.cell_queue.closing.may_close.Goals as goal

pub returns-then-not-are_open-clause-may : goal.returns-then-not-are_open-clause-may
returns-then-not-are_open-clause-may c = (
  λ no_way. search rules,
  λ all. absurd (true≢false (sym (c.are_open.ensures
      ∙ all_pass cells c.args.handles.now (all.others ++ all.last ∷ []) all.each_open) ∙ c.if-not-are_open.true)),
)

pub seat_mut-seat-requires : goal.seat_mut-seat-requires
seat_mut-seat-requires c =
    let few : 0 < length c.args.handles.now = c.in-Some.ensures.item.3.0 in
    let last = open_at cells c.args.handles.now (length c.args.handles.now - 1) c.in-Some.last.now
    (sym c.are_open.ensures ∙ c.if-not-are_open.false) (omega (arith, few)) in
    (last.0, ap (λ h. h.held.value) c.in-Some.ensures.item.1 ∙ last.1)

pub returns-then-count-threads-clause-same : goal.returns-then-count-threads-clause-same
returns-then-count-threads-clause-same c = put_back c.args.handles.now (length c.args.handles.now - 1) _
    c.in-Some.last.now (sym c.seat_mut-seat.ensures.value ∙ ap (λ h. h.held.value) c.in-Some.ensures.item.1)

pub returns-then-count-threads-clause-fields : goal.returns-then-count-threads-clause-fields
returns-then-count-threads-clause-fields c = same_fields c.args.handles.now (length c.args.handles.now - 1) _
    c.in-Some.last.now (ap fields_of c.in-Some.ensures.item.1)

pub returns-then-count-threads-clause-may : goal.returns-then-count-threads-clause-may
returns-then-count-threads-clause-may c = (
  λ no_way. search rules,
  λ m.
      let hs = c.args.handles.now in let seat = c.seat_mut-seat.result.now in
      let few : 0 < length hs = c.in-Some.ensures.item.3.0 in
      let last = last_step cells hs (length hs - 1) c.in-Some.last.now c.in-Some.last.now seat seat
      (sym c.are_open.ensures ∙ c.if-not-are_open.false) (omega (arith, few))
      (sym (ap (λ h. h.held.value) c.in-Some.ensures.item.1) ∙ c.seat_mut-seat.ensures.value)
      c.seat_mut-seat.ensures.value in
      let back = put_back hs (length hs - 1) c.in-Some.last.now c.in-Some.last.now
      (ap (λ h. h.held.value) c.in-Some.ensures.item.1) in
      absurd (not_all cells hs (length hs - 1) c.in-Some.last.now seat seat last
      (λ e. c.if-count-threads.true (e ∙ sym c.threads.ensures))
      (subst (λ os. AreAll (map cells_in os)) (sym back) m)),
)

pub returns-clause-same : goal.returns-clause-same
returns-clause-same c = put_back c.args.handles.now (length c.args.handles.now - 1) _ c.in-Some.last.now
    (sym c.seat_mut-seat.ensures.value ∙ ap (λ h. h.held.value) c.in-Some.ensures.item.1)

pub returns-clause-fields : goal.returns-clause-fields
returns-clause-fields c = same_fields c.args.handles.now (length c.args.handles.now - 1) _ c.in-Some.last.now
    (ap fields_of c.in-Some.ensures.item.1)

pub returns-clause-may : goal.returns-clause-may
returns-clause-may c =
    let hs = c.args.handles.now in let seat = c.seat_mut-seat.result.now in
    let few : 0 < length hs = c.in-Some.ensures.item.3.0 in
    let last = last_step cells hs (length hs - 1) c.in-Some.last.now c.in-Some.last.now seat seat
    (sym c.are_open.ensures ∙ c.if-not-are_open.false) (omega (arith, few))
    (sym (ap (λ h. h.held.value) c.in-Some.ensures.item.1) ∙ c.seat_mut-seat.ensures.value)
    c.seat_mut-seat.ensures.value in
    let back = put_back hs (length hs - 1) c.in-Some.last.now c.in-Some.last.now
    (ap (λ h. h.held.value) c.in-Some.ensures.item.1) in (
      λ _. subst (λ os. AreAll (map cells_in os)) back
          (are_all cells hs (length hs - 1) c.in-Some.last.now seat seat last
          (c.if-count-threads.false ∙ c.threads.ensures)),
      λ m. refl,
    )
