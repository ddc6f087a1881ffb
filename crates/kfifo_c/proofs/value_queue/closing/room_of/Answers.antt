use Rattle.std.proofs.Common.{◌≡◌, ◌-◌, ◌*◌, ◌++◌, ◌∷◌, [], ◌<◌, length, true≢false, inl, refl, sym, ap, ◌∙◌, arith}
use Rattle.kfifo_c.specs.Handles.{fields_of}
use Rattle.kfifo_c.proofs.AllHandles.{are_all, last_follows, needs_room, not_all}
use Rattle.kfifo_c.proofs.HandleLists.{all_pass, last_step, open_at, put_back, same_fields, values}
use Rattle.kfifo_c.proofs.value_queue.closing.room_of.Goals as goal

pub returns-then-not-are_open-clause-room : goal.returns-then-not-are_open-clause-room
returns-then-not-are_open-clause-room c = λ all. absurd (true≢false
    (sym (c.are_open.ensures ∙ all_pass values c.args.handles.now (all.others ++ all.last ∷ []) all.each_open)
    ∙ c.if-not-are_open.true))

pub seat_mut-seat-requires : goal.seat_mut-seat-requires
seat_mut-seat-requires c =
    let few : 0 < length c.args.handles.now = c.in-Some.ensures.item.3.0 in
    let last = open_at values c.args.handles.now (length c.args.handles.now - 1) c.in-Some.last.now
    (sym c.are_open.ensures ∙ c.if-not-are_open.false) (omega (arith, few)) in
    (last.0, ap (λ h. h.held.value) c.in-Some.ensures.item.1 ∙ last.1)

pub returns-then-count-threads-clause-follows : goal.returns-then-count-threads-clause-follows
returns-then-count-threads-clause-follows c =
    inl (put_back c.args.handles.now (length c.args.handles.now - 1) _ c.in-Some.last.now
    (sym c.seat_mut-seat.ensures.value ∙ ap (λ h. h.held.value) c.in-Some.ensures.item.1))

pub returns-then-count-threads-clause-fields : goal.returns-then-count-threads-clause-fields
returns-then-count-threads-clause-fields c = same_fields c.args.handles.now (length c.args.handles.now - 1) _
    c.in-Some.last.now (ap fields_of c.in-Some.ensures.item.1)

pub returns-then-count-threads-clause-room : goal.returns-then-count-threads-clause-room
returns-then-count-threads-clause-room c = λ all.
    let hs = c.args.handles.now in let seat = c.seat_mut-seat.result.now in
    let few : 0 < length hs = c.in-Some.ensures.item.3.0 in
    absurd (not_all values hs (length hs - 1) _ seat seat
    (last_step values hs (length hs - 1) _ c.in-Some.last.now seat seat
    (sym c.are_open.ensures ∙ c.if-not-are_open.false) (omega (arith, few))
    (sym (ap (λ h. h.held.value) c.in-Some.ensures.item.1) ∙ c.seat_mut-seat.ensures.value) refl)
    (λ e. c.if-count-threads.true (e ∙ sym c.threads.ensures)) all)

pub returns-in_default-generations-clause-follows : goal.returns-in_default-generations-clause-follows
returns-in_default-generations-clause-follows c =
    let hs = c.args.handles.now in let was = c.seat_mut-seat.result.now in let is = c.generations.new.self in
    let few : 0 < length hs = c.in-Some.ensures.item.3.0 in
    last_follows hs (length hs - 1) _ was is
    (last_step values hs (length hs - 1) _ c.in-Some.last.now was is (sym c.are_open.ensures ∙ c.if-not-are_open.false)
    (omega (arith, few))
    (sym (ap (λ h. h.held.value) c.in-Some.ensures.item.1) ∙ c.seat_mut-seat.ensures.value) refl)
    c.generations.ensures.follows

pub returns-in_default-generations-clause-fields : goal.returns-in_default-generations-clause-fields
returns-in_default-generations-clause-fields c = same_fields c.args.handles.now (length c.args.handles.now - 1) _
    c.in-Some.last.now (ap fields_of c.in-Some.ensures.item.1)

pub returns-clause-follows : goal.returns-clause-follows
returns-clause-follows c =
    let hs = c.args.handles.now in let was = c.seat_mut-seat.result.now in let is = c.generations.new.self in
    let few : 0 < length hs = c.in-Some.ensures.item.3.0 in
    last_follows hs (length hs - 1) _ was is
    (last_step values hs (length hs - 1) _ c.in-Some.last.now was is (sym c.are_open.ensures ∙ c.if-not-are_open.false)
    (omega (arith, few))
    (sym (ap (λ h. h.held.value) c.in-Some.ensures.item.1) ∙ c.seat_mut-seat.ensures.value) refl)
    c.generations.ensures.follows

pub returns-clause-fields : goal.returns-clause-fields
returns-clause-fields c = same_fields c.args.handles.now (length c.args.handles.now - 1) _ c.in-Some.last.now
    (ap fields_of c.in-Some.ensures.item.1)

pub returns-clause-room : goal.returns-clause-room
returns-clause-room c =
    let hs = c.args.handles.now in let was = c.seat_mut-seat.result.now in let is = c.generations.new.self in
    let few : 0 < length hs = c.in-Some.ensures.item.3.0 in
    let opened = c.generations.ensures.follows.later.opened in
    let last = last_step values hs (length hs - 1) _ c.in-Some.last.now was is
    (sym c.are_open.ensures ∙ c.if-not-are_open.false)
    (omega (arith, few)) (sym (ap (λ h. h.held.value) c.in-Some.ensures.item.1) ∙ c.seat_mut-seat.ensures.value) refl in
    let many : length hs ≡ is.opened.threads = c.if-count-threads.false ∙ c.threads.ensures
    ∙ ap (λ o. o.threads) (sym opened) in
    let slots = c.slots-slots.ensures ∙ ap (λ o. o.shape.n * o.shape.k) (sym opened) in
    needs_room c.checked_mul.result _ _ _ (are_all values hs (length hs - 1) _ was is last many) c.checked_mul.ensures
    (λ i. sym c.in-Some-generations.ensures.count i * sym slots i)
