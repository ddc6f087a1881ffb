use Rattle.std.proofs.Common.{◌≡◌, ◌++◌, ◌∷◌, [], Some, None, get_or, take, length, vec_capacity, sym, ap, ◌∙◌, arith}
use Rattle.kfifo_c.specs.Behind.{values_in}
use Rattle.kfifo_c.specs.Handles.{WasClosed, values_behind}
use Rattle.kfifo_c.specs.AllHandles.{seats_in}
use Rattle.kfifo_c.proofs.Closings.{one_longer}
use Rattle.kfifo_c.proofs.HandleLists.{values, next_behind, seats_more, seats_same}
use Rattle.kfifo_c.proofs.ByKind.{values_not}
use Rattle.kfifo_c.proofs.Turns.{changed_more, rest_more}
use Rattle.kfifo_c.proofs.value_queue.closing.take_all.Goals.{in-Some, in_default}
use Rattle.kfifo_c.proofs.value_queue.closing.take_all.Goals as goal

pub loop-handle-preserved : goal.loop-handle-preserved
loop-handle-preserved c =
    let hs = c.loop-handle.handles in let i = c.loop-handle.handle-index in let d = c.handle-item.result in
    let olds = c.args.handles.now in let os = values_behind olds in let inv = c.loop-handle.invariant in
    let few = inv.few in let room = inv.room in
    let same : get_or hs i d ≡ get_or olds i d = inv.rest i d (omega arith) in
    elim c.match-take.branch [
      | in-Some w ↦
          let seat = w.in-Some.seat.value in
          let next = next_behind values olds i d (Some seat) (omega arith) (ap (λ h. values_in h.held.value) (sym same)
          ∙ ap values_in w.in-Some.ensures.value) in
          let handle = w.into_handle.result in
          let is : handle ≡ seat = w.into_handle.ensures ∙ w.into_inner.ensures in
          let items = ap (λ v. v.items) w.taken-is ∙ w.push_reserved.ensures.items in
          let longer = ap length items ∙ one_longer c.loop-handle.taken.items handle in
          let wide = ap (λ v. vec_capacity v) w.taken-is ∙ w.push_reserved.ensures.capacity in record {
            rest = rest_more olds hs i c.take.new.self inv.rest;
            closed = changed_more olds hs i c.take.new.self (WasClosed 2) d (omega arith) inv.rest inv.closed
                c.take.ensures.closed;
            seats = items ∙ ap (λ l. l ++ handle ∷ []) inv.seats ∙ ap (λ s. seats_in (take i os) ++ s ∷ []) is
                ∙ sym (seats_more (take i os) seat) ∙ ap seats_in (sym next);
            few = omega arith;
            room = omega arith;
          }
      | in_default w ↦
          let next = next_behind values olds i d None (omega arith) (ap (λ h. values_in h.held.value) (sym same)
          ∙ values_not _ (λ e. w.in_default.ensures.value ((get_or hs i d).kind_is ∙ e))) in
          let longer = ap (λ v. length v.items) w.taken-is in
          let wide = ap (λ v. vec_capacity v) w.taken-is in record {
            rest = rest_more olds hs i c.take.new.self inv.rest;
            closed = changed_more olds hs i c.take.new.self (WasClosed 2) d (omega arith) inv.rest inv.closed
                c.take.ensures.closed;
            seats = ap (λ v. v.items) w.taken-is ∙ inv.seats ∙ sym (seats_same (take i os)) ∙ ap seats_in (sym next);
            few = omega arith;
            room = omega arith;
          }
    ]

pub returns-clause-closed : goal.returns-clause-closed
returns-clause-closed c =
    (c.loop-handle.auto.handles, λ i d below. c.loop-handle.invariant.closed i d (omega (arith, below)))
