use Rattle.std.proofs.Common.{refl, subst, vec_capacity, ◌≡◌, ◌++◌, ◌∷◌, [], Some, None, get_or, take, length, sym, ap}
use Rattle.std.proofs.Common.{◌∙◌, arith}
use Rattle.kfifo_live.specs.Pass.{IsPassOf}
use Rattle.kfifo_c.specs.Behind.{items_in}
use Rattle.kfifo_c.specs.Handles.{WasClosed, items_behind}
use Rattle.kfifo_c.specs.Exports.{passes_in, AreTheirs}
use Rattle.kfifo_c.proofs.Closings.{one_longer, next_items, passes_more, passes_same, theirs_more}
use Rattle.kfifo_c.proofs.ByKind.{items_not}
use Rattle.kfifo_c.proofs.Turns.{changed_more, rest_more}
use Rattle.kfifo_c.proofs.closing.take_all.Goals.{in-Some, in_default}
use Rattle.kfifo_c.proofs.closing.take_all.Goals as goal

pub loop-handle-preserved : goal.loop-handle-preserved
loop-handle-preserved c =
    let hs = c.loop-handle.handles in let i = c.loop-handle.handle-index in let d = c.handle-item.result in
    let olds = c.args.handles.now in let os = items_behind olds in let inv = c.loop-handle.invariant in
    let few = inv.few in let room = inv.room in
    let same : get_or hs i d ≡ get_or olds i d = inv.rest i d (omega arith) in
    elim c.match-take.branch [
      | in-Some w ↦
          let seat = w.in-Some.seat.value in
          let next = next_items olds os i d (Some seat) refl (omega arith) (ap (λ h. items_in h.held.value) (sym same)
          ∙ ap items_in w.in-Some.ensures.value) in
          let pass : w.into_pass.result ≡ seat.pass = w.into_pass.ensures.pass
          ∙ ap (λ s. s.pass) w.into_inner-seat.ensures in
          let items = ap (λ v. v.items) w.passes-is ∙ w.push_reserved.ensures.items in
          let longer = ap length items ∙ one_longer c.loop-handle.passes.items w.into_pass.result in
          let wide = ap (λ v. vec_capacity v) w.passes-is ∙ w.push_reserved.ensures.capacity in record {
            rest = rest_more olds hs i c.take.new.self inv.rest;
            closed = changed_more olds hs i c.take.new.self (WasClosed 1) d (omega arith) inv.rest inv.closed
                c.take.ensures.closed;
            taken = items ∙ ap (λ l. l ++ w.into_pass.result ∷ []) inv.taken
                ∙ ap (λ p. passes_in (take i os) ++ p ∷ []) pass
                ∙ sym (passes_more (take i os) seat) ∙ ap passes_in (sym next);
            theirs = subst AreTheirs (sym next) (theirs_more (take i os) (Some seat) inv.theirs
                (subst (λ p. IsPassOf seat.queue p) pass
                (subst (λ s. IsPassOf s.queue w.into_pass.result) w.into_inner-seat.ensures w.into_pass.ensures.of)));
            few = omega arith;
            room = omega arith;
          }
      | in_default w ↦
          let next = next_items olds os i d None refl (omega arith) (ap (λ h. items_in h.held.value) (sym same)
          ∙ items_not _ (λ e. w.in_default.ensures.value ((get_or hs i d).kind_is ∙ e))) in
          let longer = ap (λ v. length v.items) w.passes-is in
          let wide = ap (λ v. vec_capacity v) w.passes-is in record {
            rest = rest_more olds hs i c.take.new.self inv.rest;
            closed = changed_more olds hs i c.take.new.self (WasClosed 1) d (omega arith) inv.rest inv.closed
                c.take.ensures.closed;
            taken = ap (λ v. v.items) w.passes-is ∙ inv.taken ∙ sym (passes_same (take i os)) ∙ ap passes_in (sym next);
            theirs = subst AreTheirs (sym next) (theirs_more (take i os) None inv.theirs tt);
            few = omega arith;
            room = omega arith;
          }
    ]

pub returns-clause-closed : goal.returns-clause-closed
returns-clause-closed c =
    (c.loop-handle.auto.handles, λ i d below. c.loop-handle.invariant.closed i d (omega (arith, below)))
