use Rattle.std.proofs.Common.{All, List, map, ◌≡◌, ◌≤◌, ◌*◌, ◌++◌, length, drop, vec_len, sym, ap, subst, ◌∙◌, arith}
use Rattle.kfifo_live.specs.Pass.{OpenQueue, PassView, IsPassOf, Closes}
use Rattle.kfifo_c.specs.Behind.{items_in}
use Rattle.kfifo_c.specs.Handles.{items_behind}
use Rattle.kfifo_c.specs.Exports.{MayClose, passes_in, AreTheirs}
use Rattle.kfifo_c.proofs.Closings.{match_some, few_closed, closes_theirs, seats_open}
use Rattle.kfifo_c.proofs.HandleLists.{all_closed, items}
use Rattle.kfifo_c.proofs.closing.kfifo_c_close.Goals as goal

pub close-requires : goal.close-requires
close-requires c =
    let os = items_behind c.args.passes.now in
    let may = match_some _ _ c.in-Ok-Some.field-0 c.in-Ok-Some.queue c.in-Ok-Some.ensures.may c.in-Ok-Some.field-0-is in
    let may' = subst (λ (q : OpenQueue). MayClose q os (length c.args.items.now)) (sym c.in-Some.ensures) may in
    let same = c.in-Ok-Some.ensures.same in
    subst (All (IsPassOf c.in-Some.queue)) (sym (c.in-Ok.ensures.taken ∙ ap passes_in (ap (map items_in) same)))
    (closes_theirs os (length c.args.items.now) c.in-Some.queue may'
    (subst AreTheirs (ap (map items_in) same) c.in-Ok.ensures.of))

pub write_items-requires : goal.write_items-requires
write_items-requires c =
    let may = match_some _ _ c.in-Ok-Some.field-0 c.in-Ok-Some.queue c.in-Ok-Some.ensures.may c.in-Ok-Some.field-0-is in
    let few = few_closed c.in-Some.queue c.in-Ok.taken.items c.in-Ok-close.left.items c.in-Ok-close.ensures.ok in
    let wide = subst (λ (q : OpenQueue). q.opened.shape.n * q.opened.shape.k ≤ length c.args.items.now)
    (sym c.in-Some.ensures)
    may.room_is in
    let e = ap length c.as_slice.ensures.value in
    let slots = c.in-Some.queue.opened.shape.n * c.in-Some.queue.opened.shape.k in
    subst (λ n. n ≤ length c.args.items.now) (sym e) (omega (arith, few, wide))

pub returns-clause-done : goal.returns-clause-done
returns-clause-done c = λ _.
    let os = items_behind c.args.passes.now in
    let may = match_some _ _ c.in-Ok-Some.field-0 c.in-Ok-Some.queue c.in-Ok-Some.ensures.may c.in-Ok-Some.field-0-is in
    let may' = subst (λ (q : OpenQueue). MayClose q os (length c.args.items.now)) (sym c.in-Some.ensures) may in
    let taken = c.in-Ok.ensures.taken ∙ ap passes_in (ap (map items_in) c.in-Ok-Some.ensures.same) in
    let v : vec_len c.in-Ok-close.left ≡ length c.in-Ok-close.left.items = omega arith in record {
      queue = c.in-Some.queue;
      each_open = may'.each_open;
      left = c.in-Ok-close.left.items;
      closes = subst (λ (ps : List PassView). Closes c.in-Some.queue ps c.in-Ok-close.left.items) taken
          c.in-Ok-close.ensures.ok;
      count_is = c.len.ensures ∙ v;
      written = c.write_items.ensures ∙ ap (λ l. l ++ drop (length l) c.args.items.now) c.as_slice.ensures.value;
    }

pub returns-in_default-into_inner-clause-may : goal.returns-in_default-into_inner-clause-may
returns-in_default-into_inner-clause-may c =
    λ _. (
      c.in-Ok-Some.queue.value,
      match_some _ _ c.in-Ok-Some.field-0 c.in-Ok-Some.queue c.in-Ok-Some.ensures.may
          c.in-Ok-Some.field-0-is,
    )

pub returns-in_default-close-clause-may : goal.returns-in_default-close-clause-may
returns-in_default-close-clause-may c = λ _. (
  c.in-Ok-Some.queue.value,
  match_some _ _ c.in-Ok-Some.field-0 c.in-Ok-Some.queue c.in-Ok-Some.ensures.may
      c.in-Ok-Some.field-0-is,
)

pub returns-clause-may : goal.returns-clause-may
returns-clause-may c = λ _. (
  c.in-Ok-Some.queue.value,
  match_some _ _ c.in-Ok-Some.field-0 c.in-Ok-Some.queue c.in-Ok-Some.ensures.may c.in-Ok-Some.field-0-is,
)

pub returns-in_default-into_inner-clause-closed : goal.returns-in_default-into_inner-clause-closed
returns-in_default-into_inner-clause-closed c = λ _.
    let may = match_some _ _ c.in-Ok-Some.field-0 c.in-Ok-Some.queue c.in-Ok-Some.ensures.may c.in-Ok-Some.field-0-is in
    let seats = seats_open c.in-Ok-Some.queue.value (items_behind c.args.passes.now) may.each_open in
    let closed = c.in-Ok.ensures.closed in
    all_closed items c.ready.new.handles c.take_all.new.handles seats.0
    (ap (map items_in) c.in-Ok-Some.ensures.same ∙ seats.1) closed

pub returns-in_default-close-clause-closed : goal.returns-in_default-close-clause-closed
returns-in_default-close-clause-closed c = λ _.
    let may = match_some _ _ c.in-Ok-Some.field-0 c.in-Ok-Some.queue c.in-Ok-Some.ensures.may c.in-Ok-Some.field-0-is in
    let seats = seats_open c.in-Ok-Some.queue.value (items_behind c.args.passes.now) may.each_open in
    let closed = c.in-Ok.ensures.closed in
    all_closed items c.ready.new.handles c.take_all.new.handles seats.0
    (ap (map items_in) c.in-Ok-Some.ensures.same ∙ seats.1) closed

pub returns-clause-closed : goal.returns-clause-closed
returns-clause-closed c = λ _.
    let may = match_some _ _ c.in-Ok-Some.field-0 c.in-Ok-Some.queue c.in-Ok-Some.ensures.may c.in-Ok-Some.field-0-is in
    let seats = seats_open c.in-Ok-Some.queue.value (items_behind c.args.passes.now) may.each_open in
    let closed = c.in-Ok.ensures.closed in
    all_closed items c.ready.new.handles c.take_all.new.handles seats.0
    (ap (map items_in) c.in-Ok-Some.ensures.same ∙ seats.1) closed
