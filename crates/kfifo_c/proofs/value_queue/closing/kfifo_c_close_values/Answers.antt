use Rattle.std.proofs.Common.{◌≡◌, ◌++◌, ◌∷◌, [], length, drop, vec_len, List, ap, sym, subst, ◌∙◌, arith, rules}
use Rattle.kfifo_renewing.specs.Renewing.{AreOfOneQueue, ClosesAll}
use Rattle.kfifo_c.specs.declared.handle.Handle.{Handle}
use Rattle.kfifo_c.specs.Handles.{all_fields, behind, values_behind}
use Rattle.kfifo_c.specs.ValueSeats.{ValueSeated}
use Rattle.kfifo_c.specs.Values.{LastFollows, NeedsRoom}
use Rattle.kfifo_c.proofs.AllHandles.{all_seats, may_close, still_of_one}
use Rattle.kfifo_c.proofs.HandleLists.{all_closed, values}
use Rattle.kfifo_c.proofs.value_queue.closing.kfifo_c_close_values.Goals as goal

pub close-requires : goal.close-requires
close-requires c = subst (λ (seats : List ValueSeated). AreOfOneQueue seats) (sym c.in-Ok.ensures.taken)
    (still_of_one (behind c.args.passes.now) (behind c.room_of.new.handles) c.room_of.ensures.follows c.requires)

pub returns-in_default-clause-nothing : goal.returns-in_default-clause-nothing
returns-in_default-clause-nothing c = λ _.
    let same : c.take_all.new.handles ≡ c.room_of.new.handles = search (rules, c.in_default.ensures.refused) in
    subst (λ (hs : List Handle). LastFollows (behind c.args.passes.now) (behind hs)
    × (all_fields hs ≡ all_fields c.args.passes.now)) (sym same) (c.room_of.ensures.follows, c.room_of.ensures.fields)

pub returns-in_default-close-clause-may : goal.returns-in_default-close-clause-may
returns-in_default-close-clause-may c = λ _. (
  behind c.room_of.new.handles,
  c.room_of.ensures.follows,
  may_close _ _ _ _ c.in-Ok-Some.ensures.room c.in-Ok-Some.field-0-is c.if-values-room.false,
)

pub returns-then-not-write_values-clause-may : goal.returns-then-not-write_values-clause-may
returns-then-not-write_values-clause-may c = λ _. (
  behind c.room_of.new.handles,
  c.room_of.ensures.follows,
  may_close _ _ _ _ c.in-Ok-Some.ensures.room c.in-Ok-Some.field-0-is c.if-values-room.false,
)

pub returns-clause-may : goal.returns-clause-may
returns-clause-may c = λ _. (
  behind c.room_of.new.handles,
  c.room_of.ensures.follows,
  may_close _ _ _ _ c.in-Ok-Some.ensures.room c.in-Ok-Some.field-0-is c.if-values-room.false,
)

pub returns-clause-done : goal.returns-clause-done
returns-clause-done c = λ _.
    let os = values_behind c.room_of.new.handles in
    let all = (subst (λ o. NeedsRoom o os) c.in-Ok-Some.field-0-is c.in-Ok-Some.ensures.room).0 in
    let left = c.in-Ok-close.closed.left.items in
    let log = c.in-Ok-close.closed.history.log in
    let v : vec_len c.in-Ok-close.closed.left ≡ length left = omega arith in (
      behind c.room_of.new.handles,
      c.room_of.ensures.follows,
      record {
        all = all;
        left = left;
        log = log;
        closes = subst (λ (seats : List ValueSeated). ClosesAll seats left log)
            (c.in-Ok.ensures.taken ∙ all_seats os all) c.in-Ok-close.ensures.closes;
        count_is = c.len.ensures ∙ v;
        written = c.write_values.ensures.written c.if-not-write_values.false
            ∙ ap (λ l. l ++ drop (length l) c.args.values.now) c.as_slice.ensures.value;
      },
    )

pub returns-in_default-close-clause-closed : goal.returns-in_default-close-clause-closed
returns-in_default-close-clause-closed c = λ _.
    let os = values_behind c.room_of.new.handles in let closed = c.in-Ok.ensures.closed in
    let all = (subst (λ o. NeedsRoom o os) c.in-Ok-Some.field-0-is c.in-Ok-Some.ensures.room).0 in
    all_closed values c.room_of.new.handles c.take_all.new.handles (all.others ++ all.last ∷ []) all.each_open
    closed

pub returns-then-not-write_values-clause-closed : goal.returns-then-not-write_values-clause-closed
returns-then-not-write_values-clause-closed c = λ _.
    let os = values_behind c.room_of.new.handles in let closed = c.in-Ok.ensures.closed in
    let all = (subst (λ o. NeedsRoom o os) c.in-Ok-Some.field-0-is c.in-Ok-Some.ensures.room).0 in
    all_closed values c.room_of.new.handles c.take_all.new.handles (all.others ++ all.last ∷ []) all.each_open
    closed

pub returns-clause-closed : goal.returns-clause-closed
returns-clause-closed c = λ _.
    let os = values_behind c.room_of.new.handles in let closed = c.in-Ok.ensures.closed in
    let all = (subst (λ o. NeedsRoom o os) c.in-Ok-Some.field-0-is c.in-Ok-Some.ensures.room).0 in
    all_closed values c.room_of.new.handles c.take_all.new.handles (all.others ++ all.last ∷ []) all.each_open
    closed
