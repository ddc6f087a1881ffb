use Rattle.std.proofs.Common.{◌≡◌, ◌∙◌, sym, ap, subst}
use Rattle.kfifo_machine.specs.Runs.{own}
use Rattle.kfifo_live.specs.Pass.{PassView, IsPass, StartsWith, pass_view}
use Rattle.kfifo_live.specs.Schedule.{both_parts}
use Rattle.kfifo_live.proofs.Types.{View}
use Rattle.kfifo_live.proofs.Passes.{met, returned, both_begin, exactly_own, promised}
use Rattle.kfifo_live.proofs.meeting.meet.Goals as goal

pub invariant_of-second : goal.invariant_of-second
invariant_of-second c =
    met _ _ _ c.second.inside.seat.me c.give_rest-rest.new.seat.me c.give_all-whole.result.me.0
    c.join_seats.new.seat.me.0
    c.observe.new.seat.me.0 c.second.invariant
    (c.give_rest-rest.ensures.same.1 ∙ c.observe.ensures.same.1 ∙ c.join_seats.ensures.same.1)
    c.join_seats.ensures.both c.observe.ensures.looks c.give_rest-rest.ensures.kept

pub returns-clause-exactly : goal.returns-clause-exactly
returns-clause-exactly c before =
    let begins = both_begin c.give_all-whole.result.me.0 c.join_seats.new.seat.me.0 c.first.inside.thread
    c.second.inside.thread
    c.first.inside.seat.me c.second.inside.seat.me _ _ c.observe.new.seat.me.0
    c.first.invariant c.second.invariant c.give_all-whole.ensures.given.1 c.join_seats.ensures.both
    c.observe.ensures.looks in
    let P : PassView × PassView → Type 0 = λ x. StartsWith x.1.seen before → StartsWith before x.0.seen
    → own x.0.thread before ≡ own x.0.thread x.0.seen in
    subst P (λ i. (c.first.view_is i, c.second.view_is i))
    (exactly_own c.first.inside.thread c.second.inside.thread _ _ before _ begins.0 begins.1)

pub invariant_of-first : goal.invariant_of-first
invariant_of-first c =
    let lent = c.give_all-whole.ensures.given.1 in
    let back = returned _ c.second.inside.seat.me c.first.inside.seat.me.0 _ _ _ _ _ _ _ c.second.invariant
    (c.join_seats.ensures.both ∙ ap (both_parts c.second.inside.seat.me.0) lent) c.observe.ensures.looks.afterwards
    c.give_rest-rest.ensures.given.1
    (c.join_seats-2.ensures.both ∙ ap (λ (v : View (Unit {0})). both_parts v c.give_rest-rest.result.me.0)
    c.give_all-whole.ensures.kept) in
    subst (IsPass c.first.inside.thread)
    (λ i. (sym back i, sym (c.join_seats-2.ensures.same.1 ∙ c.give_all-whole.ensures.same.1) i))
    c.first.invariant

pub returns-clause-first : goal.returns-clause-first
returns-clause-first c =
    let lent = c.give_all-whole.ensures.given.1 in
    let back = returned _ c.second.inside.seat.me c.first.inside.seat.me.0 _ _ _ _ _ _ _ c.second.invariant
    (c.join_seats.ensures.both ∙ ap (both_parts c.second.inside.seat.me.0) lent) c.observe.ensures.looks.afterwards
    c.give_rest-rest.ensures.given.1
    (c.join_seats-2.ensures.both ∙ ap (λ (v : View (Unit {0})). both_parts v c.give_rest-rest.result.me.0)
    c.give_all-whole.ensures.kept) in
    (λ i. pass_view ((c.join_seats-2.ensures.same.0 ∙ c.give_all-whole.ensures.same.0) i) c.first.inside.thread
    (back i)) ∙ c.first.view_is

pub returns-clause-promise : goal.returns-clause-promise
returns-clause-promise c = (
  promised _ c.join_seats-2.new.seat.me (invariant_of-first c),
  promised _ c.give_rest-rest.new.seat.me (invariant_of-second c),
)
