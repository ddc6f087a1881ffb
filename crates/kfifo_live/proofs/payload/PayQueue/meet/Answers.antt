use Rattle.std.proofs.Common.{vec_capacity, ◌∙◌, sym, ap, subst}
use Rattle.kfifo_live.specs.Payloads.{GivesOn, PayPassView, IsPayPass, pay_pass_view}
use Rattle.kfifo_live.specs.Schedule.{both_parts}
use Rattle.kfifo_live.proofs.Types.{View}
use Rattle.kfifo_live.proofs.Passes.{returned, promised}
use Rattle.kfifo_live.proofs.TokenMoves.{met_pass, met_gives, met_gives_from}
use Rattle.kfifo_live.proofs.payload.PayQueue.meet.Goals as goal

pub invariant_of-second : goal.invariant_of-second
invariant_of-second g c =
    met_pass c.give_all-whole.result.me.0 c.second.invariant
    (c.give_rest-rest.ensures.same.1 ∙ c.observe.ensures.same.1 ∙ c.join_seats.ensures.same.1) c.join_seats.ensures.both
    c.observe.ensures.looks c.give_rest-rest.ensures.kept

pub invariant_of-first : goal.invariant_of-first
invariant_of-first g c =
    let lent = c.give_all-whole.ensures.given.1 in
    let back = returned _ c.second.inside.seat.me c.first.inside.seat.me.0 _ _ _ _ _ _ _ c.second.invariant.pass
    (c.join_seats.ensures.both ∙ ap (both_parts c.second.inside.seat.me.0) lent) c.observe.ensures.looks.afterwards
    c.give_rest-rest.ensures.given.1 (c.join_seats-2.ensures.both
    ∙ ap (λ (v : View g.row.T.Denot). both_parts v c.give_rest-rest.result.me.0) c.give_all-whole.ensures.kept) in
    subst (λ me. IsPayPass c.first.inside.thread me c.first.inside.at_home.items (vec_capacity c.first.inside.at_home))
    (λ i. (sym back i, sym (c.join_seats-2.ensures.same.1 ∙ c.give_all-whole.ensures.same.1) i)) c.first.invariant

pub returns-clause-first : goal.returns-clause-first
returns-clause-first g c =
    let lent = c.give_all-whole.ensures.given.1 in
    let back = returned _ c.second.inside.seat.me c.first.inside.seat.me.0 _ _ _ _ _ _ _ c.second.invariant.pass
    (c.join_seats.ensures.both ∙ ap (both_parts c.second.inside.seat.me.0) lent) c.observe.ensures.looks.afterwards
    c.give_rest-rest.ensures.given.1 (c.join_seats-2.ensures.both
    ∙ ap (λ (v : View g.row.T.Denot). both_parts v c.give_rest-rest.result.me.0) c.give_all-whole.ensures.kept) in
    (λ i. pay_pass_view ((c.join_seats-2.ensures.same.0 ∙ c.give_all-whole.ensures.same.0) i) c.first.inside.thread
    (back i))
    ∙ c.first.view_is

pub returns-clause-promise : goal.returns-clause-promise
returns-clause-promise g c = (
  promised _ c.join_seats-2.new.seat.me (invariant_of-first g c).pass,
  promised _ c.give_rest-rest.new.seat.me (invariant_of-second g c).pass,
)

pub returns-clause-gifts : goal.returns-clause-gifts
returns-clause-gifts g c =
    let slots = c.give_rest-rest.ensures.same.1 ∙ c.observe.ensures.same.1 ∙ c.join_seats.ensures.same.1 in
    let both = c.join_seats.ensures.both in
    let looks = c.observe.ensures.looks in
    let kept = c.give_rest-rest.ensures.kept in
    let now = pay_pass_view c.give_rest-rest.new.seat.table_id c.second.inside.thread c.give_rest-rest.new.seat.me.0 in
    let P : PayPassView g.row.T.Denot → Type 0 = λ old. GivesOn old now in (
      subst P c.first.view_is (met_gives_from c.give_all-whole.result.me.0 c.second.invariant slots both looks kept
          c.first.inside.thread
          c.first.inside.seat.me c.first.invariant.pass.alone c.give_all-whole.ensures.given.1 _ _),
      subst P c.second.view_is (met_gives c.give_all-whole.result.me.0 c.second.invariant slots both looks kept _ _),
    )
