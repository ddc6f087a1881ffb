-- The group has then seen what the pass has.
use Rattle.std.proofs.Common.{◌≡◌, ap, refl, sym, ◌∙◌, subst}
use Rattle.kfifo_live.specs.Groups.{GroupView, IsGroup, Meets, group_view}
use Rattle.kfifo_live.specs.Payloads.{PayPassView, pay_pass_view}
use Rattle.kfifo_live.specs.Schedule.{both_parts, gifts_of, seen_of}
use Rattle.kfifo_live.proofs.Groups.{HasMet, ends_more, has_met, lent_parts, none_left, parts_back}
use Rattle.kfifo_live.proofs.Passes.{keeps_promise}
use Rattle.kfifo_live.proofs.TokenMoves.{pass_of_hand}
use Rattle.kfifo_live.proofs.Types.{View}
use Rattle.kfifo_live.proofs.tokens.TokenQueue.meet.Given.{Over}
use Rattle.kfifo_live.proofs.tokens.TokenQueue.meet.Goals as goal

met : (g : Over) (c : goal.After-join_seats-4 g) → HasMet c.group.inside.thread c.pass.inside.thread
    c.group.inside.seat.table_id c.group.inside.seat.me c.pass.inside.seat.me c.join_seats-4.new.seat.me
met g c =
    let T = g.row.T.Denot in
    let s = c.group.inside.seat in
    let mine = c.pass.inside.seat.me in
    let lent = c.join_seats.new.seat.me.0 in
    let both = lent_parts c.group.inside.thread c.pass.inside.thread s.table_id s.me mine c.give_all-lent.result.me.0
    c.give_rest-others.result.me.0 lent c.join_seats-2.new.seat.me.0 c.group.invariant
    (pass_of_hand c.pass.invariant.0) c.give_all-lent.ensures.given.1 c.give_rest-others.ensures.given.1
    c.join_seats.ensures.both
    (c.join_seats-2.ensures.both ∙ ap (λ (v : View T). both_parts v lent) c.give_rest-others.ensures.kept) in
    let looks = c.observe.ensures.looks in
    let view = parts_back c.group.inside.thread c.pass.inside.thread c.observe.result s.me mine
    c.join_seats-2.new.seat.me.0 c.observe.new.seat.me.0 c.give_rest-back.result.me.0 c.join_seats-4.new.seat.me.0 both
    looks c.give_rest-back.ensures.given.1
    (c.join_seats-4.ensures.both
    ∙ (λ i. both_parts (c.give_rest-back.ensures.kept i) (c.give_rest-others-2.ensures.given.1 i))) in
    has_met c.group.inside.thread c.pass.inside.thread c.observe.result s.table_id s.me mine
    c.join_seats-4.new.seat.me c.join_seats-2.new.seat.me.0 c.observe.new.seat.me.0 c.group.invariant both looks view
    (c.join_seats-4.ensures.same.1 ∙ c.give_rest-back.ensures.same.1 ∙ c.observe.ensures.same.1
    ∙ c.join_seats-2.ensures.same.1 ∙ c.give_rest-others.ensures.same.1)

home : (g : Over) (c : goal.After-join_seats-4 g) → c.join_seats-4.new.seat.table_id ≡ c.group.inside.seat.table_id
home g c = c.join_seats-4.ensures.same.0 ∙ c.give_rest-back.ensures.same.0 ∙ c.observe.ensures.same.0
    ∙ c.join_seats-2.ensures.same.0 ∙ c.give_rest-others.ensures.same.0

pub invariant_of-group : goal.invariant_of-group
invariant_of-group g c =
    subst (λ t. IsGroup c.group.inside.thread t c.join_seats-4.new.seat.me) (sym (home g c)) (met g c).group

pub returns-clause-meets : goal.returns-clause-meets
returns-clause-meets g c =
    let T = g.row.T.Denot in
    let s = c.group.inside.seat in
    let new = c.join_seats-4.new.seat.me in
    let thread = c.group.inside.thread in
    let m = met g c in
    let v = group_view s.table_id thread s.me.0 in
    let q = pay_pass_view c.pass.inside.seat.table_id c.pass.inside.thread c.pass.inside.seat.me.0 in
    let same = ap (λ (p : PayPassView T). p.pass.opened) c.pass.view_is ∙ c.requires.pass.1 ∙ sym c.requires.group.1
    ∙ sym (ap (λ (v : GroupView T). v.first.pass.opened) c.group.view_is) in
    subst (λ (x : GroupView T × PayPassView T).
    Meets x.1 x.0 (group_view c.join_seats-4.new.seat.table_id thread new.0))
    (λ i. (c.group.view_is i, c.pass.view_is i))
    (subst (λ t. Meets q v (group_view t thread new.0)) (sym (home g c)) (record {
      same = (refl, m.opened, refl);
      others = m.same;
      later = m.first;
      ends = ends_more (seen_of new.0) (gifts_of new.0) v.others q m.others m.pass;
      promise = keeps_promise new.0.opened (seen_of new.0) m.group.idle.here m.group.few.0 m.group.idle.reached;
      nothing = none_left thread c.pass.inside.thread s.table_id c.pass.inside.seat.table_id s.me c.pass.inside.seat.me
          new c.group.invariant (pass_of_hand c.pass.invariant.0) same m;
    }))
