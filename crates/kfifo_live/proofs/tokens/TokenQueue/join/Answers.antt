-- The pass is then one of the group.
use Rattle.std.proofs.Common.{ap, sym, ◌∙◌, subst}
use Rattle.kfifo_live.specs.Groups.{GroupView, IsGroup}
use Rattle.kfifo_live.specs.Payloads.{EndsIn, PayPassView, pay_pass_view}
use Rattle.kfifo_live.proofs.Groups.{joined}
use Rattle.kfifo_live.proofs.TokenMoves.{pass_of_hand}
use Rattle.kfifo_live.proofs.tokens.TokenQueue.join.Goals as goal

pub invariant_of-group : goal.invariant_of-group
invariant_of-group g c =
    let T = g.row.T.Denot in
    let s = c.group.inside.seat in
    let j = c.join_seats.ensures in
    let met = subst (λ (x : PayPassView T). EndsIn c.args.group.now.first.pass.seen c.args.group.now.first.gifts x)
    (sym c.pass.view_is) c.requires.met in
    subst (λ t. IsGroup c.group.inside.thread t c.join_seats.new.seat.me) (sym j.same.0)
    (joined c.group.inside.thread c.pass.inside.thread s.table_id s.me c.pass.inside.seat.me c.join_seats.new.seat.me
    c.group.invariant (pass_of_hand c.pass.invariant.0)
    (ap (λ (p : PayPassView T). p.pass.opened) c.pass.view_is ∙ c.requires.pass.1 ∙ sym c.requires.group.1
    ∙ sym (ap (λ (v : GroupView T). v.first.pass.opened) c.group.view_is))
    (subst (λ (v : GroupView T). EndsIn v.first.pass.seen v.first.gifts
    (pay_pass_view c.pass.inside.seat.table_id c.pass.inside.thread c.pass.inside.seat.me.0)) (sym c.group.view_is) met)
    j.both j.same.1).0
