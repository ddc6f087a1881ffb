-- A pass is in no call, so what it put has come out.
use Rattle.std.proofs.Common.{[], ◌∷◌, refl, subst}
use Rattle.kfifo_live.specs.Groups.{LeaveNothing}
use Rattle.kfifo_live.specs.Payloads.{PayPassView, pay_pass_view}
use Rattle.kfifo_live.proofs.Gathered.{pass_idle}
use Rattle.kfifo_live.proofs.Groups.{begins-all, leave_nothing}
use Rattle.kfifo_live.proofs.TokenMoves.{pass_of_hand}
use Rattle.kfifo_live.proofs.tokens.TokenPass.has_ended.Goals as goal

pub returns : goal.returns
returns g c =
    let T = g.row.T.Denot in
    let s = c.self.inside.seat in
    let thread = c.self.inside.thread in
    let p = pass_of_hand c.self.invariant.0 in
    let v = pay_pass_view s.table_id thread s.me.0 in
    subst (λ (x : PayPassView T). LeaveNothing (x ∷ []) x.pass) c.self.view_is
    (leave_nothing (v ∷ []) v.pass p.idle.here p.few p.idle.reached (begins-all thread v.pass.seen, tt)
    (pass_idle s.me.0.opened thread s.me v.pass p refl refl refl, tt))
