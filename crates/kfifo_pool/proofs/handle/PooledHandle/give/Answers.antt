-- The token was reserved first. One that comes back is free again.
use Rattle.std.proofs.Common.{ap, refl, subst, sym, ◌∙◌}
use Rattle.kfifo_live.specs.declared.payload.Given.{Given}
use Rattle.kfifo_live.specs.declared.payload.token.Published.TheVariants as P
use Rattle.kfifo_live.specs.Calls.{IsDisturbed}
use Rattle.kfifo_live.specs.Payloads.{TokenView}
use Rattle.kfifo_live.specs.Tokens.{TokenHandleView}
use Rattle.kfifo_pool.specs.Pooled.{GivesOne, KeepsOne, Pooled, all_free, pass_of}
use Rattle.kfifo_pool.proofs.Gives.{gives_reserved, refuses}
use Rattle.kfifo_pool.proofs.handle.PooledHandle.give.Goals as goal
use Rattle.kfifo_pool.proofs.handle.PooledHandle.give.Goals.{in-Full, in-Busy, in-Worn}

pub returns-in-Done-clause-gives : goal.returns-in-Done-clause-gives
returns-in-Done-clause-gives g c =
    let f = c.self.inside in let did = c.in-Done.ensures in
    gives_reserved c.args.payload c.in-Some.token P.Done c.args.self.now c.reserve.new.self
    (record { held = f.handle; free = all_free f.free; cells = f.cells }) (record {
      held = c.give.new.self;
      free = all_free f.free;
      cells = f.cells;
    })
    c.in-Some.ensures.takes c.in-Some.ensures.same c.self.view_is did.gives did.starts did.promise

pub returns-clause-gives : goal.returns-clause-gives
returns-clause-gives g c =
    let T = g.row.T.Denot in let f = c.self.inside in let left = all_free f.free in let old = c.args.self.now in
    let ready : Pooled T = record { held = f.handle; free = left; cells = f.cells } in
    let given : Pooled T = record { held = c.give.new.self; free = left; cells = f.cells } in
    let new = c.release.new.self in
    elim c.match-give.branch [
      | in-Full w ↦ subst (λ (a : Given T × TokenView). GivesOne c.args.payload a.0 old new) (sym w.answer-is) (
        w.in-Full.token,
        refuses c.args.payload w.in-Full.token (P.Full w.in-Full.back w.in-Full.token) old given new
            (gives_reserved c.args.payload c.in-Some.token (P.Full w.in-Full.back w.in-Full.token) old
            c.reserve.new.self
            ready given c.in-Some.ensures.takes c.in-Some.ensures.same c.self.view_is w.in-Full.ensures.gives
            w.in-Full.ensures.starts w.in-Full.ensures.promise)
            c.release.ensures.same
            (subst (λ (a : Given T × TokenView). KeepsOne a.1 left new.free) w.answer-is
            c.release.ensures.keeps),
      )
      | in-Busy w ↦ subst (λ (a : Given T × TokenView). GivesOne c.args.payload a.0 old new) (sym w.answer-is) (
        w.in-Busy.token,
        refuses c.args.payload w.in-Busy.token (P.Busy w.in-Busy.back w.in-Busy.token) old given new
            (gives_reserved c.args.payload c.in-Some.token (P.Busy w.in-Busy.back w.in-Busy.token) old
            c.reserve.new.self
            ready given c.in-Some.ensures.takes c.in-Some.ensures.same c.self.view_is w.in-Busy.ensures.gives
            w.in-Busy.ensures.starts w.in-Busy.ensures.promise)
            c.release.ensures.same
            (subst (λ (a : Given T × TokenView). KeepsOne a.1 left new.free) w.answer-is
            c.release.ensures.keeps),
        subst (λ (held : TokenHandleView T). IsDisturbed (pass_of old.held) (pass_of held)) (sym c.release.ensures.same)
            (subst (λ (held : TokenHandleView T). IsDisturbed (pass_of held) (pass_of c.give.new.self))
            (ap (λ (h : Pooled T). h.held) c.self.view_is ∙ c.in-Some.ensures.same)
            (w.in-Busy.ensures.busy w.in-Busy.back w.in-Busy.token refl)),
      )
      | in-Worn w ↦ subst (λ (a : Given T × TokenView). GivesOne c.args.payload a.0 old new) (sym w.answer-is) (
        w.in-Worn.token,
        refuses c.args.payload w.in-Worn.token (P.Worn w.in-Worn.back w.in-Worn.token) old given new
            (gives_reserved c.args.payload c.in-Some.token (P.Worn w.in-Worn.back w.in-Worn.token) old
            c.reserve.new.self
            ready given c.in-Some.ensures.takes c.in-Some.ensures.same c.self.view_is w.in-Worn.ensures.gives
            w.in-Worn.ensures.starts w.in-Worn.ensures.promise)
            c.release.ensures.same
            (subst (λ (a : Given T × TokenView). KeepsOne a.1 left new.free) w.answer-is
            c.release.ensures.keeps),
      )
    ]
