-- The handle follows others, and then gives.
use Rattle.std.proofs.Common.{ap, inl, inr, refl, subst}
use Rattle.kfifo_pool.specs.Pooled.{GivesOne, Pooled}
use Rattle.kfifo_live.specs.Pass.{IsSamePass}
use Rattle.kfifo_renewing.specs.Renewing.{Generations, with_newest}
use Rattle.kfifo_renewing.proofs.payloads.RenewingHandle+T+Payloads.try_to_give.Goals as goal

pub returns-then-not-keep_up : goal.returns-then-not-keep_up
returns-then-not-keep_up g c =
    (c.keep_up.new.self, c.keep_up.ensures.follows, inr (c.if-not-keep_up.ensures.newest, refl, refl))

pub returns : goal.returns
returns g c =
    let newest = ap (λ (h : Generations g.row.T.Denot). h.newest) c.self.view_is in (
      c.keep_up.new.self,
      c.keep_up.ensures.follows,
      inl (
        c.if-not-keep_up.ensures.newest,
        record {
          others = ap (λ (h : Generations g.row.T.Denot). with_newest h c.give.new.self.handle) c.self.view_is;
          same = subst (λ (h : Pooled g.row.T.Denot). IsSamePass h.held.pass.pass c.give.new.self.handle.held.pass.pass)
              newest c.give.ensures.same.2;
          gives = subst (λ (h : Pooled g.row.T.Denot). GivesOne c.args.payload c.give.result h c.give.new.self.handle)
              newest c.give.ensures.gives;
        },
      ),
    )
