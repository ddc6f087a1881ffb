-- The handle follows others, and then takes.
use Rattle.std.proofs.Common.{inl, inr, refl}
use Rattle.kfifo_renewing.proofs.handle.RenewingHandle.take_late.Goals as goal

pub returns-then-not-keep_up : goal.returns-then-not-keep_up
returns-then-not-keep_up g c =
    (c.keep_up.new.self, c.keep_up.ensures.follows, inr (c.if-not-keep_up.ensures.newest, refl, refl))

pub returns : goal.returns
returns g c = (
  c.keep_up.new.self,
  c.keep_up.ensures.follows,
  inl (
    c.if-not-keep_up.ensures.newest,
    c.keep_up.ensures.all,
    c.take_oldest.ensures,
  ),
)
