use Rattle.std.proofs.Common.{inl, inr, refl}
use Rattle.kfifo_renewing.proofs.Following.{later-refl}
use Rattle.kfifo_renewing.proofs.handle.RenewingHandle.look_again.Goals as goal

pub returns-then-is_behind : goal.returns-then-is_behind
returns-then-is_behind g c = record {
  same = c.is_behind.ensures.same;
  later = c.is_behind.ensures.later;
  looks = inr (c.in-Empty.is, inr (refl, c.if-is_behind.ensures.newest));
}

pub returns-else-is_behind : goal.returns-else-is_behind
returns-else-is_behind g c = record {
  same = c.is_behind.ensures.same;
  later = c.is_behind.ensures.later;
  looks = inr (c.in-Empty.is, inl (c.in-Empty.is, c.if-is_behind.ensures.newest));
}

pub returns-in_default : goal.returns-in_default
returns-in_default g c = record {
  same = refl;
  later = later-refl c.args.self.now;
  looks = inl (c.in_default.not-Empty, refl, refl);
}
