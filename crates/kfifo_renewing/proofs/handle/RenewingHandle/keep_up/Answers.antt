use Rattle.kfifo_renewing.proofs.Following.{both-before, follows-seen, follows-trans}
use Rattle.kfifo_renewing.proofs.handle.RenewingHandle.keep_up.Goals as goal

pub returns-then-is_behind-clause-follows : goal.returns-then-is_behind-clause-follows
returns-then-is_behind-clause-follows g c = follows-trans c.args.self.now c.is_behind.new.self c.follow.new.self
    (follows-seen c.args.self.now c.is_behind.new.self c.is_behind.new.self.seen c.is_behind.ensures.same
    c.is_behind.ensures.later)
    c.follow.ensures.follows

pub returns-then-is_behind-clause-newest : goal.returns-then-is_behind-clause-newest
returns-then-is_behind-clause-newest g c = both-before c.args.self.now c.is_behind.new.self c.follow.new.self
    c.is_behind.ensures.later.seen c.follow.result c.follow.ensures.newest

pub returns-clause-follows : goal.returns-clause-follows
returns-clause-follows g c =
    follows-seen c.args.self.now c.is_behind.new.self c.is_behind.new.self.seen c.is_behind.ensures.same
    c.is_behind.ensures.later
