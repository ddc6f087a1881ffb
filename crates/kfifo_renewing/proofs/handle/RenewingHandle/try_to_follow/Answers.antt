-- The handle looks how far others have come, joins what is new, and looks again.
use Rattle.kfifo_renewing.proofs.Following.{both-before, follows-seen, follows-trans}
use Rattle.kfifo_renewing.proofs.handle.RenewingHandle.try_to_follow.Goals as goal

pub returns : goal.returns
returns g c =
    let now = c.args.self.now in
    let known = c.latest-last.new.self in
    let joined = c.join_up_to.new.self in
    let new = c.start_giving.new.self in
    let first = follows-trans now known joined (follows-seen now known known.seen c.latest-last.ensures.same
    c.latest-last.ensures.later)
    c.join_up_to.ensures in record {
      follows = follows-trans now joined new first (follows-seen joined new new.seen c.start_giving.ensures.same
          c.start_giving.ensures.later);
      newest = both-before now joined new first.later.seen c.start_giving.result c.start_giving.ensures.newest;
      all = c.start_giving.ensures.all;
    }
