-- The first take found the generation empty, and a second one may have sealed it.
use Rattle.std.proofs.Common.{inr}
use Rattle.kfifo_renewing.proofs.joined.Leaving+Joined+T.take_older.Goals as goal

pub returns-in-Empty-clause-takes : goal.returns-in-Empty-clause-takes
returns-in-Empty-clause-takes g c =
    inr (c.take_here-taken.new.self.handle, c.in-Empty.ensures.takes, c.seal_if.ensures.seals)
