-- The handle leaves generations that are over after the takes too.
use Rattle.kfifo_renewing.proofs.Departures.{leaves-later, leaves-trans}
use Rattle.kfifo_renewing.proofs.handle.RenewingHandle.take_older.Goals as goal

pub returns-clause-takes : goal.returns-clause-takes
returns-clause-takes g c =
    let took = c.take_first-taken.ensures.takes in
    let mid = c.take_first-taken.new.self in
    let last = c.leave_gone.new.self in (
      took.0,
      took.1,
      leaves-trans last.seen took.0 mid.older last.older
          (leaves-later mid.seen last.seen took.0 mid.older c.leave_gone.ensures.later.seen took.2)
          c.leave_gone.ensures.older,
    )
