-- The generation that was found is this one, or another one, and then this one has gone.
use Rattle.std.proofs.Common.{nat_eq, refl}
use Rattle.kfifo_renewing.proofs.Keeping.{has-found, has-none}
use Rattle.kfifo_renewing.proofs.places.Places.has.Goals as goal

pub returns-in-Some-clause-finds : goal.returns-in-Some-clause-finds
returns-in-Some-clause-finds g c = has-found c.args.index c.args.number c.in-Some.found c.args.history.now.log
    c.look.new.history.log c.in-Some.ensures.finds (nat_eq c.in-Some.found c.args.number) refl

pub returns-in-None-clause-finds : goal.returns-in-None-clause-finds
returns-in-None-clause-finds g c there = has-none c.args.index c.args.number c.args.history.now.log
    c.look.new.history.log c.in-None.ensures.finds there
