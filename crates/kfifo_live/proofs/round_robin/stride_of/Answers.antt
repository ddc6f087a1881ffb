-- Any k starts in a row differ, since no stride has a factor in common with k.
use Rattle.kfifo_live.proofs.Striding.{starts_differ}
use Rattle.kfifo_live.proofs.round_robin.stride_of.Goals as goal

pub returns-clause-differ : goal.returns-clause-differ
returns-clause-differ c = starts_differ c.args.threads c.args.k c.requires.k.0 c.requires.k.1
