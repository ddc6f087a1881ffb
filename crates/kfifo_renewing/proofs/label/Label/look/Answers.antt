use Rattle.kfifo_renewing.proofs.Keeping.{found-there}
use Rattle.kfifo_renewing.proofs.label.Label.look.Goals as goal

pub number_in-requires : goal.number_in-requires
number_in-requires c = c.read.ensures.tells.small

pub returns-clause-finds : goal.returns-clause-finds
returns-clause-finds c =
    found-there c.args.self.now.place c.read.result c.number_in.result c.args.history.now.log c.read.new.history.log
    c.read.ensures.tells c.read.ensures.later.1 c.number_in.ensures.some c.number_in.ensures.word
