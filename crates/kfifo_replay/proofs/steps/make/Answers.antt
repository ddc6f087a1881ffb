-- The step is kept where the trace was not full.
use Rattle.kfifo_replay.proofs.Stepping.{keeps_step}
use Rattle.kfifo_replay.proofs.steps.make.Goals as goal

pub returns-clause-trace : goal.returns-clause-trace
returns-clause-trace c =
    let here = c.args.linearizer.now in
    keeps_step here.shape here.world c.feed.new.self.world c.args.event c.in-Ok.outcome c.look_ahead-look.result
    c.args.trace.now
    c.keep.new.trace c.requires.goes c.in-Ok.ensures.made c.look_ahead-look.ensures.full c.look_ahead-look.ensures.room
    c.look_ahead-look.ensures.look c.keep.ensures.most c.keep.ensures.steps
