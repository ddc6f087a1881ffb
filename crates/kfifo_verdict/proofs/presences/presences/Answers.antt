use Rattle.kfifo_verdict.proofs.ItemPresence.{presences_more}
use Rattle.kfifo_verdict.proofs.presences.presences.Goals as goal

pub loop-p-preserved : goal.loop-p-preserved
loop-p-preserved c =
    presences_more c.args.calls.now c.loop-p.p c.loop-p.found.items c.push.new.self.items c.presence_of.result
    c.loop-p.invariant
    c.presence_of.ensures c.in_ok-push.ensures.items
