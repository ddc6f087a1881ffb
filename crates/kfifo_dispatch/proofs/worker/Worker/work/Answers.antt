-- Each take is one more of those that the worker makes in all.
use Rattle.std.proofs.Common.{arith, ◌∙◌, ◌≡◌, ◌<◌}
use Rattle.kfifo_dispatch.proofs.Running.{at_end, goes_on, is_over, may_still, same_trans}
use Rattle.kfifo_dispatch.proofs.worker.Worker.work.Goals as goal

pub returns-in-Over-clause-works : goal.returns-in-Over-clause-works
returns-in-Over-clause-works g c =
    let less : c.loop-call.call < 65536 = omega (arith, c.loop-call-test.true) in
    is_over (g.P.Station.passes c.args.gate.now) _ g.P.Station.takes g.P.Station.gives _ _ _ _ _ _ _ _ _ _ _ _
    c.loop-call.invariant.ends less c.loop-call.invariant.turns c.in-Over.is c.take_once.ensures.turn

pub loop-call-preserved : goal.loop-call-preserved
loop-call-preserved g c =
    let i = c.loop-call.invariant in
    let less : c.loop-call.call < 65536 = omega (arith, c.loop-call-test.true) in
    let before = g.P.Station.known c.loop-call.self.pass in
    let after = g.P.Station.known c.take_once.new.self.pass in
    let same = c.take_once.ensures.same in
    record {
      may = may_still c.args.queue.now before after c.loop-call.self.starts c.take_once.new.self.starts
          c.loop-call.self.turns c.take_once.new.self.turns i.may same.0 same.1 same.2;
      same = same_trans (g.P.Station.known c.args.self.now.pass) before after i.same same.0;
      turns = same.2 ∙ i.turns;
      ends =
          goes_on (g.P.Station.passes c.args.gate.now) _ g.P.Station.takes g.P.Station.gives _ _ _ _ _ _ _ _ _ _ _ _ _ _
          i.ends less i.turns c.in-On.is c.take_once.ensures.turn c.in_ok-keep-in-On.ensures;
    }

pub returns-clause-works : goal.returns-clause-works
returns-clause-works g c =
    let all : c.loop-call.call ≡ 65536 = omega (arith, c.loop-call.auto.call-end, c.loop-call-test.false) in
    at_end (g.P.Station.passes c.args.gate.now) _ g.P.Station.takes g.P.Station.gives _ _ _ _ _ _ _ _
    c.loop-call.invariant.ends all
