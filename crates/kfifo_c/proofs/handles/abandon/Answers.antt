use Rattle.std.proofs.Common.{arith}
use Rattle.kfifo_c.specs.Handles.{WasClosed}
use Rattle.kfifo_c.proofs.Turns.{changed_more, rest_more}
use Rattle.kfifo_c.proofs.handles.abandon.Goals as goal

pub loop-handle-preserved : goal.loop-handle-preserved
loop-handle-preserved g c =
    let hs = c.loop-handle.handles in let i = c.loop-handle.handle-index in let olds = c.args.handles.now in
    let inv = c.loop-handle.invariant in
    record {
      rest = rest_more olds hs i c.take-seat.new.self inv.rest;
      closed = changed_more olds hs i c.take-seat.new.self (WasClosed g.S.Seating.KIND) c.handle-item.result
          (omega arith) inv.rest inv.closed c.take-seat.ensures.closed;
    }

pub returns : goal.returns
returns g c = (c.loop-handle.auto.handles, λ i d below. c.loop-handle.invariant.closed i d (omega (arith, below)))
