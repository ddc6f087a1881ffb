use Rattle.std.proofs.Common.{◌+◌, ◌-◌, arith}
use Rattle.kfifo_verdict.specs.declared.presences.Presence.{Presence}
use Rattle.kfifo_verdict.proofs.EmptyWhileLeft.{lower_before, span_is}
use Rattle.kfifo_verdict.proofs.left.span_of.Goals as goal

pub overflow_sub-rank : goal.overflow_sub-rank
overflow_sub-rank c =
    let le = lower_before c.args.puts.now c.requires.puts.sorted c.args.i c.requires.inside in
    let below = c.count_below.ensures in
    omega (arith, le, below)

pub returns : goal.returns
returns c =
    let below = c.count_below.ensures in
    let gets_below = c.count_below-2.ensures in
    let s : Presence = record { start = c.begun_by.result; gone = c.gone_at.result } in
    span_is c.args.calls.now c.args.puts.now c.args.gets.now c.args.i
    (c.count_below-2.result + (c.args.i - c.count_below.result)) s
    c.requires.inside c.requires.puts c.requires.gets (omega (arith, below, gets_below)) c.begun_by.ensures
    c.gone_at.ensures
