use Rattle.std.proofs.Common.{arith}
use Rattle.kfifo_import.proofs.Logs.{call_for_each, same_count}
use Rattle.kfifo_import.proofs.table.log_in.Goals as goal

pub returns-clause-few : goal.returns-clause-few
returns-clause-few c =
    let each = call_for_each c.in_ok-lines.lines.items c.in_ok-log.log.history c.in_ok-log.log.calls.items
    c.in_ok-log.ensures.log in
    let few = c.in_ok-lines.ensures.few in
    omega (arith, each, few)

pub returns-clause-each : goal.returns-clause-each
returns-clause-each c = same_count c.in_ok-lines.lines.items c.in_ok-log.log.history c.in_ok-log.log.calls.items
    c.in_ok-log.ensures.log
