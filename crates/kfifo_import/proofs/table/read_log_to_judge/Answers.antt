use Rattle.std.proofs.Common.{arith}
use Rattle.kfifo_import.proofs.Logs.{call_for_each, same_count}
use Rattle.kfifo_import.proofs.table.read_log_to_judge.Goals as goal

pub returns-clause-few : goal.returns-clause-few
returns-clause-few c =
    let log = c.in_ok-log.ensures.log in
    let each = call_for_each log.judged c.in_ok-log.log.history c.in_ok-log.log.calls.items log.log in
    let few = log.log.few in
    omega (arith, each, few)

pub returns-clause-each : goal.returns-clause-each
returns-clause-each c =
    let log = c.in_ok-log.ensures.log in
    same_count log.judged c.in_ok-log.log.history c.in_ok-log.log.calls.items log.log
