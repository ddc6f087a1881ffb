use Rattle.std.proofs.Common.{inr}
use Rattle.kfifo_cli_commands.proofs.commands.check.judge.Goals as goal

pub returns-clause-err : goal.returns-clause-err
returns-clause-err g c =
    inr (inr (c.as_slice.result.now, rw c.as_slice.ensures.value c.in_ok-bytes.ensures.ok, c.in-Err.ensures))
