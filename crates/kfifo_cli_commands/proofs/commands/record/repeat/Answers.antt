use Rattle.std.proofs.Common.{subst, sym}
use Rattle.kfifo_record.specs.Scripts.{AreScripts, scripts_in}
use Rattle.kfifo_record.proofs.Repeated.{repeated_in_range}
use Rattle.kfifo_cli_commands.proofs.commands.record.repeat.Goals as goal

pub returns-in_ok-made-in-None-clause-range : goal.returns-in_ok-made-in-None-clause-range
returns-in_ok-made-in-None-clause-range c = λ shape all.
    subst (AreScripts shape) (sym c.in_ok-made-in-None.ensures)
    (repeated_in_range shape c.args.count (scripts_in c.args.scripts.now) all c.in-None.ensures)
