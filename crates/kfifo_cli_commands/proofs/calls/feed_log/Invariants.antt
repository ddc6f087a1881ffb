use Rattle.std.proofs.Common.{◌≡◌}
use Rattle.kfifo_import.specs.declared.log.TheConstants.{MAX_LOG_CALLS}
use Rattle.kfifo_cli_commands.proofs.Intake.{IsFed}
use Rattle.kfifo_cli_commands.proofs.calls.feed_log.Given as goal

abbrev pub invariant-pieces : goal.invariant-pieces
invariant-pieces g l = record {
  fed : IsFed l.start (g.S.Source.remaining l.fn.source) (g.S.Source.remaining l.source) l.reader;
  most : l.reader.most ≡ MAX_LOG_CALLS;
  failures : g.S.Source.failed l.source ≡ g.S.Source.failed l.fn.source;
}
