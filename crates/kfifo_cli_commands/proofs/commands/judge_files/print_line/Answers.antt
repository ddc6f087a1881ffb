use Rattle.std.proofs.Common.{refl, inl}
use Rattle.kfifo_cli_texts.specs.declared.fault.Fault.TheVariants.{Memory}
use Rattle.kfifo_cli_commands.specs.declared.tally.Found.TheVariants.{Unjudged}
use Rattle.kfifo_cli_commands.proofs.Refusals.{any_err}
use Rattle.kfifo_cli_commands.proofs.commands.judge_files.print_line.Goals as goal

pub returns-in_err-print-in-Err-clause-err : goal.returns-in_err-print-in-Err-clause-err
returns-in_err-print-in-Err-clause-err g c = any_err c.from_residual-in_err-print-in-Err.result _ (λ fault. (
  c.as_bytes-in-Err.result.now,
  Unjudged Memory,
  rw c.as_bytes-in-Err.ensures.value (inl refl, c.requires),
  c.in_err-print-in-Err.ensures.err,
))
