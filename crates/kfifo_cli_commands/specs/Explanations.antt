-- Why the command `explain` has no answer. Nothing is said here of what the text says.
use Rattle.kfifo_cli_texts.specs.declared.fault.Fault.{Fault}
use Rattle.kfifo_cli_texts.specs.declared.fault.Fault.TheVariants.{Unexplained, Memory}

abbrev pub IsExplainRefusal : Fault → Type 0
IsExplainRefusal Unexplained = Unit {0}
IsExplainRefusal Memory = Unit {0}
IsExplainRefusal _ = ⊥
