use Rattle.std.proofs.Common.{◌<◌}
use Rattle.csv.specs.Records.{fields_of}
use Rattle.kfifo_import.specs.Wrong.{FitsRule, column}
use Rattle.kfifo_import.specs.declared.wrong.Field.{Field}
use Rattle.kfifo_import.proofs.wrong.wrong_in.Given as goal

abbrev pub invariant-loop-place : goal.invariant-loop-place
invariant-loop-place l = (field : Field) → column l.columns field < l.place → FitsRule l.columns (fields_of l.row) field
