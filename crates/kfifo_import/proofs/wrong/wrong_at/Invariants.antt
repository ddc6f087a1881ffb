use Rattle.std.proofs.Common.{◌≡◌, ◌<◌, ℕ, slice_index_or}
use Rattle.csv.specs.Records.{fields_of}
use Rattle.kfifo_import.specs.Wrong.{FitsRule, all_fields, column}
use Rattle.kfifo_import.specs.declared.wrong.Field.TheVariants.{Thread}
use Rattle.kfifo_import.proofs.wrong.wrong_at.Given as goal

abbrev pub invariant-loop-number : goal.invariant-loop-number
invariant-loop-number l = (k : ℕ) → k < l.number → column l.columns (slice_index_or all_fields k Thread) ≡ l.place
    → FitsRule l.columns (fields_of l.row) (slice_index_or all_fields k Thread)
