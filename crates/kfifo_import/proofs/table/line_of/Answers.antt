use Rattle.csv.specs.Records.{field_at, fields_of}
use Rattle.kfifo_import.proofs.Texts.{no_item, small_given}
use Rattle.kfifo_import.proofs.table.line_of.Goals as goal

pub returns-in_err-item : goal.returns-in_err-item
returns-in_err-item c =
    rw c.from_residual.ensures (no_item c.args.columns.now (fields_of c.args.row.now) c.in_err-item.ensures)

pub call_of-requires : goal.call_of-requires
call_of-requires c =
    rw c.small_item.ensures
    (small_given (field_at (fields_of c.args.row.now) c.args.columns.now.item) c.in_ok-item.item c.in_ok-item.ensures)
