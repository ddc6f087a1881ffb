use Rattle.std.proofs.Common.{◌≡◌, arith}
use Rattle.csv.specs.Records.{fields_of}
use Rattle.kfifo_import.specs.Wrong.{FitsRule, column}
use Rattle.kfifo_import.specs.declared.wrong.Field.{Field}
use Rattle.kfifo_import.specs.declared.wrong.Field.TheVariants.{Thread, Op, Item, First, Last, Answer}
use Rattle.kfifo_import.proofs.wrong.wrong_at.Goals as goal

pub returns : goal.returns
returns c = all
  where
    all : (field : Field) → column c.args.columns.now field ≡ c.args.place
        → FitsRule c.args.columns.now (fields_of c.args.row.now) field
    all Thread = c.loop-number.invariant 0 (omega arith)
    all Op = c.loop-number.invariant 1 (omega arith)
    all Item = c.loop-number.invariant 2 (omega arith)
    all First = c.loop-number.invariant 3 (omega arith)
    all Last = c.loop-number.invariant 4 (omega arith)
    all Answer = c.loop-number.invariant 5 (omega arith)
