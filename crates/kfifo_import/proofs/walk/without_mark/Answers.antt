use Rattle.std.proofs.Common.{arith, sym}
use Rattle.kfifo_import.proofs.Marks.{marked, unmarked, unmarked_short}
use Rattle.kfifo_import.proofs.walk.without_mark.Goals as goal
use Rattle.kfifo_import.proofs.walk.without_mark.Goals.{else-text-ge3-via-then-text-ge3+else-is_mark}
use Rattle.kfifo_import.proofs.walk.without_mark.Goals.{else-text-ge3-via-else-text-ge3}

pub returns-else-text-ge3 : goal.returns-else-text-ge3
returns-else-text-ge3 c = elim c.else-text-ge3.branch [
  | else-text-ge3-via-then-text-ge3+else-is_mark w ↦ unmarked c.args.text.now (sym (w.if-is_mark.ensures))
  | else-text-ge3-via-else-text-ge3 w ↦ unmarked_short c.args.text.now (omega arith)
]

pub returns-then-is_mark : goal.returns-then-is_mark
returns-then-is_mark c = marked c.args.text.now (omega arith) (sym c.if-is_mark.ensures)
