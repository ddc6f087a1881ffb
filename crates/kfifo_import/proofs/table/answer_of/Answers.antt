use Rattle.std.proofs.Common.{MatchOption, sym, subst}
use Rattle.kfifo_model.specs.declared.calls.Answer.{Answer}
use Rattle.kfifo_model.specs.declared.calls.Op.{Op}
use Rattle.kfifo_import.specs.Fields.{IsAnswer}
use Rattle.kfifo_import.proofs.table.answer_of.Goals as goal

pub returns-in-Dequeue : goal.returns-in-Dequeue
returns-in-Dequeue c =
    let Says : Op → Type 0 = λ op. MatchOption c.take_answer_beside.result
    ((answer : Answer) → ¬ (IsAnswer op c.args.text.now c.args.item answer))
    (IsAnswer op c.args.text.now c.args.item) in
    subst Says (sym c.in-Dequeue.is) (c.take_answer_beside.ensures c.args.text.now c.of-word.ensures)
