use Rattle.kfifo_model.specs.declared.spellings.OpWord.TheVariants.{Enq, Deq}
use Rattle.kfifo_model.specs.declared.calls.Op.TheVariants.{Enqueue, Dequeue}
use Rattle.kfifo_import.proofs.table.op_of.Goals as goal

pub returns-in-None : goal.returns-in-None
returns-in-None c (Enqueue x) is = c.in-None.ensures Enq is.0
returns-in-None c Dequeue is = c.in-None.ensures Deq is
