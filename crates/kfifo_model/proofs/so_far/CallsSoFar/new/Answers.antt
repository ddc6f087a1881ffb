use Rattle.std.proofs.lemmas.List.{get_or-replicate}
use Rattle.kfifo_model.specs.declared.so_far.ThreadState.TheVariants.{Fresh}
use Rattle.kfifo_model.proofs.so_far.CallsSoFar.new.Goals as goal

pub returns-clause-threads : goal.returns-clause-threads
returns-clause-threads c = λ t d lt. get_or-replicate 64 t Fresh d lt
