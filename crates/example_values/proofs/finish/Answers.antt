-- The handles of the workers are those that are given back.
use Rattle.std.proofs.Common.{List, sym, subst}
use Rattle.kfifo_renewing.specs.Renewing.{AreOfOneQueue, Generations}
use Rattle.example_values.proofs.finish.Goals as goal

pub close-requires : goal.close-requires
close-requires c = subst (λ (hs : List (Generations _)). AreOfOneQueue hs) (sym c.in_ok-handles.ensures) c.requires
