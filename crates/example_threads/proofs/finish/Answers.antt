-- The passes of the workers are those that are given back.
use Rattle.std.proofs.Common.{All, sym, subst}
use Rattle.std.proofs.lemmas.List.Elements.{All-map}
use Rattle.kfifo_live.specs.Pass.{IsPassOf}
use Rattle.example_threads.proofs.finish.Goals as goal

pub close-requires : goal.close-requires
close-requires c = subst (All (IsPassOf c.args.queue)) (sym c.in_ok-passes.ensures)
    (All-map (IsPassOf c.args.queue) (λ w. w.handle.pass) c.args.workers.items c.requires)
