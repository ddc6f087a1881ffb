use Rattle.std.proofs.Common.{sym, subst}
use Rattle.kfifo_renewing.specs.History.{Finds, sight_of}
use Rattle.kfifo_renewing.proofs.history.Next.look.Goals as goal

pub returns-clause-finds : goal.returns-clause-finds
returns-clause-finds g c =
    subst (λ n. Finds (sight_of c.args.part.now.handle.held.pass.pass) c.args.self.now.number n c.args.history.now.log
    c.read.new.history.log) (sym c.next_in.ensures) c.read.ensures.finds
