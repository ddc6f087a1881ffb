use Rattle.std.proofs.Common.{subst}
use Rattle.kfifo_live.specs.Calls.{IsDisturbed}
use Rattle.kfifo_pool.specs.Pooled.{Pooled, pass_of}
use Rattle.kfifo_pool.proofs.handle.PooledHandle.take_or_seal.Goals as goal

pub returns-clause-busy : goal.returns-clause-busy
returns-clause-busy g c = λ busy.
    subst (λ (old : Pooled g.row.T.Denot). IsDisturbed (pass_of old.held) (pass_of c.take_or_seal.new.self))
    c.self.view_is
    (c.take_or_seal.ensures.busy busy)
