-- The handle is in the same generations after the look.
use Rattle.std.proofs.Common.{ap, ◌∙◌, subst, sym}
use Rattle.kfifo_pool.specs.Pooled.{Pooled}
use Rattle.kfifo_renewing.specs.Joining.{PartView}
use Rattle.kfifo_renewing.specs.Renewing.{Generations, HasAll, with_newest}
use Rattle.kfifo_renewing.proofs.handle.RenewingHandle.start_giving.Goals as goal

pub returns-then-is_behind-clause-all : goal.returns-then-is_behind-clause-all
returns-then-is_behind-clause-all g c =
    let T = g.row.T.Denot in
    let mid = c.is_behind.new.self in
    let same = ap (λ (h : Generations T). with_newest h c.stop_giving.new.self.handle) c.self-2.view_is
    ∙ ap (λ (h : Pooled T). with_newest mid h) (ap (λ (p : PartView T). p.handle) c.stop_giving.ensures
    ∙ ap (λ (h : Generations T). h.newest) c.self-2.view_is) in
    subst (λ (v : Generations T). HasAll v) (sym same) c.is_behind.ensures.all
