-- The handles of an opening are untouched.
use Rattle.std.proofs.Common.{All, sym, subst}
use Rattle.kfifo_pool.specs.Pooled.{Pooled}
use Rattle.kfifo_renewing.specs.Renewing.{IsUntouched}
use Rattle.kfifo_renewing.proofs.Departures.{new_unused}
use Rattle.kfifo_renewing.proofs.kind.CellsKindUnit.open.Goals as goal

pub returns-clause-of : goal.returns-clause-of
returns-clause-of c i d inside =
    let T = Unit {0} in
    let ensures = c.in_ok-opened.ensures in (
      ensures.of i d inside,
      subst (All (λ (h : Pooled T). IsUntouched h)) (sym ensures.handles)
          (new_unused {T = T} c.in_ok-opened.opened.0 c.args.sizes.now.threads) i d inside,
    )
