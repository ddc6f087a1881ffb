-- None of the parts has a cell.
use Rattle.std.proofs.Common.{◌≡◌, All, None, drop, subst, sym}
use Rattle.kfifo_renewing.specs.Cells.{reserved_in}
use Rattle.kfifo_renewing.specs.Joining.{HasNoCell, OlderView, held_by}
use Rattle.kfifo_renewing.proofs.NoCells.{reserved-none}
use Rattle.kfifo_renewing.proofs.older.Older+unit.reserved.Goals as goal

pub returns-then-self-eq0 : goal.returns-then-self-eq0
returns-then-self-eq0 c =
    subst (λ (o : OlderView (Unit {0})). None ≡ reserved_in (held_by o.items)) c.self.view_is
    (sym (reserved-none c.self.inside.parts.items (subst (λ n. All HasNoCell (drop n c.self.inside.parts.items))
    c.if-self-eq0.true c.self.invariant)))
