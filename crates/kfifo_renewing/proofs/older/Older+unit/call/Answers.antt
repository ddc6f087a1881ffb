-- None of the parts has a cell, so nothing is done.
use Rattle.std.proofs.Common.{All, drop, subst}
use Rattle.kfifo_live.specs.declared.payload.Given.TheVariants as G
use Rattle.kfifo_renewing.specs.Cells.{CallsFirst}
use Rattle.kfifo_renewing.specs.Joining.{HasNoCell, OlderView, held_by}
use Rattle.kfifo_renewing.proofs.Joining.{same-refl}
use Rattle.kfifo_renewing.proofs.NoCells.{finds-none}
use Rattle.kfifo_renewing.proofs.older.Older+unit.call.Goals as goal

pub returns-then-self-eq0-clause-same : goal.returns-then-self-eq0-clause-same
returns-then-self-eq0-clause-same c = same-refl c.args.self.now.items

pub returns-then-self-eq0-clause-calls : goal.returns-then-self-eq0-clause-calls
returns-then-self-eq0-clause-calls c =
    subst (λ (o : OlderView (Unit {0})). CallsFirst c.args.call (G.NoToken tt) (held_by o.items) (held_by o.items))
    c.self.view_is
    (finds-none c.args.call c.self.inside.parts.items (subst (λ n. All HasNoCell (drop n c.self.inside.parts.items))
    c.if-self-eq0.true c.self.invariant))
