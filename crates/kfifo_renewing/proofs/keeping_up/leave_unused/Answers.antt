-- What holds of all parts holds of the last one, and of those before it.
use Rattle.std.proofs.Common.{Some}
use Rattle.std.proofs.lemmas.List.Elements.{All-pop}
use Rattle.kfifo_renewing.specs.Joining.{PartView}
use Rattle.kfifo_renewing.specs.Renewing.{IsUntouched}
use Rattle.kfifo_renewing.proofs.keeping_up.leave_unused.Goals as goal

pub leave_unused-requires : goal.leave_unused-requires
leave_unused-requires g c =
    (All-pop (λ (p : PartView g.row.T.Denot). IsUntouched p.handle) c.loop-part.parts.items c.pop.new.self.items
    (Some c.in-Some.part)
    c.in-Some.ensures.items c.loop-part.invariant).1

pub loop-part-preserved : goal.loop-part-preserved
loop-part-preserved g c =
    (All-pop (λ (p : PartView g.row.T.Denot). IsUntouched p.handle) c.loop-part.parts.items c.pop.new.self.items
    (Some c.in-Some.part)
    c.in-Some.ensures.items c.loop-part.invariant).0
