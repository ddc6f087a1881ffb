-- The generation has gone, also as more of the history is seen.
use Rattle.std.proofs.Common.{◌≡◌, arith, ap, sym, subst}
use Rattle.kfifo_renewing.specs.History.{IsPlaced, LabelView}
use Rattle.kfifo_renewing.specs.Joining.{PartView}
use Rattle.kfifo_renewing.proofs.Histories.{gone-later}
use Rattle.kfifo_renewing.proofs.Joining.{get-at}
use Rattle.kfifo_renewing.proofs.places.Places.retire.Goals as goal

pub returns-clause-gone : goal.returns-clause-gone
returns-clause-gone g c =
    let part : PartView g.row.T.Denot = c.args.part.now in
    let label : LabelView = c.index.result.now in
    let labels = c.self.invariant.2 in
    let inside = c.requires.part.inside in
    let at = get-at c.self.inside.labels.items c.place.result label label
    (omega (arith, labels.0, inside, c.place.ensures)) c.index.ensures in
    let each = labels.1 c.place.result (omega (arith, inside, c.place.ensures)) in
    let is : label ≡ record { place = c.place.result; book = c.self.inside.lineage.history.book } = cc (at, each) in
    let there = subst (IsPlaced c.args.history.now.log part.number) (sym c.place.ensures) c.requires.part.placed in
    gone-later c.leave.new.history.log c.learn.new.self.log part.number c.learn.ensures.2
    (c.leave.ensures.gone
    (subst (IsPlaced c.args.history.now.log part.number) (sym (ap (λ (v : LabelView). v.place) is)) there))
