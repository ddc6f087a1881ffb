use Rattle.std.proofs.Common.{sym, ap, ◌∙◌, subst}
use Rattle.kfifo_renewing.specs.declared.change.Change.TheVariants as C
use Rattle.kfifo_renewing.specs.History.{LabelView, TellsPlace}
use Rattle.kfifo_renewing.proofs.Keeping.{there-moves}
use Rattle.kfifo_renewing.proofs.label.Label.read.Goals as goal

pub load-requires : goal.load-requires
load-requires c =
    let h = c.self.invariant in
    let offer = c.plain-offer.ensures in (
      ap (λ w. w.tracked) h.0,
      c.requires ∙ sym (ap (λ (v : LabelView). v.book) c.self.view_is),
      offer.0,
      rw (ap (λ w. w.key) h.0, offer.3)
          (there-moves c.args.history.now.log c.self.inside.place (C.Newest c.self.inside.place) h.1),
    )

pub returns-clause-tells : goal.returns-clause-tells
returns-clause-tells c =
    subst (λ n. TellsPlace c.load.new.seen.log n c.load.result) (ap (λ (v : LabelView). v.place) c.self.view_is)
    (c.load.ensures.6.1 c.self.inside.place (ap (λ w. w.key) c.self.invariant.0)).0

pub returns-clause-kept : goal.returns-clause-kept
returns-clause-kept c = (c.load.ensures.6.1 c.self.inside.place (ap (λ w. w.key) c.self.invariant.0)).2
