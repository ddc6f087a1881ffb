use Rattle.std.proofs.Common.{◌≡◌, ◌==◌, None, sym, ap, ◌∙◌, subst}
use prog.Atomic.{either}
use Rattle.logbook.specs.Pages.{Moves, step}
use Rattle.kfifo_renewing.specs.declared.change.Change.TheVariants as C
use Rattle.kfifo_renewing.specs.History.{IsKept, LabelView, Fills, label_of, shows}
use Rattle.kfifo_renewing.proofs.Keeping.{even-by, moved, shown, shows-moves}
use Rattle.kfifo_renewing.proofs.label.Label.show.Goals as goal

pub compare_exchange-requires : goal.compare_exchange-requires
compare_exchange-requires c =
    let h = c.self.invariant in
    let offer = c.plain-offer.ensures in
    let book = ap (λ (v : LabelView). v.book) c.self.view_is in
    let log = c.args.history.now.log in
    let pen = c.no_pen-pen.result.nib in
    let place = c.self.inside.place in
    let n = c.args.number in
    let none = c.args.none in
    let up : shows n ≡ c.showing.result = sym c.showing.ensures.0 in (
      ap (λ w. w.tracked) h.0,
      c.requires.book ∙ sym book,
      c.no_pen-pen.ensures.0 ∙ c.requires.book ∙ sym book,
      offer.0,
      rw (ap (λ w. w.key) h.0, offer.3) (subst (λ m. Moves IsKept shown moved (label_of place) (log, (pen, None))
          (λ k. either (k == none) m k) (Fills (step (label_of place) none m (C.Newest n)) (log, (pen, None)))) up
          (shows-moves log pen n place none (C.Newest n) h.1 c.ranges.number.fits (even-by none c.requires.none)
          c.requires.newest)),
    )
