use Rattle.std.proofs.Common.{◌<◌, sym, ap, ◌∙◌, subst}
use Rattle.kfifo_renewing.specs.declared.change.Change.TheVariants as C
use Rattle.kfifo_renewing.specs.History.{IsPlaced, NextView, WasNewest}
use Rattle.kfifo_renewing.proofs.Making.{renews-moves}
use Rattle.kfifo_renewing.proofs.history.Next.renew.Goals as goal

pub compare_exchange-found-requires : goal.compare_exchange-found-requires
compare_exchange-found-requires c =
    let h = c.self.invariant in
    let offer = c.plain-offer.ensures in
    let book = ap (λ (v : NextView). v.book) c.self.view_is in
    let number = ap (λ (v : NextView). v.number) c.self.view_is in
    let log = c.args.history.now.log in
    let there = c.requires.there in (
      ap (λ w. w.tracked) h,
      c.requires.books.0 ∙ sym book,
      c.requires.books.1 ∙ sym book,
      offer.0,
      rw (ap (λ w. w.key) h, c.requires.pen, offer.3, c.from.ensures)
          (renews-moves log c.self.inside.number c.args.number there.0 (C.Newest c.args.number)
          (subst (WasNewest log) (sym number) c.requires.newest)
          (subst (λ n. n < c.args.number) (sym number) c.requires.later) there.1
          (subst (λ n. IsPlaced log n there.0) (sym number) there.2) c.requires.more),
    )
