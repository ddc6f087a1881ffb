use Rattle.std.proofs.Common.{◌≡◌, ◌+◌, ◌==◌, None, arith, refl, sym, ap, ◌∙◌, subst}
use prog.Atomic.{either}
use Rattle.logbook.specs.Pages.{Moves, step}
use Rattle.kfifo_renewing.specs.declared.change.Change.TheVariants as C
use Rattle.kfifo_renewing.specs.History.{IsKept, IsPlaced, LabelView, Empties, label_of, sealed_by, shows}
use Rattle.kfifo_renewing.proofs.Emptying.{IsSealedAt, leaves-moves}
use Rattle.kfifo_renewing.proofs.Keeping.{moved, shown}
use Rattle.kfifo_renewing.proofs.label.Label.leave.Goals as goal

pub compare_exchange-requires : goal.compare_exchange-requires
compare_exchange-requires g c =
    let h = c.self.invariant in
    let offer = c.plain-offer.ensures in
    let book = ap (λ (v : LabelView). v.book) c.self.view_is in
    let log = c.args.history.now.log in
    let n = c.args.part.now.number in
    let pen = c.no_pen-pen.result.nib in
    let place = c.self.inside.place in
    let s = sealed_by n c.args.part.now.handle.held.pass.pass in
    let sealed : IsSealedAt log s n =
    record { number = refl; made = c.requires.part.made; empty = c.requires.empty.0 } in
    let up : shows n ≡ c.showing-shown.result = omega (arith, c.showing-shown.ensures.0, c.number.ensures) in (
      ap (λ w. w.tracked) h.0,
      c.requires.book ∙ sym book,
      c.no_pen-pen.ensures.0 ∙ c.requires.book ∙ sym book,
      offer.0,
      rw (ap (λ w. w.key) h.0, offer.3) (subst (λ m. Moves IsKept shown moved (label_of place) (log, (pen, None))
          (λ k. either (k == m) (m + 1) k) (Empties (step (label_of place) m (m + 1) (C.Gone s)) (log, (pen, None)))) up
          (leaves-moves log pen s n place (C.Gone s) h.1 (omega (arith, c.showing-shown.ensures.1, up)) c.requires.over
          sealed)),
    )

pub returns-clause-gone : goal.returns-clause-gone
returns-clause-gone g c there =
    let n = c.args.part.now.number in
    let log = c.args.history.now.log in
    let up : c.showing-shown.result ≡ shows n = omega (arith, c.showing-shown.ensures.0, c.number.ensures) in
    c.compare_exchange.ensures.7 n c.self.inside.place up (ap (λ w. w.key) c.self.invariant.0)
    (subst (IsPlaced log n) (sym (ap (λ (v : LabelView). v.place) c.self.view_is)) there)
