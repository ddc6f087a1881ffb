use Rattle.std.proofs.Common.{◌≡◌, ◌+◌, ◌-◌, ◌<◌, ◌^◌, ◌==◌, None, arith, sym, ap, ◌∙◌, subst, true}
use prog.Atomic.{either}
use Rattle.logbook.specs.Pages.{step, Moves}
use Rattle.kfifo_renewing.specs.History.{GivesNumber, IsKept, made_by, making_of}
use Rattle.kfifo_renewing.proofs.Keeping.{moved, shown}
use Rattle.kfifo_renewing.proofs.Making.{numbers-moves}
use Rattle.kfifo_renewing.proofs.history.Numbers.step_to.Goals as goal

pub compare_exchange-requires : goal.compare_exchange-requires
compare_exchange-requires g c =
    let h = c.self.invariant.0 in
    let offer = c.plain-offer.ensures in
    let log = c.args.history.now.log in
    let pen = c.args.pen.now.nib in
    let queue = c.args.queue.now in
    let n = c.from-new.result in
    let before : n - 1 + 1 ≡ n = omega (arith, c.from-new.ensures, c.requires.number) in
    let room : n - 1 + 1 < 2 ^ 32 = omega (arith, before, c.from-new.ensures, c.ranges.number.fits) in (
      ap (λ w. w.tracked) h,
      c.requires.book.0 ∙ sym c.self.view_is,
      c.requires.book.1 ∙ sym c.self.view_is,
      offer.0,
      rw (ap (λ w. w.key) h, offer.1, offer.3) (subst (λ m. Moves IsKept shown moved 0 (log, (pen, None))
          (λ k. either (k == n - 1) m k) (GivesNumber (step 0 (n - 1) m (making_of queue true)) (
            log,
            (
              pen,
              None,
            ),
          ))) before
          (numbers-moves log pen (made_by queue) (n - 1) room)),
    )
