use Rattle.std.proofs.Common.{sym, ap, ◌∙◌, subst}
use Rattle.kfifo_renewing.specs.History.{Finds, NextView, WasNewest, next_in, sight_of}
use Rattle.kfifo_renewing.proofs.Keeping.{looks-moves}
use Rattle.kfifo_renewing.proofs.history.Next.read.Goals as goal

pub load-requires : goal.load-requires
load-requires g c =
    let h = c.self.invariant in
    let offer = c.plain-offer.ensures in
    let number = ap (λ (v : NextView). v.number) c.self.view_is in (
      ap (λ w. w.tracked) h,
      c.requires.book ∙ sym (ap (λ (v : NextView). v.book) c.self.view_is),
      offer.0,
      rw (ap (λ w. w.key) h, offer.1, offer.3)
          (looks-moves c.args.history.now.log (sight_of c.args.part.now.handle.held.pass.pass) c.self.inside.number
          (subst (WasNewest c.args.history.now.log) (sym number) c.requires.newest)),
    )

pub returns-clause-finds : goal.returns-clause-finds
returns-clause-finds g c =
    let h = c.self.invariant in
    let number = ap (λ (v : NextView). v.number) c.self.view_is in
    subst (λ n. Finds (sight_of c.args.part.now.handle.held.pass.pass) n (next_in c.load.result) c.args.history.now.log
    c.load.new.seen.log) number
    (c.load.ensures.6.1 (sight_of c.args.part.now.handle.held.pass.pass) c.self.inside.number c.plain-offer.ensures.1
    (ap (λ w. w.key) h))
