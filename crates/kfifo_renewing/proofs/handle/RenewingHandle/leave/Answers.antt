-- A generation that has gone is left, and the others stay.
use Rattle.std.proofs.Common.{◌≡◌, ◌<◌, MatchBool, sym, ap, ◌∙◌, subst}
use Rattle.kfifo_renewing.specs.Joining.{HasSealedAt, IsPartOf, LeavesAt, PartView, held_by, held_in}
use Rattle.kfifo_renewing.specs.Renewing.{Generations, opening_in}
use Rattle.kfifo_renewing.specs.History.{newest_of}
use Rattle.kfifo_renewing.proofs.Histories.{prefix-trans, risen-was}
use Rattle.kfifo_renewing.proofs.Keeping.{kept-risen}
use Rattle.kfifo_renewing.proofs.Joining.{at-all, below-newest, held-left, joined-later, joined-left}
use Rattle.kfifo_renewing.proofs.Joining.{part-at, part-there, sealed-at}
use Rattle.kfifo_renewing.proofs.Following.{later-by}
use Rattle.kfifo_renewing.proofs.Departures.{left-later}
use Rattle.kfifo_renewing.proofs.handle.RenewingHandle.leave.Goals as goal

pub leave-has_left-requires-clause-may : goal.leave-has_left-requires-clause-may
leave-has_left-requires-clause-may g c =
    let T = g.row.T.Denot in
    let s = c.self.inside in
    let j = c.self.invariant.0 in
    let items = s.older.items in
    let i = c.args.index in
    let p : PartView T = c.index-parts-index.result in
    let at = part-there items c.parts.result.now c.args.self.now.older i p c.parts.ensures
    (ap (λ (h : Generations T). h.older) c.self.view_is) c.requires.index c.index-parts-index.is in (
      p,
      at,
      record {
        same_book = (at-all (IsPartOf (opening_in s.shared.value) s.history.book) items i p j.older_opened at).1;
        part = part-at s.history.log items i p j.older_parts at;
        over = at-all (λ (q : PartView T). q.number < newest_of s.history.log) items i p
            (below-newest items s.generation.value.number (newest_of s.history.log)
            (risen-was s.history.log s.generation.value.number j.risen j.was) j.below) at;
        sealed = λ asked. sealed-at items i p at (subst (λ hs. HasSealedAt hs i)
            (sym (ap (λ (h : Generations T). h.older) c.self.view_is)) (c.requires.sealed asked));
      },
    )

pub invariant_of-self : goal.invariant_of-self
invariant_of-self g c = (
  let T = g.row.T.Denot in
      let s = c.self.inside in
      let left = c.leave-has_left.ensures in
      let mid = c.leave-has_left.new.history.log in
      let log = c.learn.new.self.log in
      let p : PartView T = c.index-parts-index.result in
      let at = part-there s.older.items c.parts.result.now c.args.self.now.older c.args.index p c.parts.ensures
      (ap (λ (h : Generations T). h.older) c.self.view_is) c.requires.index c.index-parts-index.is in
      let o = opening_in s.shared.value in
      joined-left c.leave-has_left.result o s.shared.value.history.book c.learn.new.self.book log s.generation.value
      s.newest s.older.items c.leave-has_left.new.self.items c.args.index p
      (joined-later o s.shared.value.history.book s.history.book c.learn.new.self.book s.history.log log
      s.generation.value s.newest s.older.items c.self.invariant.0 (c.learn.ensures.0 ∙ left.later.0)
      (prefix-trans s.history.log mid log left.later.1 c.learn.ensures.2)
      (kept-risen c.learn.ensures.4.0 log c.learn.ensures.4.1))
      left.items at (λ won. left-later mid log (held_in p) c.learn.ensures.2 (left.left won p at)),
  c.self.invariant.1,
)

pub returns-clause-later : goal.returns-clause-later
returns-clause-later g c =
    let T = g.row.T.Denot in
    let v = c.self.view_is in
    let left = c.leave-has_left.ensures in
    let mid = c.leave-has_left.new.history.log in
    let log = c.learn.new.self.log in
    later-by c.args.self.now _ c.self.inside.history.log (ap (λ (h : Generations T). h.opened) v)
    (ap (λ (h : Generations T). h.thread) v)
    (c.learn.ensures.0 ∙ left.later.0 ∙ ap (λ (h : Generations T). h.book) v) (ap (λ (h : Generations T). h.seen) v)
    (prefix-trans c.self.inside.history.log mid log left.later.1 c.learn.ensures.2)
    (kept-risen c.learn.ensures.4.0 log c.learn.ensures.4.1)

pub returns-clause-left : goal.returns-clause-left
returns-clause-left g c =
    let T = g.row.T.Denot in
    let items = c.self.inside.older.items in
    let new = held_by c.leave-has_left.new.self.items in
    let left = c.leave-has_left.ensures in
    let mid = c.leave-has_left.new.history.log in
    let log = c.learn.new.self.log in
    let p : PartView T = c.index-parts-index.result in
    let at = part-there items c.parts.result.now c.args.self.now.older c.args.index p c.parts.ensures
    (ap (λ (h : Generations T). h.older) c.self.view_is) c.requires.index c.index-parts-index.is in
    subst (λ hs. MatchBool c.leave-has_left.result (LeavesAt log c.args.index hs new) (new ≡ hs))
    (ap (λ (h : Generations T). h.older) c.self.view_is)
    (held-left c.leave-has_left.result log items c.leave-has_left.new.self.items c.args.index p left.items at
    (c.has_cell.ensures.0 c.if-has_cell.false)
    (λ won. left-later mid log (held_in p) c.learn.ensures.2 (left.left won p at)))
