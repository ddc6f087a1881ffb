-- More of the history was seen.
use Rattle.std.proofs.Common.{ap, ◌∙◌}
use Rattle.kfifo_renewing.specs.Renewing.{Generations, opening_in}
use Rattle.kfifo_renewing.proofs.Following.{later-by}
use Rattle.kfifo_renewing.proofs.Joining.{joined-later}
use Rattle.kfifo_renewing.proofs.Keeping.{kept-risen}
use Rattle.kfifo_renewing.proofs.handle.RenewingHandle.is_shown.Goals as goal

pub invariant_of-self : goal.invariant_of-self
invariant_of-self g c = (
  let s = c.self.inside in
      let has = c.has.ensures in
      joined-later (opening_in s.shared.value) s.shared.value.history.book s.history.book c.has.new.history.book
      s.history.log c.has.new.history.log s.generation.value s.newest s.older.items c.self.invariant.0 has.later.0
      has.later.1 (kept-risen has.kept.0 c.has.new.history.log has.kept.1),
  c.self.invariant.1,
)

pub returns-clause-later : goal.returns-clause-later
returns-clause-later g c =
    let v = c.self.view_is in
    let has = c.has.ensures in
    later-by c.args.self.now _ c.self.inside.history.log (ap (λ (h : Generations g.row.T.Denot). h.opened) v)
    (ap (λ (h : Generations g.row.T.Denot). h.thread) v)
    (has.later.0 ∙ ap (λ (h : Generations g.row.T.Denot). h.book) v) (ap (λ (h : Generations g.row.T.Denot). h.seen) v)
    has.later.1 (kept-risen has.kept.0 c.has.new.history.log has.kept.1)
