-- More of the history was seen, and nothing else changed.
use Rattle.std.proofs.Common.{ap, ◌∙◌}
use Rattle.kfifo_renewing.specs.Renewing.{Generations, opening_in}
use Rattle.kfifo_renewing.proofs.Joining.{joined-later}
use Rattle.kfifo_renewing.proofs.Following.{later-by}
use Rattle.kfifo_renewing.proofs.handle.RenewingHandle.clear_below.Goals as goal

pub invariant_of-self : goal.invariant_of-self
invariant_of-self g c = (
  let s = c.self.inside in
      joined-later (opening_in s.shared.value) s.shared.value.history.book s.history.book
      c.clear_below.new.history.book s.history.log
      c.clear_below.new.history.log s.generation.value s.newest s.older.items c.self.invariant.0
      c.clear_below.ensures.later.0
      c.clear_below.ensures.later.1 c.clear_below.ensures.risen,
  c.self.invariant.1,
)

pub returns-clause-later : goal.returns-clause-later
returns-clause-later g c =
    let T = g.row.T.Denot in
    later-by c.args.self.now _ c.self.inside.history.log (ap (λ (v : Generations T). v.opened) c.self.view_is)
    (ap (λ (v : Generations T). v.thread) c.self.view_is)
    (c.clear_below.ensures.later.0 ∙ ap (λ (v : Generations T). v.book) c.self.view_is)
    (ap (λ (v : Generations T). v.seen) c.self.view_is) c.clear_below.ensures.later.1 c.clear_below.ensures.risen
