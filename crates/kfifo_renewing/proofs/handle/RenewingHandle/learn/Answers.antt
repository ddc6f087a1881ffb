use Rattle.std.proofs.Common.{ap, ◌∙◌, subst}
use mathlib.Core.List.{IsPrefix}
use Rattle.kfifo_renewing.specs.Renewing.{Generations, opening_in}
use Rattle.kfifo_renewing.proofs.Histories.{risen-from}
use Rattle.kfifo_renewing.proofs.Joining.{joined-later}
use Rattle.kfifo_renewing.proofs.handle.RenewingHandle.learn.Goals as goal

pub invariant_of-self : goal.invariant_of-self
invariant_of-self g c = (
  joined-later (opening_in c.self.inside.shared.value) c.self.inside.shared.value.history.book
      c.self.inside.history.book c.learn.new.self.book c.self.inside.history.log c.learn.new.self.log
      c.self.inside.generation.value c.self.inside.newest c.self.inside.older.items c.self.invariant.0
      c.learn.ensures.0 c.learn.ensures.2 c.learn.ensures.4.1.holds.risen,
  c.self.invariant.1,
)

pub returns-clause-later : goal.returns-clause-later
returns-clause-later g c =
    let new = c.learn.new.self.log in
    let seen = ap (λ (h : Generations g.row.T.Denot). h.seen) c.self.view_is in
    let more = subst (λ l. IsPrefix l new) seen c.learn.ensures.2 in
    record {
      opened = ap (λ (h : Generations g.row.T.Denot). h.opened) c.self.view_is;
      thread = ap (λ (h : Generations g.row.T.Denot). h.thread) c.self.view_is;
      book = c.learn.ensures.0 ∙ ap (λ (h : Generations g.row.T.Denot). h.book) c.self.view_is;
      seen = more;
      risen = risen-from c.args.self.now.seen new more c.learn.ensures.4.1.holds.risen;
    }
