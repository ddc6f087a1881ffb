-- The handle looks, and then looks how far others have come.
use Rattle.std.proofs.Common.{ap, ◌∙◌, subst}
use mathlib.Core.List.{IsPrefix}
use Rattle.kfifo_renewing.specs.History.{sight_of}
use Rattle.kfifo_renewing.specs.Renewing.{Generations, opening_in}
use Rattle.kfifo_renewing.proofs.Histories.{prefix-trans, risen-from}
use Rattle.kfifo_renewing.proofs.Joining.{joined-later}
use Rattle.kfifo_renewing.proofs.Following.{was-prefix}
use Rattle.kfifo_renewing.proofs.handle.RenewingHandle.latest.Goals as goal

pub invariant_of-self : goal.invariant_of-self
invariant_of-self g c = (
  let i = c.self.invariant.0 in
      let log = c.self.inside.history.log in
      let mid = c.look-found.new.history.log in
      let new = c.newest.new.history.log in
      let finds = c.look-found.ensures.finds in
      let more = prefix-trans log mid new (was-prefix (sight_of c.self.inside.newest.handle.held.pass.pass) finds.number
      log mid finds.was) c.newest.ensures.later.1 in
      joined-later (opening_in c.self.inside.shared.value) c.self.inside.shared.value.history.book
      c.self.inside.history.book
      c.newest.new.history.book log new c.self.inside.generation.value c.self.inside.newest c.self.inside.older.items i
      (c.newest.ensures.later.0 ∙ c.look-found.ensures.book) more c.newest.ensures.risen,
  c.self.invariant.1,
)

pub returns-clause-later : goal.returns-clause-later
returns-clause-later g c =
    let log = c.self.inside.history.log in
    let mid = c.look-found.new.history.log in
    let new = c.newest.new.history.log in
    let finds = c.look-found.ensures.finds in
    let more = prefix-trans log mid new (was-prefix (sight_of c.self.inside.newest.handle.held.pass.pass) finds.number
    log mid finds.was) c.newest.ensures.later.1 in
    let seen = ap (λ (h : Generations g.row.T.Denot). h.seen) c.self.view_is in
    record {
      opened = ap (λ (h : Generations g.row.T.Denot). h.opened) c.self.view_is;
      thread = ap (λ (h : Generations g.row.T.Denot). h.thread) c.self.view_is;
      book = c.newest.ensures.later.0 ∙ c.look-found.ensures.book
          ∙ ap (λ (h : Generations g.row.T.Denot). h.book) c.self.view_is;
      seen = subst (λ l. IsPrefix l new) seen more;
      risen = risen-from c.args.self.now.seen new (subst (λ l. IsPrefix l new) seen more) c.newest.ensures.risen;
    }
